use mathlib.Core.Path.{sym, ◌∙◌}
use Rattle.rules_laws.proofs.Bools.{not_true, not_false}
use Rattle.file.proofs.Loaded.{reads_wrong, reads_other, blank_fit, blank_tree, blank_edition, reads_settled}
use Rattle.file.proofs.read.Goals as goal

pub returns-then-not-valid_size : goal.returns-then-not-valid_size
returns-then-not-valid_size c =
    reads_wrong c.args.edition c.args.pool.now c.args.work.now c.args.file.now
    (sym c.valid_size.ensures ∙ not_true _ c.if-not-valid_size.true-raw)

pub returns-then-work-pool : goal.returns-then-work-pool
returns-then-work-pool c =
    reads_other c.args.edition c.args.pool.now c.args.work.now c.args.file.now
    (sym c.valid_size.ensures ∙ not_false _ c.if-not-valid_size.false-raw) c.if-work-pool.true

pub load_file-loaded-requires : goal.load_file-loaded-requires
load_file-loaded-requires c =
    record {
      fit = (
        blank_fit c.args.edition c.args.pool.now c.args.work.now c.args.file.now
            (sym c.valid_size.ensures ∙ not_false _ c.if-not-valid_size.false-raw) c.if-work-pool.false c.blank.ensures.words c.blank.auto.pool,
        blank_tree c.args.edition c.args.pool.now c.args.work.now c.args.file.now
            (sym c.valid_size.ensures ∙ not_false _ c.if-not-valid_size.false-raw) c.if-work-pool.false c.blank.ensures.words,
      );
      pool_value = blank_edition c.args.edition c.args.pool.now c.args.work.now c.args.file.now
          (sym c.valid_size.ensures ∙ not_false _ c.if-not-valid_size.false-raw) c.if-work-pool.false c.blank.ensures.words;
    }

pub settle-requires : goal.settle-requires
settle-requires c =
    c.load_file-loaded.auto.pool ∙ c.blank.auto.pool ∙ c.if-work-pool.false

pub returns : goal.returns
returns c =
    reads_settled c.args.edition c.args.pool.now c.args.work.now c.args.file.now
    (sym c.valid_size.ensures ∙ not_false _ c.if-not-valid_size.false-raw) c.if-work-pool.false c.blank.ensures.words _ _
    c.load_file-loaded.ensures c.is_ok.ensures.value c.settle.ensures.pool c.settle.ensures.workspace
