-- `load_file`: the head, and then the records.
use mathlib.Core.Path.{sym, ap, ◌∙◌}
use native.Mathlib.Omega.{arith}
use Rattle.rules_laws.proofs.Bools.{not_true, not_false}
use mir.Syntax.{w32}
use mir.Val.{of_z}
use Rattle.rules.specs.Layout.{read}
use Rattle.frames.proofs.Words.{word_kept, bits_same}
use Rattle.file.proofs.Dues.{due_long}
use Rattle.file.proofs.Heads.{head_missing, head_edition, head_count, head_loads}
use Rattle.file.proofs.load_file.Goals as goal

pub returns-then-not-is_due : goal.returns-then-not-is_due
returns-then-not-is_due c =
    head_missing c.args.edition _ c.args.file.now _
    (sym c.is_due.ensures ∙ not_true _ c.if-not-is_due.true-raw)

pub word_at-said-requires : goal.word_at-said-requires
word_at-said-requires c =
    omega (arith, due_long 16 2 c.args.file.now (sym c.is_due.ensures ∙ not_false _ c.if-not-is_due.false-raw))

pub word_at-count-requires : goal.word_at-count-requires
word_at-count-requires c =
    omega (arith, due_long 16 2 c.args.file.now (sym c.is_due.ensures ∙ not_false _ c.if-not-is_due.false-raw))

pub returns-then-said-number : goal.returns-then-said-number
returns-then-said-number c =
    head_edition c.args.edition (read c.args.pool.now) c.args.file.now _
    (sym c.is_due.ensures ∙ not_false _ c.if-not-is_due.false-raw) c.word_at-said.ensures c.number.ensures
    (λ e. c.if-said-number.true (ap (of_z w32) e))

pub returns-then-count-lt0 : goal.returns-then-count-lt0
returns-then-count-lt0 c =
    head_count c.args.edition (read c.args.pool.now) c.args.file.now _
    (sym c.is_due.ensures ∙ not_false _ c.if-not-is_due.false-raw) c.word_at-said.ensures c.number.ensures
    (bits_same c.word_at-said.type_inv c.number.type_inv c.if-said-number.false) c.word_at-count.ensures
    (rw (word_kept c.word_at-count.type_inv) at c.if-count-lt0.true)

pub load_records-requires-clause-in_bounds : goal.load_records-requires-clause-in_bounds
load_records-requires-clause-in_bounds c =
    omega (arith, due_long 16 2 c.args.file.now (sym c.is_due.ensures ∙ not_false _ c.if-not-is_due.false-raw))

pub returns : goal.returns
returns c =
    let kept = word_kept {z = c.word_at-count.result} c.word_at-count.type_inv in
    head_loads c.args.edition (read c.args.pool.now) c.args.file.now _
    (sym c.is_due.ensures ∙ not_false _ c.if-not-is_due.false-raw) c.word_at-said.ensures c.number.ensures
    (bits_same c.word_at-said.type_inv c.number.type_inv c.if-said-number.false) c.word_at-count.ensures
    (rw kept at c.if-count-lt0.false) c.load_records.result (rw kept at c.load_records.ensures)
