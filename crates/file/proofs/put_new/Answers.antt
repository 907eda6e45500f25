use mathlib.Core.Path.{sym, ap, ap₂, subst, ◌∙◌}
use Prim.Native.Nat.{◌+◌, ◌≤◌}
use native.Mathlib.Omega.{arith}
use lib.ListN.{length}
use Rattle.rules.specs.declared.Edition.{Edition}
use Rattle.rules.specs.declared.FoundRecord.{FoundRecord}
use Rattle.rules.specs.Owners.{of_owner}
use Rattle.rules.specs.Layout.{edition_of}
use Rattle.rules.specs.File.{record_frame}
use Rattle.rules_laws.proofs.Bools.{not_true, not_false}
use Rattle.found_items.specs.Items.{shown_at}
use Rattle.frames.proofs.Texts.{nothing_wrote, wrote_as}
use Rattle.file.specs.Loading.{record_bytes}
use Rattle.file.proofs.Sizes.{record_long}
use Rattle.file.proofs.News.{old_text, new_text, item_words_lem, item_spot}
use Rattle.file.proofs.put_new.Goals as goal

pub returns-then-not-is_new : goal.returns-then-not-is_new
returns-then-not-is_new c =
    wrote_as (sym (old_text c.args.pool.now c.args.items.now (edition_of c.args.pool.now) c.args.owner
    c.args.k (sym c.is_new.ensures ∙ not_true _ c.if-not-is_new.true-raw)))
    (nothing_wrote c.args.file.now c.args.at)

pub edition_of-edition-requires : goal.edition_of-edition-requires
edition_of-edition-requires c =
    omega (
      arith,
      item_spot c.args.pool.now c.args.items.now c.args.n c.args.k c.requires.listed c.requires.k_lt_n,
    )

pub item-f-requires : goal.item-f-requires
item-f-requires c =
    record {
      k_in_bounds = item_words_lem c.args.pool.now c.args.items.now c.args.n c.args.k c.requires.listed c.requires.k_lt_n;
      rect_size_in_bounds = item_spot c.args.pool.now c.args.items.now c.args.n c.args.k c.requires.listed c.requires.k_lt_n;
    }

pub put_record-requires : goal.put_record-requires
put_record-requires c =
    subst (λ (e : Edition). c.args.at + record_bytes e ≤ length c.args.file.now) (sym c.edition_of-edition.ensures)
    (omega (
      arith,
      c.requires.k_in_bounds,
      ap length
          (new_text c.args.pool.now c.args.items.now (edition_of c.args.pool.now) c.args.owner
          c.args.k (sym c.is_new.ensures ∙ not_false _ c.if-not-is_new.false-raw)),
      record_long (edition_of c.args.pool.now)
          (of_owner c.args.owner (shown_at c.args.pool.now c.args.items.now c.args.k)),
    ))

pub returns : goal.returns
returns c =
    wrote_as (ap₂ (λ (e : Edition) (f : FoundRecord). record_frame e (of_owner c.args.owner f)) c.edition_of-edition.ensures c.item-f.ensures
    ∙ sym (new_text c.args.pool.now c.args.items.now (edition_of c.args.pool.now) c.args.owner
    c.args.k (sym c.is_new.ensures ∙ not_false _ c.if-not-is_new.false-raw))) c.put_record.ensures
