-- The questions in turn: the first that fails answers for all.
use mathlib.Core.Path.{sym, ◌∙◌}
use Prim.Native.Nat.{ℕ}
use lib.ListN.{length-replicate}
use Rattle.rules.specs.Numbers.{most_slots}
use Rattle.rules_laws.proofs.Bools.{not_true, not_false}
use Rattle.pool.proofs.Lengths.{some_word}
use Rattle.sound.proofs.Tops.{mark_none, head_asks, head_refused, root_refused, rest_last}
use Rattle.sound.proofs.sound.Goals as goal

pub edition_of-edition-requires : goal.edition_of-edition-requires
edition_of-edition-requires c = some_word c.args.pool.words.now c.args.pool.right

pub returns-then-not-head_sound : goal.returns-then-not-head_sound
returns-then-not-head_sound c =
    head_refused c.args.pool.words.now c.args.pool.right (sym c.head_sound.ensures ∙ not_true _ c.if-not-head_sound.true-raw)

pub root_sound-requires : goal.root_sound-requires
root_sound-requires c =
    let h = head_asks c.args.pool.words.now c.args.pool.right (sym c.head_sound.ensures ∙ not_false _ c.if-not-head_sound.false-raw) in
    record {
      in_pool = rw c.root.ensures h.0;
      edition_value = c.edition_of-edition.ensures;
      seen_len = length-replicate {A = ℕ} most_slots 0;
      s_value = mark_none c.root.result;
      le_height = rw c.height.ensures h.1;
    }

pub returns-then-not-root_sound : goal.returns-then-not-root_sound
returns-then-not-root_sound c =
    root_refused c.args.pool.words.now c.args.pool.right (rw (c.height.ensures, c.root.ensures) at c.root_sound.ensures)
    (not_true _ c.if-not-root_sound.true-raw)

pub rest_sound-requires : goal.rest_sound-requires
rest_sound-requires c =
    record {
      edition_value = sym c.in-One.is ∙ c.edition_of-edition.ensures;
      seen_len = (c.root_sound.ensures.marked (not_false _ c.if-not-root_sound.false-raw)).size ∙ length-replicate {A = ℕ} most_slots 0;
    }

pub returns-in-One : goal.returns-in-One
returns-in-One c =
    c.rest_sound.ensures
    ∙ rest_last c.args.pool.words.now c.args.pool.right (sym c.head_sound.ensures ∙ not_false _ c.if-not-head_sound.false-raw)
    (rw (c.height.ensures, c.root.ensures) at c.root_sound.ensures) (not_false _ c.if-not-root_sound.false-raw)

pub returns-in-Two : goal.returns-in-Two
returns-in-Two c =
    c.rest_sound-in-Two.ensures
    ∙ rest_last c.args.pool.words.now c.args.pool.right (sym c.head_sound.ensures ∙ not_false _ c.if-not-head_sound.false-raw)
    (rw (c.height.ensures, c.root.ensures) at c.root_sound.ensures) (not_false _ c.if-not-root_sound.false-raw)
