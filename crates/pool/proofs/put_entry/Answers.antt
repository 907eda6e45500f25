use mathlib.Core.Path.{◌≡◌, sym, ap, ap₂, subst, ◌∙◌}
use mathlib.Core.List.{List, [], ◌∷◌}
use Prim.Native.Nat.{ℕ, ◌+◌, ◌≤◌, ◌<◌}
use native.Mathlib.Omega.{arith}
use lib.ListN.{set}
use lib.Seq.{sets}
use lib.IntN.{ℤ}
use borrow.Author.Rules.{sfits_of}
use Rattle.rules.specs.declared.Edition.{Edition}
use Rattle.rules.specs.declared.Edition.TheVariants.{One, Two}
use Rattle.rules.specs.declared.Entry.{Entry}
use Rattle.rules.specs.Layout.{entry_size, entry_words, owner_word, owner_words}
use Rattle.layout_laws.proofs.Runs.{sets_more}
use Rattle.pool.proofs.Naturals.{word_read}
use borrow.Author.Rules.{rules}
use Rattle.pool.proofs.put_entry.Goals as goal

least : (e : Edition) (at n : ℕ) → at + entry_size e ≤ n → at + entry_size One ≤ n
least One at n h = h
least Two at n h = omega arith

there : (e : Edition) (at n : ℕ) → e ≡ Two → at + entry_size e ≤ n → at + 5 < n
there e at n q h = let k : at + entry_size Two ≤ n = subst (λ (x : Edition). at + entry_size x ≤ n) q h in omega arith

-- a sixth word after the five
sixth : (w : List ℤ) (at : ℕ) (e : Entry) → set (sets w at (entry_words One e)) (at + 5) (owner_word e.pointer) ≡ sets w at (entry_words Two e)
unfolding entry_words owner_words
sixth w at e = sets_more (entry_words One e) (owner_word e.pointer ∷ []) w at

pub put_pair-requires : goal.put_pair-requires
put_pair-requires c =
    record {
      at_in_bounds = least c.args.edition c.args.at _ c.requires.edition_in_bounds;
      small = c.requires.small;
    }

pub offset_bounds-pool-at : goal.offset_bounds-pool-at
offset_bounds-pool-at c =
    let k = there c.args.edition c.args.at _ c.in-Two.is c.requires.edition_in_bounds in
    search rules

pub bounds-pool-at : goal.bounds-pool-at
bounds-pool-at c =
    let k = there c.args.edition c.args.at _ c.in-Two.is c.requires.edition_in_bounds in
    omega (arith, k, c.put_pair.auto.pool)

pub returns-in-One : goal.returns-in-One
returns-in-One c =
    c.put_pair.ensures
    ∙ ap (λ (e : Edition). sets c.args.pool.now c.args.at (entry_words e c.args.e)) (sym c.in-One.is)

pub returns-in-Two : goal.returns-in-Two
returns-in-Two c =
    ap₂ (λ (w : List ℤ) (z : ℤ). set w (c.args.at + 5) z) c.put_pair.ensures
    (word_read (sfits_of c.owner_word.type_inv) c.owner_word.ensures)
    ∙ sixth c.args.pool.now c.args.at c.args.e
    ∙ ap (λ (e : Edition). sets c.args.pool.now c.args.at (entry_words e c.args.e)) (sym c.in-Two.is)
