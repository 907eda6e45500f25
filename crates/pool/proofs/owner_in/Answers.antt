use mathlib.Core.Path.{◌≡◌, sym, ap, subst, ◌∙◌}
use mathlib.Core.List.{List}
use Prim.Native.Nat.{ℕ, ◌+◌, ◌≤◌, ◌<◌}
use native.Mathlib.Omega.{arith}
use lib.ListN.{length, drop}
use lib.IntN.{ℤ, pos}
use borrow.Author.Rules.{sfits_of}
use Rattle.rules.specs.declared.Edition.{Edition}
use Rattle.rules.specs.declared.Edition.TheVariants.{One, Two}
use Rattle.rules.specs.Layout.{entry_size, word_at, owner_at}
use Rattle.layout_laws.proofs.Parts.{drop_word}
use Rattle.pool.proofs.Naturals.{word_read}
use Rattle.pool.proofs.owner_in.Goals as goal

owner-none : (w : List ℤ) (at : ℕ) (e : Edition) → e ≡ One → pos 0 ≡ owner_at e (drop at w)
unfolding owner_at
owner-none w at e q = ap (λ (x : Edition). owner_at x (drop at w)) (sym q)

owner_there : (w : List ℤ) (at : ℕ) (e : Edition) → e ≡ Two → word_at w (at + 5) ≡ owner_at e (drop at w)
unfolding owner_at
owner_there w at e q = sym (drop_word w at 5) ∙ ap (λ (x : Edition). owner_at x (drop at w)) (sym q)

fits-there : (w : List ℤ) (at : ℕ) (e : Edition) → e ≡ Two → at + entry_size e ≤ length w → at + 5 < length w
fits-there w at e q l = let k : at + entry_size Two ≤ length w = subst (λ (x : Edition). at + entry_size x ≤ length w) q l in omega arith

pub word-requires : goal.word-requires
word-requires c =
    omega (arith, fits-there c.args.pool.now c.args.at c.args.edition c.in-Two.is c.requires)

pub returns-in-One : goal.returns-in-One
returns-in-One c = owner-none c.args.pool.now c.args.at c.args.edition c.in-One.is

pub returns-in-Two : goal.returns-in-Two
returns-in-Two c =
    word_read (sfits_of c.word.type_inv) c.word.ensures
    ∙ owner_there c.args.pool.now c.args.at c.args.edition c.in-Two.is
