-- `blank` meets its contract: the four words written over the zeros make the words of a blank pool, and a wrong length writes none.
use borrow.Author.Rules.{rules}
use mathlib.Core.Path.{◌≡◌, sym, ap, ap₂, ◌∙◌}
use mathlib.Core.Bool.{true, false}
use mathlib.Core.List.{List}
use native.Mathlib.Omega.{arith}
use lib.ListN.{length, set, length-set}
use lib.IntN.{ℤ, pos}
use borrow.Author.Rules.{sfits_of}
use Rattle.rules.specs.Layout.{Blanked, valid_size, head_size, edition_place, root_place, height_place}
use Rattle.pool.proofs.Lengths.{valid_long}
use Rattle.pool.proofs.Naturals.{word_read}
use Rattle.pool.proofs.Blanks.{blank_valid, blank_wrong}
use Rattle.pool.proofs.blank.blank.Goals as goal

pub bounds-pool-0 : goal.bounds-pool-0
bounds-pool-0 c =
    let valid : valid_size c.args.edition (length c.args.pool.now) ≡ true = search rules in
    omega (arith, valid_long c.args.edition _ valid)

pub slice_set_of-pool : goal.slice_set_of-pool
slice_set_of-pool c =
    let valid : valid_size c.args.edition (length c.args.pool.now) ≡ true = search rules in
    simp length-set (omega (arith, valid_long c.args.edition _ valid))

pub slice_set_of-pool-2 : goal.slice_set_of-pool-2
slice_set_of-pool-2 c =
    let valid : valid_size c.args.edition (length c.args.pool.now) ≡ true = search rules in
    simp length-set (omega (arith, valid_long c.args.edition _ valid))

pub slice_set_of-pool-3 : goal.slice_set_of-pool-3
slice_set_of-pool-3 c =
    let valid : valid_size c.args.edition (length c.args.pool.now) ≡ true = search rules in
    simp length-set (omega (arith, valid_long c.args.edition _ valid))

pub returns : goal.returns
returns c =
    let valid : valid_size c.args.edition (length c.args.pool.now) ≡ true = search rules in
    let q = sym (blank_valid c.args.edition c.args.pool.now valid) in
    let stored =
    ap₂ (λ (l : List ℤ) (z : ℤ). set (set (set (set l edition_place z) root_place (pos 1)) height_place (pos 1)) head_size (pos 1))
    c.zero_all.ensures (word_read (sfits_of c.number.type_inv) c.number.ensures) in
    record {
      number = ap (λ (b : Blanked). b.number) q;
      words = stored ∙ ap (λ (b : Blanked). b.pool) q;
    }

pub returns-then-not-valid_size : goal.returns-then-not-valid_size
returns-then-not-valid_size c =
    let invalid : valid_size c.args.edition (length c.args.pool.now) ≡ false = search rules in
    let q = sym (blank_wrong c.args.edition c.args.pool.now invalid) in
    record {
      number = ap (λ (b : Blanked). b.number) q;
      words = ap (λ (b : Blanked). b.pool) q;
    }
