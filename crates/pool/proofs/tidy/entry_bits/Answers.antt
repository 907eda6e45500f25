-- The bits of the words, joined two by two.
use Rattle.std.proofs.Common.{◌+◌, rules, ℕ, ◌&&◌, pos, ℤ, w32, of_z, bit_or, get_or, ap, ap₂, ◌∙◌}
use borrow.Author.Rules.{sfits_of}
use mir.Val.{SFits}
use Rattle.rules.specs.Lists.{same}
use Rattle.rules.specs.Layout.{word_at}
use Rattle.pool.proofs.Bits.{bits_joined, joined_zero}
use Rattle.pool.proofs.Tidied.{entry_zero}
use Rattle.pool.proofs.tidy.entry_bits.Goals as goal

abbrev bits : ℤ → ℤ → ℕ
bits a b = bit_or (of_z w32 a) (of_z w32 b)

pub returns : goal.returns
unfolding word_at
returns c =
    let w = c.args.pool.now in
    let at = c.args.at in
    let a = get_or w at (pos 0) in
    let b = get_or w (at + 1) (pos 0) in
    let d = get_or w (at + 2) (pos 0) in
    let e = get_or w (at + 3) (pos 0) in
    let p = get_or w (at + 4) (pos 0) in
    let o = c.owner_in.result in
    let fit_a : SFits w32 a = search rules in
    let fit_b : SFits w32 b = search rules in
    let fit_d : SFits w32 d = search rules in
    let fit_e : SFits w32 e = search rules in
    let fit_p : SFits w32 p = search rules in
    let rect = bits_joined (bits a b) (bits d e) ∙ ap₂ ◌&&◌ (joined_zero a b fit_a fit_b) (joined_zero d e fit_d fit_e) in
    let rest = joined_zero p o fit_p (sfits_of c.owner_in.type_inv) ∙ ap (λ (z : ℤ). same (pos 0) p && same (pos 0) z) c.owner_in.ensures in
    bits_joined (bit_or (bits a b) (bits d e)) (bits p o) ∙ ap₂ ◌&&◌ rect rest ∙ entry_zero c.args.edition w at c.requires
