-- `zeros` meets its contract: a turn joins one word more.
use Rattle.std.proofs.Common.{◌≡◌, ◌-◌, rules, arith, ◌&&◌, length, take, drop, replicate, pos, of_z, w32, get_or, ap, ap₂, sym, ◌∙◌, length-take-le, length-drop}
use Rattle.std.proofs.lemmas.List.{take_all, length-replicate}
use native.Mathlib.Numerals.{add-one}
use mir.Facts.{to_z-of_z}
use mir.Val.{SFits}
use Rattle.rules.specs.Lists.{same}
use Rattle.rules.specs.Layout.{same_words}
use Rattle.pool.specs.Standing.{stand}
use Rattle.pool.proofs.Bits.{zero_bits, bits_joined}
use Rattle.pool.proofs.Stand.{zeros_next}
use Rattle.pool.proofs.tidy.zeros.Goals as goal

pub loop-x-init : goal.loop-x-init
unfolding same same_words
loop-x-init c = search rules

pub loop-x-preserved : goal.loop-x-preserved
loop-x-preserved c =
    let xs = take (c.args.to - c.args.from) (drop c.args.from c.args.pool.now) in
    let i = c.loop-x.x-index in
    let x = get_or xs i (pos 0) in
    let fits : SFits w32 x = search rules in
    rw (add-one i, zeros_next xs i c.loop-x-test.true)
    (bits_joined c.loop-x.all-bits (of_z w32 x) ∙ ap₂ ◌&&◌ c.loop-x.invariant (ap (same (pos 0)) (to_z-of_z fits)))

pub returns : goal.returns
unfolding stand
returns c =
    let n = c.args.to - c.args.from in
    let xs = take n (drop c.args.from c.args.pool.now) in
    let size : length xs ≡ n = length-take-le n (drop c.args.from c.args.pool.now) (omega (arith, length-drop c.args.from c.args.pool.now)) in
    let all : c.loop-x.x-index ≡ n = omega arith in
    let joined = rw (all, take_all n xs (omega arith)) at c.loop-x.invariant in
    sym (zero_bits c.loop-x.all-bits) ∙ joined
    ∙ ap (λ k. same_words (replicate n (pos 0)) (take k (drop c.args.from c.args.pool.now))) (sym (length-replicate n (pos 0)))
