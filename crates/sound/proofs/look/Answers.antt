-- Each turn joins the next entry's rectangle to the cover so far, and asks the entry; then the cover is asked whether it is in range.
use mathlib.Core.Path.{refl, sym, ap, ap₂, ◌∙◌}
use mathlib.Core.Bool.{◌&&◌}
use Prim.Native.Nat.{◌≤◌, ◌<◌}
use native.Mathlib.Omega.{arith}
use lib.ListN.{length}
use Rattle.rules.specs.Geometry.{valid}
use Rattle.rules.specs.Pool.{no_entry, entries_at}
use Rattle.rules.specs.Layout.{read}
use Rattle.nodes.proofs.Covers.{step, last}
use Rattle.sound.proofs.Everies.{asked_more, asked_end}
use Rattle.sound.proofs.Looks.{upright_entry, upright_at, plain_all, twice}
use Rattle.sound.proofs.look.Goals as goal

pub rect-cover-requires : goal.rect-cover-requires
rect-cover-requires c = omega (arith, c.requires)

pub loop-i-init : goal.loop-i-init
loop-i-init c = let es = entries_at (read c.args.node.now.words.now) c.args.node.now.slot in
    record { size = c.count-n.ensures.is; rest = rw c.rect-cover.ensures (twice es c.requires); asked = refl }

pub rect-r-requires : goal.rect-r-requires
rect-r-requires c = omega (arith, c.loop-i-test.true, c.loop-i.invariant.size)

pub numbered-requires : goal.numbered-requires
numbered-requires c = omega (arith, c.loop-i-test.true, c.loop-i.invariant.size)

pub loop-i-preserved : goal.loop-i-preserved
loop-i-preserved c =
    let p = read c.args.node.now.words.now in
    let s = c.args.node.now.slot in
    let es = entries_at p s in
    let here : c.loop-i.i < length es = omega (arith, c.loop-i-test.true, c.loop-i.invariant.size) in
    let next = step es c.loop-i.cover c.loop-i.i here in
    let good = upright_at p s c.loop-i.i c.rect-r.result c.rect-r.ensures c.low_to_high.result c.numbered.result _
    c.low_to_high.ensures c.numbered.ensures refl in
    record {
      size = c.loop-i.invariant.size;
      rest = rw (c.cover-cover.ensures, c.rect-r.ensures) (sym next ∙ c.loop-i.invariant.rest);
      asked = asked_more upright_entry es c.loop-i.i c.loop-i.plain no_entry here _ _ good refl
          c.loop-i.invariant.asked;
    }

pub returns : goal.returns
returns c =
    let p = read c.args.node.now.words.now in
    let es = entries_at p c.args.node.now.slot in
    let done : length es ≤ c.loop-i.i = omega (arith, c.loop-i-test.false, c.loop-i.invariant.size) in
    let cover_is = sym (last es c.loop-i.cover c.loop-i.i done) ∙ c.loop-i.invariant.rest in
    let plain_is = asked_end upright_entry es c.loop-i.i c.loop-i.plain done c.loop-i.invariant.asked in
    record {
      cover = cover_is;
      plain = ap₂ ◌&&◌ plain_is (c.valid.ensures ∙ ap valid cover_is) ∙ plain_all es c.requires;
    }
