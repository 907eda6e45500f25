-- Each turn joins the next entry's rectangle to the cover so far, as the fold of `cover_all` does.
use mathlib.Core.Path.{◌≡◌, sym, ◌∙◌}
use borrow.Author.Rules.{rules}
use Prim.Native.Nat.{◌<◌}
use lib.ListN.{length}
use native.Mathlib.Omega.{arith}
use Rattle.rules.specs.Geometry.{no_rect}
use Rattle.pool.specs.Reading.{entries_of}
use Rattle.nodes.proofs.Covers.{first, step, last, cover_none}
use Rattle.nodes.proofs.cover_of.Goals as goal

pub returns-then-n-eq0 : goal.returns-then-n-eq0
returns-then-n-eq0 c =
    let zero : c.default.result ≡ no_rect = search rules in
    zero ∙ cover_none _ (sym c.count-n.ensures.is ∙ c.if-n-eq0.true)

pub rect-all-requires : goal.rect-all-requires
rect-all-requires c = omega (arith, c.count-n.ensures.is, c.if-n-eq0.false)

pub loop-i-init : goal.loop-i-init
loop-i-init c =
    let some : 0 < length (entries_of c.args.node.now) = omega (arith, c.count-n.ensures.is, c.if-n-eq0.false) in
    record { size = c.count-n.ensures.is; rest = rw c.rect-all.ensures (first (entries_of c.args.node.now) some) }

pub rect-requires : goal.rect-requires
rect-requires c = omega (arith, c.loop-i-test.true, c.count-n.ensures.is)

pub loop-i-preserved : goal.loop-i-preserved
loop-i-preserved c =
    let es = entries_of c.args.node.now in
    let t = c.loop-i.invariant in
    let next = step es c.loop-i.all c.loop-i.i (omega (arith, c.loop-i-test.true, t.size)) in
    record { size = t.size; rest = rw (c.cover-all.ensures, c.rect.ensures) (sym next ∙ t.rest) }

pub returns : goal.returns
returns c =
    let t = c.loop-i.invariant in
    sym (last (entries_of c.args.node.now) c.loop-i.all c.loop-i.i (omega (arith, c.loop-i-test.false, t.size))) ∙ t.rest
