-- `insert::needed` meets its contract: the run includes the root where it is as long as the way.
use mathlib.Core.Path.{◌≡◌, ap, subst⁻¹}
use Prim.Native.Nat.{ℕ, ◌-◌}
use native.Mathlib.Omega.{arith}
use Rattle.pool.specs.Reading.{read}
use Rattle.rules.specs.declared.SlotNumber.{SlotNumber}
use Rattle.insert.specs.State.{WayDown}
use Rattle.insert.proofs.Roots.{needs_run, needs_more}
use Rattle.insert.proofs.needed.Goals as goal

pub full_run-r-requires : goal.full_run-r-requires
full_run-r-requires c =
    let p = read c.args.pool in
    let n = c.height.result - c.args.level in
    let levels : n ≡ p.height - c.args.level = ap (λ (k : ℕ). k - c.args.level) c.height.ensures in
    subst⁻¹ (λ (k : ℕ). WayDown p k c.root-root.result c.args.new) levels
    (subst⁻¹ (λ (t : SlotNumber). WayDown p (p.height - c.args.level) t c.args.new) c.root-root.ensures c.requires.way_down)

pub returns-then-r-n : goal.returns-then-r-n
returns-then-r-n c =
    let p = read c.args.pool in
    let n = c.height.result - c.args.level in
    let levels : n ≡ p.height - c.args.level = ap (λ (k : ℕ). k - c.args.level) c.height.ensures in
    needs_run c.args.level p c.args.new c.requires.way_down n levels c.root-root.result c.root-root.ensures c.full_run-r.result
    c.full_run-r.ensures.is c.if-r-n.true

pub returns-else-r-n : goal.returns-else-r-n
returns-else-r-n c =
    let p = read c.args.pool in
    let n = c.height.result - c.args.level in
    let levels : n ≡ p.height - c.args.level = ap (λ (k : ℕ). k - c.args.level) c.height.ensures in
    needs_more c.args.level p c.args.new c.requires.way_down n levels c.root-root.result c.root-root.ensures c.full_run-r.result
    c.full_run-r.ensures.is (omega (arith, c.if-r-n.false, c.full_run-r.ensures.most))
