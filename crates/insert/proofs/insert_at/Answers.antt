-- `insert::insert_at` meets its contract: the free slots suffice where the test does not refuse, so what becomes of the root is a pool.
use mathlib.Core.Path.{◌≡◌, ap}
use Prim.Native.Nat.{ℕ, ◌-◌}
use Rattle.rules.specs.Layout.{read}
use Rattle.insert.proofs.Roots.{root_goes, at_refused, at_full, at_risen, at_made}
use Rattle.insert.proofs.insert_at.Goals as goal

pub returns-then-too_few : goal.returns-then-too_few
returns-then-too_few c =
    let few = rw c.over-tree.ensures at c.too_few.ensures in
    let w = c.args.pool.now in
    let p = read w in
    at_refused p c.args.level c.args.e c.requires.upright c.requires.level_bound.0 c.requires.level_bound.1 c.requires.may_go.fits w
    c.requires.known c.too_few.result few c.if-too_few.true

pub too_few-requires : goal.too_few-requires
too_few-requires c =
    rw c.over-tree.ensures (record {
      upright = c.requires.upright;
      level_bound = c.requires.level_bound;
      fits = c.requires.may_go.fits;
    })

pub insert_below-requires : goal.insert_below-requires
insert_below-requires c =
    let root = rw c.over-tree.ensures at c.root-root.ensures in
    let height = rw c.over-tree.ensures at c.height.ensures in
    let w = c.args.pool.now in
    let p = read w in
    let n = c.height.result - c.args.level in
    let levels : n ≡ p.height - c.args.level = ap (λ (k : ℕ). k - c.args.level) height in
    record {
      fitted = record { fit = c.requires.fit; known = c.requires.known };
      goes_down = root_goes p c.args.level c.args.e c.requires.upright c.requires.level_bound.0 c.requires.level_bound.1
          c.requires.may_go.fits c.requires.may_go.kind n levels c.root-root.result root;
    }

pub returns-in_err-grown : goal.returns-in_err-grown
returns-in_err-grown c =
    let few = rw c.over-tree.ensures at c.too_few.ensures in
    let root = rw c.over-tree.ensures at c.root-root.ensures in
    let height = rw c.over-tree.ensures at c.height.ensures in
    let w = c.args.pool.now in
    let p = read w in
    let n = c.height.result - c.args.level in
    let levels : n ≡ p.height - c.args.level = ap (λ (k : ℕ). k - c.args.level) height in
    rw c.from_residual.ensures (at_full p c.args.level c.args.e c.requires.upright c.requires.level_bound.0 c.requires.level_bound.1 c.requires.may_go.fits w
    c.requires.known c.too_few.result few n levels c.root-root.result root c.if-too_few.false
    c.insert_below.new.pool c.in_err-grown.ensures)

pub grow_tree-requires : goal.grow_tree-requires
grow_tree-requires c =
    let few = rw c.over-tree.ensures at c.too_few.ensures in
    let root = rw c.over-tree.ensures at c.root-root.ensures in
    let height = rw c.over-tree.ensures at c.height.ensures in
    let w = c.args.pool.now in
    let p = read w in
    let n = c.height.result - c.args.level in
    let levels : n ≡ p.height - c.args.level = ap (λ (k : ℕ). k - c.args.level) height in
    at_risen p c.args.level c.args.e c.requires.upright c.requires.level_bound.0 c.requires.level_bound.1 c.requires.may_go.fits w
    c.requires.known c.too_few.result few n levels c.root-root.result root c.in_ok-grown.grown
    c.insert_below.new.pool c.in_ok-grown.ensures

pub returns : goal.returns
returns c =
    let few = rw c.over-tree.ensures at c.too_few.ensures in
    let root = rw c.over-tree.ensures at c.root-root.ensures in
    let height = rw c.over-tree.ensures at c.height.ensures in
    let w = c.args.pool.now in
    let p = read w in
    let n = c.height.result - c.args.level in
    let levels : n ≡ p.height - c.args.level = ap (λ (k : ℕ). k - c.args.level) height in
    at_made p c.args.level c.args.e c.requires.upright c.requires.level_bound.0 c.requires.level_bound.1 c.requires.may_go.fits w
    c.requires.known c.too_few.result few n levels c.root-root.result root c.in_ok-grown.grown
    c.insert_below.new.pool c.in_ok-grown.ensures c.if-too_few.false c.grow_tree.result c.grow_tree.new.pool
    c.grow_tree.ensures
