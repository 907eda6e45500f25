-- `scarce` meets its contract: the sum is that of the definition, by the height and the count of nodes that leave.
use mathlib.Core.Path.{sym, ap, subst, ◌∙◌}
use Prim.Native.Nat.{ℕ, ◌≤◌}
use native.Mathlib.Omega.{arith}
use lib.Dec.{ltb}
use Rattle.rules.specs.Layout.{read}
use Rattle.delete_laws.specs.Way.{thin_levels}
use Rattle.find_leaf.specs.Ways.{path_of}
use Rattle.delete.specs.Aside.{ComesDown}
use Rattle.request.proofs.Turns.{room_small, room_is}
use Rattle.request.proofs.scarce.Goals as goal

pub leaving-requires : goal.leaving-requires
leaving-requires c =
    subst (λ (h : ℕ). ComesDown (read c.args.pool.words.now) h c.args.way) (sym c.height-h.ensures) c.requires.comes_down

pub overflow_mul-result : goal.overflow_mul-result
overflow_mul-result c =
    let low : c.height-h.result ≤ 8 = rw c.height-h.ensures c.requires.comes_down.high in
    let small =
    room_small c.leaving.result c.height-h.result c.args.records c.leaving.ensures.few low c.requires.records_bound in
    record { fits = omega (arith, small.0) }

pub overflow_mul-result-2 : goal.overflow_mul-result-2
overflow_mul-result-2 c =
    let low : c.height-h.result ≤ 8 = rw c.height-h.ensures c.requires.comes_down.high in
    let small =
    room_small c.leaving.result c.height-h.result c.args.records c.leaving.ensures.few low c.requires.records_bound in
    record { fits = omega (arith, small.1) }

pub overflow_add-result-4 : goal.overflow_add-result-4
overflow_add-result-4 c =
    let low : c.height-h.result ≤ 8 = rw c.height-h.ensures c.requires.comes_down.high in
    let small =
    room_small c.leaving.result c.height-h.result c.args.records c.leaving.ensures.few low c.requires.records_bound in
    record { fits = omega (arith, small.0, small.1) }

pub returns : goal.returns
returns c =
    let p = read c.args.pool.words.now in
    let k = c.leaving.ensures.is ∙ ap (λ (h : ℕ). thin_levels p (path_of h c.args.way)) c.height-h.ensures in
    ap (ltb c.args.free.count)
    (room_is p (path_of p.height c.args.way) c.args.records c.height-h.result c.leaving.result c.height-h.ensures k)
