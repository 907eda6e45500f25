use native.Mathlib.Omega.{arith}
use mathlib.Core.Path.{◌≡◌, sym, ap, ◌∙◌}
use Prim.Native.Nat.{ℕ, min}
use borrow.Author.Rules.{rules}
use Rattle.rules.specs.Numbers.{most}
use Rattle.layout_laws.proofs.Parts.{room, slot_count_lem}
use Rattle.pool.proofs.node.Node.count.Goals as goal

pub number_at-requires : goal.number_at-requires
number_at-requires c = omega (arith, room c.args.self.now.in_pool, c.count_place.ensures)

pub returns-clause-is : goal.returns-clause-is
returns-clause-is c =
    let n = rw c.count_place.ensures at c.number_at.ensures in
    let m : c.min.result ≡ min c.number_at.result most = search rules in
    m ∙ ap (λ (k : ℕ). min k most) n ∙ sym (slot_count_lem c.args.self.now.in_pool)
