-- `split::left::Left::take` meets its contract: the later places have moved up by one.
use mathlib.Core.Path.{subst⁻¹, ◌∙◌}
use native.Mathlib.Omega.{arith}
use lib.ListN.{take}
use lib.Seq.{length-take-le, get_or-take}
use Rattle.split.specs.Stored.{Stored}
use Rattle.split.proofs.Lefts.{closed_less, stored_at, stored_without}
use Rattle.split.proofs.left.Left.take.Goals as goal

pub invariant_of-self : goal.invariant_of-self
invariant_of-self c =
    let left = c.args.self.now in
    let moved = c.copy_within.ensures in
    record {
      long = moved.len ∙ left.long;
      few = omega (arith, left.few);
      stored = subst⁻¹ Stored (closed_less c.args.at left.count left.places c.copy_within.new.self c.requires (omega (arith, left.long, left.few)) moved.len moved.by_index.1 moved.by_index.0)
          (stored_without (take left.count left.places) c.args.at left.stored);
    }

pub returns-clause-inside : goal.returns-clause-inside
returns-clause-inside c =
    let left = c.args.self.now in
    let size = length-take-le left.count left.places (omega (arith, left.long, left.few)) in
    rw (get_or-take left.count left.places c.args.at 0 c.requires)
    at (stored_at (take left.count left.places) c.args.at (omega (arith, size, c.requires)) left.stored)

pub returns-clause-rest : goal.returns-clause-rest
returns-clause-rest c =
    let left = c.args.self.now in
    let moved = c.copy_within.ensures in
    closed_less c.args.at left.count left.places c.copy_within.new.self c.requires (omega (arith, left.long, left.few)) moved.len moved.by_index.1 moved.by_index.0
