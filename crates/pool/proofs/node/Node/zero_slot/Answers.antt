use mathlib.Core.Path.{◌≡◌, sym, ap, ◌∙◌}
use mathlib.Core.List.{List}
use Prim.Native.Nat.{ℕ, ◌+◌, ◌-◌}
use native.Mathlib.Omega.{arith}
use lib.IntN.{ℤ}
use Rattle.rules.specs.Layout.{edition_of, slot_size, slot_start}
use Rattle.layout_laws.proofs.Parts.{room}
use Rattle.layout_laws.proofs.Runs.{zeros}
use Rattle.pool.specs.Standing.{stand}
use Rattle.pool.proofs.Lengths.{entries_most, start_most}
use Rattle.pool.proofs.Blanks.{free_words}
use Rattle.pool.proofs.node.Node.zero_slot.Goals as goal

pub overflow_add-at : goal.overflow_add-at
overflow_add-at c =
    let is = c.slot_size-long.ensures ∙ ap slot_size c.args.self.now.told in
    let at = c.start-at.ensures in
    record { fits = omega (arith, is, entries_most c.args.self.now.words.now 8 (omega arith), at, start_most c.args.self.now.in_pool) }

pub zeros-requires : goal.zeros-requires
zeros-requires c =
    let is = c.slot_size-long.ensures ∙ ap slot_size c.args.self.now.told in
    let at = c.start-at.ensures in
    record {
      from_le_to = omega (arith, is);
      to_in_bounds = omega (arith, is, at, room c.args.self.now.in_pool);
    }

pub returns : goal.returns
returns c =
    let w = c.args.self.now.words.now in
    let ed = edition_of w in
    let at = slot_start ed c.args.self.now.slot in
    let e : at + slot_size ed - at ≡ slot_size ed = omega arith in
    rw (c.start-at.ensures, c.slot_size-long.ensures, c.args.self.now.told) at c.zeros.ensures
    ∙ ap (λ (n : ℕ). stand (zeros n) w at) e
    ∙ ap (λ (vs : List ℤ). stand vs w at) (sym (free_words ed))
