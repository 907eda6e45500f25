-- `pool::take_entry` meets its contract: the words of the later entries a place down, zeros in the place of the last, and one less counted.
use mathlib.Core.Path.{◌≡◌, ap, ◌∙◌}
use mathlib.Core.List.{List}
use Prim.Native.Nat.{ℕ, ◌+◌, ◌-◌, ◌≤◌, ◌<◌}
use native.Mathlib.Omega.{arith}
use lib.ListN.{length, set}
use lib.Seq.{sets}
use lib.IntN.{ℤ, pos}
use mir.Syntax.{w32}
use mir.ValLaws.{to_z_pos}
use Rattle.rules.specs.declared.Edition.{Edition}
use Rattle.rules.specs.declared.SlotNumber.{SlotNumber}
use Rattle.rules.specs.Numbers.{most}
use Rattle.rules.specs.Layout.{edition_of, entry_size, count_place, entry_place}
use Rattle.layout_laws.specs.Slots.{InPool}
use Rattle.layout_laws.proofs.Parts.{room, slot_few}
use Rattle.layout_laws.proofs.Runs.{zeros, shifted, shifted_twice}
use Rattle.pool.proofs.Lengths.{start_most}
use Rattle.pool.proofs.Stores.{spot_inside, spot_order, less_stored}
use Rattle.pool.proofs.take_entry.Goals as goal

-- an entry's words are in the pool, as the code has their place and their number
inside : {w : List ℤ} {s : SlotNumber}
    → InPool w s
    → (i at size : ℕ)
    → at ≡ entry_place (edition_of w) s i
    → size ≡ entry_size (edition_of w)
    → i < most
    → at + size ≤ length w
inside p i at size is wide h = rw (is, wide) (spot_inside p i h)

-- .. and no entry's words begin before an earlier one's
in_order : (e : Edition) (s : SlotNumber) (i j a b : ℕ) → a ≡ entry_place e s i → b ≡ entry_place e s j → i ≤ j → a ≤ b
in_order e s i j a b is-a is_b h = rw (is-a, is_b) (spot_order e s i j h)

pub at-node-requires : goal.at-node-requires
at-node-requires c = c.requires.in_pool

pub spot-from-requires : goal.spot-from-requires
spot-from-requires c = omega (arith, slot_few c.requires.in_pool, c.requires.i_in_bounds)

pub spot-last-requires : goal.spot-last-requires
spot-last-requires c =
    let many = rw (c.at-node.ensures.words, c.at-node.ensures.slot) at c.count-n.ensures.is in
    omega (arith, many, c.count-n.ensures.most, c.requires.i_in_bounds)

pub move_down-requires : goal.move_down-requires
move_down-requires c =
    let many = rw (c.at-node.ensures.words, c.at-node.ensures.slot) at c.count-n.ensures.is in
    let from = rw (c.at-node.ensures.words, c.at-node.ensures.slot) at c.spot-from.ensures in
    let last = rw (c.at-node.ensures.words, c.at-node.ensures.slot) at c.spot-last.ensures in
    let size = rw (c.at-node.result.told, c.at-node.ensures.words) at c.entry_size-size.ensures in
    record {
      from_le_to = in_order _ c.args.s _ _ _ _ from last (omega (arith, many, c.requires.i_in_bounds));
      by_in_bounds = inside c.requires.in_pool _ _ _ last size (omega (arith, many, c.count-n.ensures.most, c.requires.i_in_bounds));
    }

pub overflow_add-last : goal.overflow_add-last
overflow_add-last c =
    let many = rw (c.at-node.ensures.words, c.at-node.ensures.slot) at c.count-n.ensures.is in
    let last = rw (c.at-node.ensures.words, c.at-node.ensures.slot) at c.spot-last.ensures in
    let size = rw (c.at-node.result.told, c.at-node.ensures.words) at c.entry_size-size.ensures in
    let ends = inside c.requires.in_pool _ _ _ last size (omega (arith, many, c.count-n.ensures.most, c.requires.i_in_bounds)) in
    record { fits = omega (arith, ends) }

pub zero_words-requires : goal.zero_words-requires
zero_words-requires c =
    let many = rw (c.at-node.ensures.words, c.at-node.ensures.slot) at c.count-n.ensures.is in
    let last = rw (c.at-node.ensures.words, c.at-node.ensures.slot) at c.spot-last.ensures in
    let size = rw (c.at-node.result.told, c.at-node.ensures.words) at c.entry_size-size.ensures in
    let ends = inside c.requires.in_pool _ _ _ last size (omega (arith, many, c.count-n.ensures.most, c.requires.i_in_bounds)) in
    record { from_le_to = omega arith; to_in_bounds = omega (arith, c.move_down.auto.pool, ends) }

pub offset_bounds-pool-at : goal.offset_bounds-pool-at
offset_bounds-pool-at c =
    let at = rw (c.at-node.ensures.words, c.at-node.ensures.slot) at c.count_place-at.ensures in
    record { fits = omega (arith, at, start_most c.requires.in_pool) }

pub bounds-pool-at : goal.bounds-pool-at
bounds-pool-at c =
    let at = rw (c.at-node.ensures.words, c.at-node.ensures.slot) at c.count_place-at.ensures in
    omega (arith, at, c.zero_words.auto.pool, c.move_down.auto.pool, room c.requires.in_pool)

pub returns : goal.returns
returns c =
    let w = c.args.pool.now in
    let slot = c.args.s in
    let i = c.args.i in
    let ed = edition_of w in
    let n = c.count-n.result in
    let a = c.spot-from.result in
    let b = c.spot-last.result in
    let k = c.entry_size-size.result in
    let many = rw (c.at-node.ensures.words, c.at-node.ensures.slot) at c.count-n.ensures.is in
    let from : a ≡ entry_place ed slot i = rw (c.at-node.ensures.words, c.at-node.ensures.slot) at c.spot-from.ensures in
    let last : b ≡ entry_place ed slot (n - 1) =
    rw (c.at-node.ensures.words, c.at-node.ensures.slot) at c.spot-last.ensures in
    let size : k ≡ entry_size ed = rw (c.at-node.result.told, c.at-node.ensures.words) at c.entry_size-size.ensures in
    let at : c.count_place-at.result ≡ count_place ed slot =
    rw (c.at-node.ensures.words, c.at-node.ensures.slot) at c.count_place-at.ensures in
    let z = to_z_pos w32 (n - 1) (omega (arith, c.count-n.ensures.most)) in
    let order = in_order ed slot i (n - 1) a b from last (omega (arith, many, c.requires.i_in_bounds)) in
    let ends = inside c.requires.in_pool (n - 1) b k last size (omega (arith, many, c.count-n.ensures.most, c.requires.i_in_bounds)) in
    let put : ℕ → List ℤ =
    λ m. set (shifted w (entry_place ed slot i) (entry_size ed) (entry_place ed slot (m - 1) - entry_place ed slot i)) (count_place ed slot)
    (pos (m - 1)) in
    let both = less_stored c.requires.fit_2 c.requires.in_pool i c.requires.i_in_bounds _
    ((λ j. set (c.zero_words.ensures j) (at j) (z j))
    ∙ ap (λ (x : List ℤ). set x (count_place ed slot) (pos (n - 1)))
    (ap (λ (x : List ℤ). sets x b (zeros (b + k - b))) c.move_down.ensures
    ∙ shifted_twice w a b k order ends
    ∙ (λ j. shifted w (from j) (size j) (last j - from j)))
    ∙ ap put many) in
    record { is = both.0; fit = both.1 }
