-- Whether a length is valid, by the number of slots and then by the length.
use mathlib.Core.Path.{◌≡◌}
use mathlib.Core.Bool.{true, false, and-false}
use mathlib.Core.List.{List}
use Prim.Native.Nat.{ℕ, ◌+◌, ◌*◌, ◌-◌, ◌≤◌, ◌<◌}
use native.Mathlib.Omega.{arith}
use lib.ListN.{length}
use lib.IntN.{ℤ}
use borrow.Author.Tests.{lt-leb}
use Rattle.rules.specs.declared.Edition.{Edition}
use Rattle.rules.specs.declared.Edition.TheVariants.{One, Two}
use Rattle.rules.specs.declared.SlotNumber.{SlotNumber}
use Rattle.rules.specs.Numbers.{most, most_slots}
use Rattle.rules.specs.Layout.{head_size, entry_size, slot_size, slot_start, entry_place, slots_fitting, valid_size, edition_of, slot_count, valid_length}
use Rattle.layout_laws.specs.Slots.{InPool}
use Rattle.layout_laws.proofs.Parts.{sized, right_size, few}

no_slots : (e : Edition) (n : ℕ) → slots_fitting e n < 1 → valid_size e n ≡ false
unfolding valid_size
no_slots e n h = rw (lt-leb 1 (slots_fitting e n) h, and-false)

-- fewer words than a head has no slot
pub short_none : (e : Edition) (n : ℕ) → n < head_size → slots_fitting e n ≡ 0
unfolding slots_fitting
short_none One n h = omega arith
short_none Two n h = omega arith

pub short_count : (w : List ℤ) → length w < head_size → slot_count w ≡ 0
unfolding slot_count
short_count w h = short_none (edition_of w) (length w) h

pub short_wrong : (w : List ℤ) → length w < head_size → valid_length w ≡ false
unfolding valid_length
short_wrong w h = no_slots (edition_of w) (length w) (omega (arith, short_none (edition_of w) (length w) h))

-- one slot, and where a slot begins: in either edition
size_some : (e : Edition) (n : ℕ) → 1 ≤ n → slot_size e ≤ slot_size e * n
size_some One n h = omega arith
size_some Two n h = omega arith

pub size_few : (e : Edition) (n : ℕ) → n ≤ most_slots → slot_size e * n ≤ 204800
size_few One n h = omega arith
size_few Two n h = omega arith

pub entries_few : (e : Edition) (i : ℕ) → i ≤ most → entry_size e * i ≤ 48
entries_few One i h = omega arith
entries_few Two i h = omega arith

-- .. where an entry's words begin
pub spot_few : (e : Edition) (s : SlotNumber) (i : ℕ) → s.0 ≤ most_slots → i ≤ most → entry_place e s i ≤ 204858
spot_few e s i few h = omega (arith, size_few e (s.0 - 1) (omega arith), entries_few e i h)

-- .. of a pool's own edition
module _ (w : List ℤ) where
  pub size_most : (n : ℕ) → n ≤ most_slots → slot_size (edition_of w) * n ≤ 204800
  size_most = size_few (edition_of w)

  pub entries_most : (i : ℕ) → i ≤ most → entry_size (edition_of w) * i ≤ 48
  entries_most = entries_few (edition_of w)

pub start_most : {w : List ℤ} {s : SlotNumber} → InPool w s → slot_start (edition_of w) s ≤ 204808
start_most {w} {s} i = omega (arith, size_most w (s.0 - 1) (omega (arith, few i)))

-- the head and a slot at least
pub valid_long : (e : Edition) (n : ℕ) → valid_size e n ≡ true → head_size + slot_size e ≤ n
valid_long e n r = let s = sized e n r in omega (arith, s.0, size_some e (slots_fitting e n) s.1)

module _ (w : List ℤ) (r : valid_length w ≡ true) where
  pub some_word : 1 ≤ length w
  some_word = omega (arith, right_size w r)
