-- What is known of the free slots of a pool while requests are done in it, so that no request looks through all slots.
use Rattle.std.specs.Prelude.{◌≡◌, ◌≢◌, ℕ, suc, ◌-◌, ◌≤◌, ◌<◌, min}
use Rattle.rules.specs.declared.SlotNumber.{SlotNumber}
use Rattle.rules.specs.Pool.{Pool, slot, node_at, free_count}
use Rattle.free_slots.specs.declared.FreeSlots.{FreeSlots}

-- every slot below s is in use
pub record UsedBelow (p : Pool) (s : ℕ) : Type 0 where
  pub used : (t : ℕ) → 1 ≤ t → t < s → (node_at p (slot t)).level ≢ 0

-- how many are free, and a slot below which none is
pub record Known (p : Pool) (f : FreeSlots) : Type 0 where
  pub many : f.count ≡ free_count p
  pub first : 1 ≤ f.low.0
  pub below : UsedBelow p f.low.0

-- what is known when the lowest free slot, t, has been taken
unfoldable pub less_slot : FreeSlots → SlotNumber → FreeSlots
less_slot f t = record { count = f.count - 1; low = slot (suc t.0) }

-- .. and when slot s has become free: "its slot is zeroed and free at once"
unfoldable pub more_slot : FreeSlots → SlotNumber → FreeSlots
more_slot f s = record { count = suc f.count; low = slot (min f.low.0 s.0) }
