-- A way as one number: its places are digits of three bits, the leaf's the lowest. What is put in front of a way is read back, and the
-- digits below it are those of the way.
use mathlib.Core.Path.{◌≡◌, refl, sym, ap, ◌∙◌}
use mathlib.Core.Logic.{◌≢◌}
use mathlib.Core.List.{◌∷◌}
use Rattle.std.specs.Prelude.{None, Some}
use Prim.Native.Nat.{ℕ, zero, suc, ◌+◌, ◌*◌, ◌/◌, ◌%◌, ◌^◌, ◌≤◌, ◌<◌}
use native.Mathlib.Nat.{lt_of_lt_of_le}
use native.Mathlib.Omega.{arith}
use lib.Arith.{digits_lt}
use lib.ListN.{length}
use lib.Pow.{pow_mono, pow-add, shl_lt, shl_exact, high, low, field, mod-mod-pow}
use Rattle.rules.specs.declared.SlotNumber.{SlotNumber}
use Rattle.rules.specs.declared.Record.{Record}
use Rattle.rules.specs.Pool.{Pool, no_entry, entries_at, entry_from, entry_at, child_of}
use Rattle.rules.specs.Delete.{Path, place}
use Rattle.sound_laws.specs.Tree.{Tree}
use Rattle.sound_laws.proofs.Walk.{inner_of, tree_node}
use Rattle.rules_laws.proofs.Places.{at_place}
use Rattle.delete_laws.specs.Way.{Leads}
use Rattle.find_leaf.specs.Packed.{bits_below, packed, packed_way}

-- ---- the clauses

pub packed_none : packed_way None ≡ 0
unfolding packed_way
packed_none = refl

pub packed_some : (path : Path) → packed_way (Some path) ≡ 2147483648 + packed path
unfolding packed_way
packed_some path = refl

pub packed_cons : (s : SlotNumber) (i : ℕ) (path : Path) → packed (place s i ∷ path) ≡ i * 2 ^ (3 * length path) + packed path
unfolding packed
packed_cons s i path = refl

-- a way is found exactly where its number is not 0
pub some_not_zero : (path : Path) → packed_way (Some path) ≢ 0
some_not_zero path e = omega (arith, sym (packed_some path) ∙ e)

-- ---- a digit put in front

module _ (i level : ℕ) (few : i < 8) (height : level ≤ 8) where
  -- nothing is shifted out
  pub shifted : (i * 2 ^ bits_below level) % 2 ^ 64 ≡ i * 2 ^ bits_below level
  shifted = shl_exact 3 (bits_below level) 64 few (omega (arith, height))

  pub digit_small : i * 2 ^ bits_below level < 16777216
  digit_small = lt_of_lt_of_le (shl_lt 3 (bits_below level) few) (pow_mono {j = 24} (omega (arith, height)))

-- ---- .. and read back

module _ (w i k n : ℕ) (is : w % 2 ^ (3 + k) ≡ i * 2 ^ k + n) (below : n < 2 ^ k) where
  pub digit_here : w / 2 ^ k % 8 ≡ i
  digit_here = sym (field w 3 k) ∙ ap (λ (x : ℕ). x / 2 ^ k) is ∙ high i k below

  pub digit_rest : w % 2 ^ k ≡ n
  digit_rest = sym (mod-mod-pow w 3 k) ∙ ap (λ (x : ℕ). x % 2 ^ k) is ∙ low i k below

-- ---- the way that leads to a pair

module _ (p : Pool) (r : Record) where
  pub leads_long : (l : ℕ) (s : SlotNumber) (path : Path) → Leads p r l s path → length path ≡ l
  unfolding Leads
  leads_long zero s path h = absurd h
  leads_long (suc zero) s path h = ap length h.1
  leads_long (suc (suc l)) s path h = ap length h.2 ∙ ap suc (leads_long (suc l) (child_of (entry_at p s h.0)) h.1 h.4)

  -- its places are digits of three bits
  pub leads_small : (l : ℕ) (s : SlotNumber) (path : Path) → Tree p l s → Leads p r l s path → packed path < 2 ^ (3 * l)
  unfolding Leads packed entry_at entry_from
  leads_small zero s path d h = absurd h
  leads_small (suc zero) s path d h = rw h.1 (omega (arith, h.2, (tree_node p 1 s d).few))
  leads_small (suc (suc l)) s path d h =
      let t = child_of (entry_at p s h.0) in
      let e : 3 * suc (suc l) ≡ 3 + 3 * suc l = omega arith in
      let child = ((inner_of p l s d).each (entry_at p s h.0) (at_place (entries_at p s) h.0 no_entry h.3)).child in
      rw (h.2, leads_long (suc l) t h.1 h.4, e, pow-add 2 3 (3 * suc l))
      (digits_lt {m = 8} (lt_of_lt_of_le h.3 (tree_node p (suc (suc l)) s d).few) (leads_small (suc l) t h.1 child h.4))
