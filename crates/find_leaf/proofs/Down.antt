-- The way written out from its number, from the root down: at each level the digit is the place in the node that is passed, and the child
-- there is the node of the level below.
use mathlib.Core.Path.{◌≡◌, refl, sym, ap, subst, ◌∙◌}
use mathlib.Core.Logic.{◌≢◌}
use mathlib.Core.List.{[], ◌∷◌}
use Rattle.std.specs.Prelude.{Option, None, Some}
use Prim.Native.Nat.{ℕ, zero, suc, ◌+◌, ◌-◌, ◌*◌, ◌/◌, ◌%◌, ◌^◌, ◌≤◌, ◌<◌}
use native.Mathlib.Decide.{dec_le}
use native.Mathlib.Omega.{arith}
use lib.ListN.{length, get_or, set, drop, replicate, length-set, drop_of_length-le}
use lib.Pow.{low, pow-add}
use lib.Seq.{get_or-set_same, get_or-set_other, drop-cons, drop-drop, get_or-drop}
use Rattle.rules.specs.declared.SlotNumber.{SlotNumber}
use Rattle.rules.specs.declared.Record.{Record}
use Rattle.rules.specs.Pool.{Pool, slot, entries_at, entry_at, child_of}
use Rattle.rules.specs.Delete.{Place, Path, place, find_leaf, path_to}
use Rattle.rules_laws.proofs.Places.{get_d_alike}
use Rattle.sound_laws.specs.Tree.{Tree}
use Rattle.delete_laws.specs.Way.{Leads}
use Rattle.find_leaf.specs.declared.Step.{Step}
use Rattle.find_leaf.specs.declared.Way.{Way}
use Rattle.find_leaf.specs.Ways.{no_step, place_of, path_of, UpTo, Gives}
use Rattle.find_leaf.specs.Packed.{bits_below, packed, packed_way}
use Rattle.find_leaf.proofs.Digits.{packed_none, packed_some, packed_cons, some_not_zero, digit_here, digit_rest, leads_long, leads_small}
use Rattle.find_leaf.proofs.Inner.{child_tree, found_leads}

-- ---- places written

abbrev pub node_in : Way → ℕ → Place
node_in w k = place_of (get_or w.steps k no_step)

abbrev pub nothing_written : Way
nothing_written = record { steps = replicate 8 no_step }

-- a way with no step at any level
pub no_steps : (l : ℕ) → UpTo l nothing_written
no_steps l = record { long = refl; above = λ k _. get_d_alike 8 k no_step }

abbrev pub step_at : SlotNumber → ℕ → Step
step_at s i = record { node = s; place = i }

abbrev pub put : Way → ℕ → SlotNumber → ℕ → Way
put w k s i = record { steps = set w.steps k (step_at s i) }

-- the places of the path from level h down to the level above l
pub record Written (path : Path) (h : ℕ) (w : Way) (l : ℕ) : Type 0 where
  pub up : UpTo h w
  pub at : (k : ℕ) → l ≤ k → k < h → node_in w k ≡ get_or path (h - suc k) (place (slot 0) 0)

module _ (path : Path) (h : ℕ) (w : Way) where
  put_up : (k : ℕ) (s : SlotNumber) (i : ℕ) → k < h → UpTo h w → UpTo h (put w k s i)
  put_up k s i a u = record {
    long = length-set w.steps k (step_at s i) ∙ u.long;
    above = λ n b. get_or-set_other w.steps k n (step_at s i) no_step (omega (arith, a, b)) ∙ u.above n b;
  }

  write_place : (l : ℕ) (s : SlotNumber) (i : ℕ) → 1 ≤ l → l ≤ h → h ≤ 8 → get_or path (h - l) (place (slot 0) 0) ≡ place s i
      → Written path h w l → Written path h (put w (l - 1) s i) (l - 1)
  write_place l s i one high few e t = record {
    up = put_up (l - 1) s i (omega (arith, one, high)) t.up;
    at = λ k a b. go k a b (dec_le l k);
  }
    where
      go : (k : ℕ) → l - 1 ≤ k → k < h → Dec (l ≤ k) → node_in (put w (l - 1) s i) k ≡ get_or path (h - suc k) (place (slot 0) 0)
      go k a b (yes c) =
          let o : k ≢ l - 1 = omega (arith, c, one) in
          ap place_of (get_or-set_other w.steps (l - 1) k (step_at s i) no_step o) ∙ t.at k c b
      go k a b (no c) =
          let q : k ≡ l - 1 = omega (arith, a, c) in
          let z : h - suc k ≡ h - l = omega (arith, q, one) in
          rw (z, e, q)
          (ap place_of (get_or-set_same w.steps (l - 1) (step_at s i) no_step (omega (arith, t.up.long, one, high, few))))

  -- all are written
  written_path : length path ≡ h → Written path h w 0 → (l : ℕ) → l ≤ h → path_of l w ≡ drop (h - l) path
  unfolding path_of
  written_path size t zero a = sym (drop_of_length-le path {i = h - 0} (omega (arith, size)))
  written_path size t (suc l) a =
      let z : suc (h - suc l) ≡ h - l = omega (arith, a) in
      (λ j. t.at l (omega arith) (omega (arith, a)) j ∷ written_path size t l (omega (arith, a)) j)
      ∙ sym (drop-cons path (h - suc l) (place (slot 0) 0) (omega (arith, a, size))
      ∙ ap (λ (n : ℕ). get_or path (h - suc l) (place (slot 0) 0) ∷ drop n path) z)

  written_all : length path ≡ h → Written path h w 0 → Gives (Some path) h (Some w)
  written_all size t =
      let z : h - h ≡ 0 = omega arith in
      (written_path size t h (omega arith) ∙ ap (λ (n : ℕ). drop n path) z, t.up)

-- ---- a level at a time

-- the first place of a way that leads to a pair
record FirstStep (p : Pool) (r : Record) (l : ℕ) (s : SlotNumber) (path : Path) (i : ℕ) : Type 0 where
  rest : Path
  is : path ≡ place s i ∷ rest
  there : i < length (entries_at p s)
  long : length rest ≡ l - 1
  small : packed rest < 2 ^ bits_below l
  below : 2 ≤ l → Leads p r (l - 1) (child_of (entry_at p s i)) rest

leads_step : (p : Pool) (r : Record) (l : ℕ) (s : SlotNumber) (path : Path) → Tree p l s → Leads p r l s path
    → (i : ℕ) × FirstStep p r l s path i
unfolding Leads packed
leads_step p r zero s path d h = absurd h
leads_step p r (suc zero) s path d h =
    (h.0, record { rest = []; is = h.1; there = h.2; long = refl; small = omega arith; below = λ two. absurd (omega (arith, two)) })
leads_step p r (suc (suc l)) s path d h =
    let t = child_of (entry_at p s h.0) in
    let z : suc (suc l) - 1 ≡ suc l = omega arith in
    let child = subst (λ (k : ℕ). Tree p k t) z (child_tree p (suc (suc l)) s (omega arith) d h.0 h.3) in (
      h.0,
      record {
        rest = h.1;
        is = h.2;
        there = h.3;
        long = leads_long p r (suc l) t h.1 h.4 ∙ sym z;
        small = rw z (leads_small p r (suc l) t h.1 child h.4);
        below = λ two. rw z h.4;
      },
    )

-- the way w is written down to the level above l, and goes on at s
pub record Down (p : Pool) (r : Record) (h : ℕ) (root : SlotNumber) (w : ℕ) (way : Way) (s : SlotNumber) (l : ℕ) : Type 0 where
  pub path : Path
  pub is : find_leaf p r h root ≡ Some path
  pub few : h ≤ 8
  pub one : 1 ≤ l
  pub high : l ≤ h
  pub tree : Tree p l s
  pub leads : Leads p r l s (drop (h - l) path)
  pub digits : w % 2 ^ (3 * l) ≡ packed (drop (h - l) path)
  pub written : Written path h way l

module _ (p : Pool) (r : Record) (h : ℕ) (root : SlotNumber) (w : ℕ) where
  down_first : (path : Path) → find_leaf p r h root ≡ Some path → w ≡ packed_way (Some path) → 1 ≤ h → h ≤ 8 → Tree p h root
      → Down p r h root w nothing_written root h
  down_first path e v one few d =
      let z : h - h ≡ 0 = omega arith in
      let leads = found_leads p r h root path e in
      record {
        path = path;
        is = e;
        few = few;
        one = one;
        high = omega arith;
        tree = d;
        leads = rw z leads;
        digits = rw (z, v, packed_some path) (flagged (leads_small p r h root path d leads));
        written = record { up = no_steps h; at = λ k a b. absurd (omega (arith, a, b)) };
      }
    where
      -- the flag is above the digits
      flagged : packed path < 2 ^ (3 * h) → (2147483648 + packed path) % 2 ^ (3 * h) ≡ packed path
      flagged a =
          let k : 31 - 3 * h + 3 * h ≡ 31 = omega (arith, few) in
          let f : 2 ^ (31 - 3 * h) * 2 ^ (3 * h) ≡ 2147483648 = sym (pow-add 2 (31 - 3 * h) (3 * h)) ∙ ap (λ (n : ℕ). 2 ^ n) k in
          ap (λ (n : ℕ). (n + packed path) % 2 ^ (3 * h)) (sym f) ∙ low (2 ^ (31 - 3 * h)) (3 * h) a

  -- there is a way where the number is not 0
  pub start_down : w ≡ packed_way (find_leaf p r h root) → w ≢ 0 → 1 ≤ h → h ≤ 8 → Tree p h root
      → Down p r h root w nothing_written root h
  start_down e f one few d = go (find_leaf p r h root) refl
    where
      go : (o : Option Path) → find_leaf p r h root ≡ o → Down p r h root w nothing_written root h
      go None q = absurd (f (e ∙ ap packed_way q ∙ packed_none))
      go (Some path) q = down_first path q (e ∙ ap packed_way q) one few d

  module _ (way : Way) (s : SlotNumber) (l : ℕ) (t : Down p r h root w way s l) where
    step : (i : ℕ) × FirstStep p r l s (drop (h - l) t.path) i
    step = leads_step p r l s (drop (h - l) t.path) t.tree t.leads

    abbrev rest : Path
    rest = step.1.rest

    module _ (n : ℕ) (e : n ≡ w / 2 ^ bits_below l % 8) where
      front : w % 2 ^ (3 + bits_below l) ≡ step.0 * 2 ^ bits_below l + packed rest
      front =
          let z : 3 + bits_below l ≡ 3 * l = omega (arith, t.one) in
          rw z
          (t.digits ∙ ap packed step.1.is ∙ packed_cons s step.0 rest
          ∙ ap (λ (k : ℕ). step.0 * 2 ^ (3 * k) + packed rest) step.1.long)

      same : step.0 ≡ n
      same = sym (e ∙ digit_here w step.0 (bits_below l) (packed rest) front step.1.small)

      -- it is the place of an entry
      pub down_there : n < length (entries_at p s)
      down_there = subst (λ (i : ℕ). i < length (entries_at p s)) same step.1.there

      here : get_or t.path (h - l) (place (slot 0) 0) ≡ place s n
      here =
          let z : h - l ≡ h - l + 0 = omega arith in
          ap (λ (k : ℕ). get_or t.path k (place (slot 0) 0)) z ∙ sym (get_or-drop (h - l) t.path 0 (place (slot 0) 0))
          ∙ ap (λ (path : Path). get_or path 0 (place (slot 0) 0)) step.1.is ∙ ap (place s) same

      put_here : Written t.path h (put way (l - 1) s n) (l - 1)
      put_here = write_place t.path h way l s n t.one t.high t.few here t.written

      -- the level below
      pub down_on : 2 ≤ l → (u : SlotNumber) → u ≡ child_of (entry_at p s n) → Down p r h root w (put way (l - 1) s n) u (l - 1)
      down_on two u c =
          let z : h - l + 1 ≡ h - (l - 1) = omega (arith, t.one, t.high) in
          let q : rest ≡ drop (h - (l - 1)) t.path
          = sym (ap (λ (path : Path). drop 1 path) step.1.is) ∙ drop-drop 1 (h - l) t.path ∙ ap (λ (k : ℕ). drop k t.path) z in
          record {
            path = t.path;
            is = t.is;
            few = t.few;
            one = omega (arith, two);
            high = omega (arith, t.high);
            tree = rw c (child_tree p l s two t.tree n down_there);
            leads = rw (sym q, c, sym same) (step.1.below two);
            digits = rw (sym q) (digit_rest w step.0 (bits_below l) (packed rest) front step.1.small);
            written = put_here;
          }

    -- the leaf's place is the lowest digit
    pub down_end : l ≡ 1 → (n : ℕ) → n ≡ w / 2 ^ bits_below 1 % 8 → Gives (find_leaf p r h root) h (Some (put way 0 s n))
    down_end leaf n e =
        let z : l - 1 ≡ 0 = omega (arith, leaf) in
        let size = leads_long p r h root t.path (found_leads p r h root t.path t.is) in
        let all = put_here n (subst (λ (k : ℕ). n ≡ w / 2 ^ bits_below k % 8) (sym leaf) e) in
        rw t.is (written_all t.path h (put way 0 s n) size (subst (λ (k : ℕ). Written t.path h (put way k s n) k) z all))

-- .. whatever pair it is the way to
abbrev pub GoesDown : Pool → ℕ → SlotNumber → ℕ → Way → SlotNumber → ℕ → Type 0
GoesDown p h root w way s l = (r : Record) → w ≡ packed_way (find_leaf p r h root) → Down p r h root w way s l

-- ---- from the root

-- 0 is no way
pub gives_none : (o : Option Path) (l w : ℕ) → w ≡ packed_way o → w ≡ 0 → Gives o l None
gives_none None l w e z = tt
gives_none (Some path) l w e z = absurd (some_not_zero path (sym e ∙ z))

pub from_root : (p : Pool) (r : Record) (h : ℕ) (s : SlotNumber) (way : Option Way) → h ≡ p.height → s ≡ p.root → Gives (find_leaf p r h s) h way
    → Gives (path_to p r) p.height way
from_root p r h s way high root g =
    subst (λ (n : ℕ). Gives (find_leaf p r n p.root) n way) high (subst (λ (t : SlotNumber). Gives (find_leaf p r h t) h way) root g)
