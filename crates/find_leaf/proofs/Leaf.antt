-- FindLeaf in a leaf, a step at a time, as the code goes: an entry of another number is no such pair, and of the others the first that is
-- the pair is found.
use mathlib.Core.Path.{◌≡◌, refl, sym, ap, ◌∙◌}
use mathlib.Core.Bool.{Bool, true, false, ◌&&◌, ◌||◌, or_assoc, or-false}
use mathlib.Core.List.{List, [], ◌∷◌}
use Rattle.std.specs.Prelude.{None}
use Prim.Native.Nat.{ℕ, suc, ◌+◌, ◌*◌, ◌≤◌, ◌<◌}
use native.Mathlib.Numerals.{add-one}
use native.Mathlib.Omega.{arith}
use lib.ListN.{length, drop, get_or, drop_of_length-le}
use lib.Seq.{drop-cons}
use Rattle.rules.specs.declared.SlotNumber.{SlotNumber}
use Rattle.rules.specs.declared.Record.{Record}
use Rattle.rules.specs.declared.Entry.{Entry}
use Rattle.rules.specs.Lists.{one_of, same}
use Rattle.rules.specs.Owners.{owned_by}
use Rattle.rules.specs.Compare.{compared, is_equal, exact_pair}
use Rattle.rules.specs.Pool.{Pool, no_entry, entries_at, entry_from, entry_at, number_of, record_of}
use Rattle.rules.specs.Delete.{find_entry, find_leaf}
use Rattle.rules_laws.proofs.Bools.{or_neither, stop}
use Rattle.delete_laws.proofs.Clauses.{entry_none, entry_yes, entry_no, leaf_at}
use Rattle.find_leaf.specs.State.{has_number}
use Rattle.find_leaf.specs.Packed.{packed, packed_way}
use Rattle.find_leaf.proofs.Digits.{packed_none}

-- ---- whether an entry has the number: the entries from a place on

module _ (test : Entry → Bool) where
  pub one_none : one_of test [] ≡ false
  unfolding one_of
  one_none = refl

  pub one_cons : (e : Entry) (es : List Entry) → one_of test (e ∷ es) ≡ (test e || one_of test es)
  unfolding one_of
  one_cons e es = refl

-- what is known of the entries before place i, and the entries from there on, are together all
pub record Looked (test : Entry → Bool) (all : List Entry) (n : ℕ) (any : Bool) (i : ℕ) : Type 0 where
  pub size : n ≡ length all
  pub few : n ≤ 8
  pub is : (any || one_of test (drop i all)) ≡ one_of test all

pub look_on : {test : Entry → Bool} {all : List Entry} {n : ℕ} {any : Bool} {i : ℕ} → Looked test all n any i → i < n
    → (b : Bool) → b ≡ test (entry_from all i) → Looked test all n (any || b) (i + 1)
unfolding entry_from
look_on {test} {all} {n} {any} {i} t h b e =
    let q : one_of test (drop i all) ≡ (b || one_of test (drop (suc i) all))
    = ap (one_of test) (drop-cons all i no_entry (omega (arith, t.size)))
    ∙ one_cons test (get_or all i no_entry) (drop (suc i) all) ∙ ap (λ (x : Bool). x || one_of test (drop (suc i) all)) (sym e) in
    record {
      size = t.size;
      few = t.few;
      is = rw (add-one i) (or_assoc any b (one_of test (drop (suc i) all)) ∙ ap (λ (x : Bool). any || x) (sym q) ∙ t.is);
    }

pub looked_all : {test : Entry → Bool} {all : List Entry} {n : ℕ} {any : Bool} {i : ℕ} → Looked test all n any i → n ≤ i
    → any ≡ one_of test all
looked_all {test} {all} {any = any} {i} t h =
    let e = ap (one_of test) (drop_of_length-le all {i = i} (omega (arith, t.size))) ∙ one_none test in
    sym (or-false any) ∙ ap (λ (x : Bool). any || x) (sym e) ∙ t.is

-- ---- no entry has the number

another_number : (r : Record) (e : Entry) → has_number r.number e ≡ false → exact_pair r (record_of e) ≡ false
unfolding exact_pair record_of
another_number r e h =
    stop (same r.number.0 (number_of e).0 && is_equal (compared r.rect e.rect)) (owned_by r.owner (record_of e))
    (stop (same r.number.0 (number_of e).0) (is_equal (compared r.rect e.rect)) h)

no_number : (r : Record) (s : SlotNumber) (i : ℕ) (es : List Entry) → one_of (has_number r.number) es ≡ false → find_entry r s i es ≡ None
no_number r s i [] h = entry_none r s i
no_number r s i (e ∷ es) h =
    let b = or_neither (has_number r.number e) (one_of (has_number r.number) es) (sym (one_cons (has_number r.number) e es) ∙ h) in
    entry_no r s i e es (another_number r e b.0) ∙ no_number r s (suc i) es b.1

module _ (p : Pool) (r : Record) (s : SlotNumber) where
  pub leaf_unnumbered : one_of (has_number r.number) (entries_at p s) ≡ false → 0 ≡ packed_way (find_leaf p r 1 s)
  leaf_unnumbered h = sym (ap packed_way (leaf_at p r s ∙ no_number r s 0 (entries_at p s) h) ∙ packed_none)

  -- ---- the first that is the pair

  pub record Ahead (n i : ℕ) : Type 0 where
    pub size : n ≡ length (entries_at p s)
    pub few : n ≤ 8
    pub is : find_leaf p r 1 s ≡ find_entry r s i (drop i (entries_at p s))

  pub ahead_first : {n : ℕ} → n ≡ length (entries_at p s) → n ≤ 8 → Ahead n 0
  ahead_first e few = record { size = e; few = few; is = leaf_at p r s }

  module _ {n i : ℕ} (t : Ahead n i) where
    rest : i < n → drop i (entries_at p s) ≡ entry_at p s i ∷ drop (suc i) (entries_at p s)
    unfolding entry_at entry_from
    rest h = drop-cons (entries_at p s) i no_entry (omega (arith, t.size))

    pub ahead_here : i < n → exact_pair r (record_of (entry_at p s i)) ≡ true → 2147483648 + i ≡ packed_way (find_leaf p r 1 s)
    unfolding packed_way packed
    ahead_here h q =
        let z : i ≡ i * 1 + 0 = omega arith in
        sym (ap packed_way (t.is ∙ ap (find_entry r s i) (rest h) ∙ entry_yes r s i (entry_at p s i) (drop (suc i) (entries_at p s)) q)
        ∙ ap (λ (k : ℕ). 2147483648 + k) (sym z))

    pub ahead_next : i < n → exact_pair r (record_of (entry_at p s i)) ≡ false → Ahead n (i + 1)
    ahead_next h q = record {
      size = t.size;
      few = t.few;
      is = rw (add-one i) (t.is ∙ ap (find_entry r s i) (rest h) ∙ entry_no r s i (entry_at p s i) (drop (suc i) (entries_at p s)) q);
    }

    pub ahead_end : n ≤ i → 0 ≡ packed_way (find_leaf p r 1 s)
    ahead_end h =
        let e = drop_of_length-le (entries_at p s) {i = i} (omega (arith, t.size)) in
        sym (ap packed_way (t.is ∙ ap (find_entry r s i) e ∙ entry_none r s i) ∙ packed_none)
