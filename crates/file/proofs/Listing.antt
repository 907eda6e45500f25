-- An owner's records as items: how many there can be, and in which order they end; and the records of a file, by its two owners.
use mathlib.Core.Path.{◌≡◌, refl, sym, ap, ◌∙◌}
use mathlib.Core.Bool.{true}
use mathlib.Core.List.{List, [], ◌++◌, map, map-map, append-nil}
use Prim.Native.Nat.{ℕ, ◌+◌, ◌≤◌}
use native.Mathlib.Omega.{arith}
use lib.ListN.{length, length-append, length-map}
use lib.IntN.{ℤ, pos}
use Rattle.rules.specs.declared.Edition.{Edition}
use Rattle.rules.specs.declared.Edition.TheVariants.{One, Two}
use Rattle.rules.specs.declared.Rect.{Rect}
use Rattle.rules.specs.declared.Owner.{Owner}
use Rattle.rules.specs.declared.Record.{Record}
use Rattle.rules.specs.declared.FoundRecord.{FoundRecord}
use Rattle.rules.specs.declared.Mode.TheVariants.{Meeting}
use Rattle.rules.specs.Lists.{those, joined}
use Rattle.rules.specs.Owners.{owner, owner_in, owners_of, owned_by, as_found, of_owner}
use Rattle.rules.specs.Pool.{Pool, stored}
use Rattle.rules.specs.Layout.{valid_length, edition_of, read}
use Rattle.rules.specs.Search.{ordered, found, found_from_root}
use Rattle.rules.specs.File.{carried_of, record_frame, records_carried}
use Rattle.rules_laws.proofs.Parts.{those_fewer}
use Rattle.layout_laws.proofs.Parts.{few_slots}
use Rattle.layout_laws.proofs.Written.{edition_is}
use Rattle.sound_laws.specs.Tree.{Whole}
use Rattle.search_laws.specs.Window.{whole_site}
use Rattle.in_force_laws.proofs.Sounds.{found_few}
use Rattle.search_laws.proofs.Site.{all_found}
use Rattle.file.specs.Items.{first_owner, second_carried}
use Rattle.file.specs.Filling.{own_frames}

-- ---- listed

module _ (w : List ℤ) (right : valid_length w ≡ true) (h : Whole (read w)) where
  pub few_found : (window : Rect) → length (found_from_root (read w) Meeting window) ≤ 32768
  few_found window = omega (arith, found_few w h Meeting window, few_slots w right)

  pub few_own : (o : Owner) (window : Rect) → length (those (owned_by o) (found_from_root (read w) Meeting window)) ≤ 32768
  few_own o window = omega (arith, few_found window, those_fewer (owned_by o) (found_from_root (read w) Meeting window))

  pub all_ordered : (o : Owner) (window : Rect) → window ≡ whole_site
      → ordered (map as_found (those (owned_by o) (found_from_root (read w) Meeting window))) ≡ ordered (map as_found (those (owned_by o) (stored (read w))))
  all_ordered o window e =
      ap (λ (x : Rect). ordered (map as_found (those (owned_by o) (found_from_root (read w) Meeting x)))) e ∙ sym found_is ∙ all_found (read w) h o
    where
      found_is : found (read w) o Meeting whole_site ≡ ordered (map as_found (those (owned_by o) (found_from_root (read w) Meeting whole_site)))
      found_is = unfold found in refl

-- ---- whose they are

-- an owner of the edition is the one whom a search of the edition is for
first_in : (e : Edition) → owner_in e (first_owner e) ≡ first_owner e
unfolding owner_in first_owner
first_in One = refl
first_in Two = refl

pub first_told : (e : Edition) {d : Edition} {o : Owner} → d ≡ e → o ≡ first_owner d → owner_in e o ≡ o
first_told e q w =
    let here = w ∙ ap first_owner q in
    ap (owner_in e) here ∙ first_in e ∙ sym here

pub any_in : (e : Edition) → e ≡ Two → (o : Owner) → owner_in e o ≡ o
unfolding owner_in
any_in e q o = rw q

pub none_second : (e : Edition) (p : Pool) → e ≡ One → second_carried e p ≡ []
unfolding second_carried
none_second e p q = rw q

all_second : (e : Edition) (p : Pool) → e ≡ Two → second_carried e p ≡ map (of_owner (owner (pos 2))) (carried_of p (owner (pos 2)))
unfolding second_carried
all_second e p q = rw q

module _ (e : Edition) (p : Pool) (q : e ≡ Two) {fs : List FoundRecord} (own : fs ≡ carried_of p (owner (pos 2))) where
  pub second_count : length fs ≡ length (second_carried e p)
  second_count =
      ap length own
      ∙ sym (ap length (all_second e p q) ∙ length-map (carried_of p (owner (pos 2))) (of_owner (owner (pos 2))))

  pub second_text : own_frames e (owner (pos 2)) fs ≡ joined (map (record_frame e) (second_carried e p))
  second_text =
      ap joined (sym (map-map (record_frame e) (of_owner (owner (pos 2))) fs))
      ∙ ap (λ (l : List Record). joined (map (record_frame e) l)) (ap (map (of_owner (owner (pos 2)))) own ∙ sym (all_second e p q))

-- ---- the records of a file

two_parts : (e : Edition) (p : Pool) → joined (map (λ o. map (of_owner o) (carried_of p o)) (owners_of e))
    ≡ map (of_owner (first_owner e)) (carried_of p (first_owner e)) ++ second_carried e p
unfolding owners_of first_owner second_carried joined
two_parts One p = refl
two_parts Two p =
    let own : Owner → List Record = λ o. map (of_owner o) (carried_of p o) in
    ap (λ (l : List Record). own (owner (pos 1)) ++ l) (append-nil (own (owner (pos 2))))

module _ (w : List ℤ) {o : Owner} (whose : o ≡ first_owner (edition_of w)) {fs : List FoundRecord} (first : fs ≡ carried_of (read w) o) where
  pub carried_two : map (of_owner o) fs ++ second_carried (edition_of w) (read w) ≡ records_carried (read w)
  unfolding records_carried
  carried_two =
      let p = read w in
      ap (λ (l : List FoundRecord). map (of_owner o) l ++ second_carried (edition_of w) p) first
      ∙ ap (λ (x : Owner). map (of_owner x) (carried_of p x) ++ second_carried (edition_of w) p) whose
      ∙ sym (two_parts (edition_of w) p)
      ∙ ap (λ (e : Edition). joined (map (λ x. map (of_owner x) (carried_of p x)) (owners_of e))) (edition_is w)

  -- as many as the two owners have
  pub count_two : {n m : ℕ} → n ≡ length fs → m ≡ length (second_carried (edition_of w) (read w)) → n + m ≡ length (records_carried (read w))
  count_two a b =
      omega (arith, ap length carried_two, length-append (map (of_owner o) fs) (second_carried (edition_of w) (read w)), length-map fs (of_owner o), a, b)
