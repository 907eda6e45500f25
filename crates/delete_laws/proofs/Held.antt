-- In a whole pool FindLeaf gives a way exactly if the pair is held, and the way leads to it: the records stored are those of the tree, and
-- a valid rectangle meets itself, so the covers above it are not left out.
use mathlib.Core.Path.{◌≡◌, refl, sym, subst}
use mathlib.Core.Logic.{◌↔◌, ⊎_elim}
use mathlib.Core.Bool.{Bool, true, false}
use mathlib.Core.List.Memᴰ
use mathlib.Core.List.{List, [], ◌∷◌}
use Rattle.std.specs.Prelude.{Option, None, Some}
use Rattle.rules.specs.declared.Record.{Record}
use Rattle.rules.specs.Lists.{one_of}
use Rattle.rules.specs.Numbers.{good_number}
use Rattle.rules.specs.Geometry.{valid, meets}
use Rattle.rules.specs.Compare.{exact_pair}
use Rattle.rules.specs.Pool.{Pool, stored, held}
use Rattle.rules.specs.Delete.{Path, path_to}
use Rattle.rules_laws.proofs.Orders.{never_both}
use Rattle.rules_laws.proofs.Compares.{valid_meets}
use Rattle.rules_laws.proofs.Places.{Among}
use Rattle.sound_laws.specs.Tree.{tree_records, Whole}
use Rattle.sound_laws.proofs.Same.{exact_same, exact_self}
use Rattle.sound_laws.proofs.Tests.{or_is}
use Rattle.sound_laws.proofs.Whole.{stored_in}
use Rattle.search_laws.specs.Order.{Alike}
use Rattle.search_laws.proofs.Order.{alike_among}
use Rattle.search_laws.proofs.Found.{record_good}
use Rattle.search_laws.proofs.Site.{stored_good}
use Rattle.delete_laws.specs.Way.{Leads, EachWay, Found}
use Rattle.delete_laws.proofs.Finds.{find_leads, leads_record, record_found}

module _ (r : Record) where
  one_among : (xs : List Record) → one_of (exact_pair r) xs ≡ true → Among r xs
  unfolding one_of
  one_among [] h = never_both h refl
  one_among (x ∷ xs) h = go (exact_pair r x) refl (one_among xs)
    where
      go : (b : Bool) → exact_pair r x ≡ b → (one_of (exact_pair r) xs ≡ true → Among r xs) → Among r (x ∷ xs)
      go true q later = Memᴰ.head (exact_same r x q)
      go false q later = Memᴰ.tail (later ((or_is (exact_pair r x) (one_of (exact_pair r) xs)).0 h q))

  among_one : (xs : List Record) → meets r.rect r.rect ≡ true → Among r xs → one_of (exact_pair r) xs ≡ true
  unfolding one_of
  among_one [] v m = absurd (Memᴰ.not-nil m)
  among_one (x ∷ xs) v m =
      (or_is (exact_pair r x) (one_of (exact_pair r) xs)).1
      (λ q. ⊎_elim (λ e. never_both (exact_self r x v e) q) (among_one xs v) (Memᴰ.cases_cons m))

  pub held_stored : (p : Pool) → held p r ≡ true → Among r (stored p)
  unfolding held
  held_stored p = one_among (stored p)

  -- a pair is held where it is stored: what a whole pool stores has no low above its high
  pub held_is : (p : Pool) → Whole p → (held p r ≡ true) ↔ Among r (stored p)
  unfolding held
  held_is p w = (held_stored p, λ m. among_one (stored p) (valid_meets r.rect (stored_good p w r m).0) m)

found_way : (Good : Path → Type 0) (o : Option Path) → EachWay Good o → Found o → (way : Path) × Good way
found_way Good None h f = absurd f
found_way Good (Some way) h f = (way, h)

module _ (p : Pool) (w : Whole p) (r : Record) where
  stored_alike : Alike (stored p) (tree_records p)
  stored_alike = record { each = stored_in p w }

  alike_stored : Alike (tree_records p) (stored p)
  alike_stored = record { each = λ f. sym (stored_in p w f) }

  -- "the first exact pair found" is there exactly if the pair is held
  pub find_held : (held p r ≡ true) ↔ Found (path_to p r)
  find_held = (
    (λ h.
        let m = alike_among stored_alike r (held_stored r p h) in
        record_found p r p.height p.root w.tree m (valid_meets r.rect (record_good p p.height p.root w.tree r m).0)),
    (λ f.
        let way = found_way (Leads p r p.height p.root) (path_to p r) (find_leads p r p.height p.root) f in
        (held_is r p w).1 (alike_among alike_stored r (leads_record p r p.height p.root way.0 way.1))),
  )

  -- a pair that is held is as a leaf entry is to be
  module _ (h : held p r ≡ true) where
    held_in_lem : Among r (tree_records p)
    held_in_lem = alike_among stored_alike r (held_stored r p h)

    pub held_valid : valid r.rect ≡ true
    held_valid = (record_good p p.height p.root w.tree r held_in_lem).0

    pub held_number : good_number r.number ≡ true
    held_number = (record_good p p.height p.root w.tree r held_in_lem).1

    -- the way that FindLeaf gives, and that it leads to the exact pair
    pub find_way : (way : Path) × (path_to p r ≡ Some way) × Leads p r p.height p.root way
    find_way = go (path_to p r) refl
      where
        go : (o : Option Path) → path_to p r ≡ o
            → (way : Path) × (path_to p r ≡ Some way) × Leads p r p.height p.root way
        go None q = absurd (subst Found q (find_held.0 h))
        go (Some way) q = (way, q, subst (EachWay (Leads p r p.height p.root)) q (find_leads p r p.height p.root))
