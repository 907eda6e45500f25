-- Over a window that holds every record stored, a search of mode inside finds what one of mode meeting finds: each record then lies in the
-- window, and so meets it too. The whole site is such a window, since every record stored has a valid rectangle.
use mathlib.Core.Path.{◌≡◌, refl, sym, ap, ◌∙◌}
use mathlib.Core.Bool.{Bool, true, false, ◌&&◌}
use mathlib.Core.List.{List, map}
use lib.IntN.{ℤ, pos, negsuc}
use lib.Signed.{le_z}
use Rattle.rules.specs.declared.Rect.{Rect}
use Rattle.rules.specs.declared.Owner.{Owner}
use Rattle.rules.specs.declared.Record.{Record}
use Rattle.rules.specs.declared.Mode.TheVariants.{Meeting, OnlyInside}
use Rattle.rules.specs.Lists.{those}
use Rattle.rules.specs.Numbers.{in_range, good_number}
use Rattle.rules.specs.Owners.{owned_by, as_found}
use Rattle.rules.specs.Geometry.{valid}
use Rattle.rules.specs.Pool.{Pool, stored}
use Rattle.rules.specs.Search.{ordered, found}
use Rattle.rules_laws.proofs.Bools.{and_both}
use Rattle.rules_laws.proofs.Places.{Among}
use Rattle.rules_laws.proofs.Parts.{those_same}
use Rattle.rules_laws.proofs.Compares.{HoldsRect, valid_meets, held_meets, meets_is, wanted_inside, wanted_meeting}
use Rattle.sound_laws.specs.Tree.{tree_records, Whole}
use Rattle.sound_laws.proofs.Whole.{stored_in}
use Rattle.search_laws.specs.Window.{record_wanted, own_wanted, whole_site}
use Rattle.search_laws.specs.Order.{Alike}
use Rattle.search_laws.proofs.Order.{alike_among}
use Rattle.search_laws.proofs.Found.{record_good}
use Rattle.search_laws.proofs.Exact.{search_exact}

-- a record that is stored is as a leaf entry is to be
pub stored_good : (p : Pool) → Whole p → (r : Record) → Among r (stored p) → (valid r.rect ≡ true) × (good_number r.number ≡ true)
stored_good p w r m = record_good p p.height p.root w.tree r (alike_among stored_alike r m)
  where
    stored_alike : Alike (stored p) (tree_records p)
    stored_alike = record { each = stored_in p w }

between : (z : ℤ) → in_range z ≡ true → (le_z (negsuc 999999999) z ≡ true) × (le_z z (pos 1000000000) ≡ true)
unfolding in_range
between z h = and_both (le_z (negsuc 999999999) z) (le_z z (pos 1000000000)) h

-- each coordinate of a valid rectangle is in range
pub record Ranged (r : Rect) : Type 0 where
  pub lowX : in_range r.lowX ≡ true
  pub lowY : in_range r.lowY ≡ true
  pub highX : in_range r.highX ≡ true
  pub highY : in_range r.highY ≡ true

pub valid_ranged : (r : Rect) → valid r ≡ true → Ranged r
unfolding valid
valid_ranged r v =
    let lows = in_range r.lowX && in_range r.lowY in
    let a = and_both _ (le_z r.lowY r.highY) v in
    let b = and_both _ (le_z r.lowX r.highX) a.0 in
    let c = and_both (lows && in_range r.highX) (in_range r.highY) b.0 in
    let d = and_both lows (in_range r.highX) c.0 in
    let e = and_both (in_range r.lowX) (in_range r.lowY) d.0 in
    record { lowX = e.0; lowY = e.1; highX = d.1; highY = c.1 }

pub site_holds : (r : Rect) → valid r ≡ true → HoldsRect whole_site r
site_holds r v =
    let i = valid_ranged r v in
    record {
      lowX = (between r.lowX i.lowX).0;
      lowY = (between r.lowY i.lowY).0;
      highX = (between r.highX i.highX).1;
      highY = (between r.highY i.highY).1;
    }

module _ (p : Pool) (w : Whole p) (o : Owner) where
  pub inside_all : (window : Rect) → ((r : Record) → Among r (stored p) → HoldsRect window r.rect)
      → found p o OnlyInside window ≡ found p o Meeting window
  inside_all window h =
      search_exact p w o OnlyInside window
      ∙ ap (λ (rs : List Record). ordered (map as_found rs)) (those_same (own_wanted o OnlyInside window) (own_wanted o Meeting window) (stored p) own)
      ∙ sym (search_exact p w o Meeting window)
    where
      same : (r : Record) → Among r (stored p) → record_wanted OnlyInside window r ≡ record_wanted Meeting window r
      same r m =
          let v = (stored_good p w r m).0 in
          (wanted_inside r.rect window v).1 (h r m)
          ∙ sym ((wanted_meeting r.rect window v).1 ((meets_is r.rect window).0 (held_meets r.rect window (valid_meets r.rect v) (h r m))))

      own : (r : Record) → Among r (stored p) → own_wanted o OnlyInside window r ≡ own_wanted o Meeting window r
      own r m = ap (λ (b : Bool). owned_by o r && b) (same r m)

  -- for planners: over the whole site, inside is meeting
  pub whole_site_lem : found p o OnlyInside whole_site ≡ found p o Meeting whole_site
  whole_site_lem = inside_all whole_site (λ r m. site_holds r.rect (stored_good p w r m).0)

  -- .. and a search that meets it finds every record of its owner
  pub all_found : found p o Meeting whole_site ≡ ordered (map as_found (those (owned_by o) (stored p)))
  all_found =
      search_exact p w o Meeting whole_site
      ∙ ap (λ (rs : List Record). ordered (map as_found rs)) (those_same (own_wanted o Meeting whole_site) (owned_by o) (stored p) own)
    where
      all : (r : Record) → Among r (stored p) → record_wanted Meeting whole_site r ≡ true
      all r m =
          let v = (stored_good p w r m).0 in
          (wanted_meeting r.rect whole_site v).1
          ((meets_is r.rect whole_site).0 (held_meets r.rect whole_site (valid_meets r.rect v) (site_holds r.rect v)))

      both : (a : Bool) → (a && true) ≡ a
      both true = refl
      both false = refl

      own : (r : Record) → Among r (stored p) → own_wanted o Meeting whole_site r ≡ owned_by o r
      own r m = rw (all r m) (both (owned_by o r))
