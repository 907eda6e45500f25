-- A search in words: what it may write, and what it leaves. It finds no more records than the slots have places for, so the workspace has
-- two words for each, and for one more.
use mathlib.Core.Path.{◌≡◌, refl, sym, ap, ap₂, subst, subst⁻¹, ◌∙◌}
use mathlib.Core.Bool.{true, false}
use mathlib.Core.List.{List, [], map}
use Rattle.std.specs.Prelude.{Some, Ok, Err}
use Prim.Native.Nat.{ℕ, ◌+◌, ◌*◌, ◌≤◌, ◌<◌}
use native.Mathlib.Omega.{arith}
use lib.ListN.{length, length-map}
use lib.IntN.{ℤ, pos}
use Rattle.rules.specs.declared.RequestFault.{RequestFault}
use Rattle.rules.specs.declared.Edition.{Edition}
use Rattle.rules.specs.declared.Edition.TheVariants.{One, Two}
use Rattle.rules.specs.declared.Owner.{Owner}
use Rattle.rules.specs.declared.Rect.{Rect}
use Rattle.rules.specs.declared.Record.{Record}
use Rattle.rules.specs.declared.Request.{Request}
use Rattle.rules.specs.declared.Asked.{Asked}
use Rattle.rules.specs.declared.Answer.{Answer}
use Rattle.rules.specs.declared.Mode.{Mode}
use Rattle.rules.specs.declared.Asked.TheVariants.{Search}
use Rattle.rules.specs.declared.Accepted.TheVariants.{Listed}
use Rattle.rules.specs.declared.RequestFault.TheVariants.{BadRectangle, NoRoom}
use Rattle.rules.specs.Numbers.{good_owner}
use Rattle.rules.specs.Lists.{those}
use Rattle.rules.specs.Owners.{owner_in, owner_sound, owned_by, as_found}
use Rattle.rules.specs.Geometry.{valid}
use Rattle.rules.specs.Layout.{slot_size, edition_of, slot_count, valid_length, read}
use Rattle.rules.specs.Search.{ordered, found, reported, opened, opened_from_root, found_from_root}
use Rattle.rules.specs.Insert.{ours}
use Rattle.rules.specs.Answers.{answer_of}
use Rattle.rules.specs.Request.{Turn, turn, asked, request}
use Rattle.rules_laws.proofs.Parts.{those_fewer}
use Rattle.layout_laws.proofs.Parts.{right_size, few_slots}
use Rattle.layout_laws.proofs.Written.{edition_is}
use Rattle.sound_laws.proofs.Same.{same_is}
use Rattle.search_laws.proofs.Order.{alike_length, ordered_alike}
use Rattle.free_slots.specs.declared.FreeSlots.{FreeSlots}
use Rattle.found_items.specs.Items.{each_from, items_from, shown_from, Pointing}
use Rattle.found_items.proofs.Words.{shown_items}
use Rattle.request.specs.declared.Served.{Served}
use Rattle.request.specs.Serving.{Ready, Serves, Changes, ChangesTo, replied}
use Rattle.in_force_laws.specs.Force.{asked_by}
use Rattle.in_force_laws.proofs.Asks.{asked_owner}
use Rattle.in_force_laws.proofs.Owned.{owner_in_sound}
use Rattle.in_force_laws.proofs.Sounds.{found_few}
use Rattle.request.proofs.Rows.{search_3, search_8, search_0}
use Rattle.request.proofs.Turns.{ready_whole, stays}

-- what lists nothing
pub quiet : (n : ℕ) (t : Turn) (s : Served) (v u : List ℤ) → length u ≡ n → Changes n t s v → Serves n t s v u
unfolding each_from
quiet n t s v u e h = record {
  ready = h.ready;
  pool = h.pool;
  answer = h.answer;
  listed = h.listed ∙ ap length (sym h.none);
  few = omega (arith, h.listed);
  items = subst (λ (k : ℕ). shown_from v u 0 k ≡ t.listed) (sym h.listed) (sym h.none);
  pointing = record { inside = λ i a b. absurd (omega (arith, a, b, h.listed)) };
  same = h.same;
  work = e;
}

-- what is asked is a search, or a change, and that is done
module _ (w : List ℤ) (filled room : ℕ) {a b : Asked} (is : a ≡ b) {s : Served} {v u : List ℤ} where
  pub serves_as : Serves (length w) (request ours (read w) filled room b) s v u → Serves (length w) (request ours (read w) filled room a) s v u
  serves_as h = rw is h

  pub changes_as : length u ≡ length w → ChangesTo w b s v → Serves (length w) (request ours (read w) filled room a) s v u
  changes_as e h = serves_as (quiet (length w) _ s v u e (h filled room))

-- a slot has more words than the items of its records need
pub size_least : (e : Edition) (n : ℕ) → 42 * n ≤ slot_size e * n
size_least One n = omega arith
size_least Two n = omega arith

-- whose search it is: of nobody in edition 1
owner_in_lem : (e : Edition) (o : Owner) → owner_sound e o ≡ true → owner_in e o ≡ o
unfolding owner_sound owner_in
owner_in_lem One o h = let z = (same_is o.0 (pos 0)).0 h in λ i. record { 0 = sym z i }
owner_in_lem Two o h = refl

pub owner_in_pool : (w : List ℤ) (o : Owner) → owner_sound (read w).edition o ≡ true → owner_in (edition_of w) o ≡ o
owner_in_pool w o h = owner_in_lem (edition_of w) o (subst⁻¹ (λ (e : Edition). owner_sound e o ≡ true) (edition_is w) h)

pub some_words : (w : List ℤ) → valid_length w ≡ true → 1 ≤ length w
some_words w r = omega (arith, right_size w r)

-- a batch's owner is one that the pool can have
pub who_sound : (w : List ℤ) (o x : Owner) → good_owner o ≡ true → x ≡ owner_in (edition_of w) o → owner_sound (read w).edition x ≡ true
who_sound w o x good is = rw (is, ← edition_is w) (owner_in_sound (edition_of w) o good)

-- .. and so are those of its requests
pub asks_sound : (w : List ℤ) (o x : Owner) (q : Request) (a : Asked) → good_owner o ≡ true → x ≡ owner_in (edition_of w) o → asked x q ≡ Some a
    → owner_sound (read w).edition (asked_by a) ≡ true
asks_sound w o x q a good is h =
    subst (λ (y : Owner). owner_sound (read w).edition y ≡ true) (sym (asked_owner x q a h)) (who_sound w o x good is)

module _ (w : List ℤ) (f : FreeSlots) (r : Ready w f) (mode : Mode) (window : Rect) where
  -- the records that the walk finds
  abbrev walk : List Record
  walk = found_from_root (read w) mode window

  walk_few : length walk ≤ 8 * slot_count w
  walk_few = found_few w (ready_whole w f r) mode window

  -- there is room for them in a workspace as long as the pool, twice, and for one item more
  pub walk_room : 4 * length walk + 2 ≤ length w
  walk_room = omega (arith, walk_few, right_size w r.right, size_least (edition_of w) (slot_count w))

  walk_small : length walk ≤ 32768
  walk_small = omega (arith, walk_few, few_slots w r.right)

  -- those of the owner, in the order of the walk
  module _ (o : Owner) where
    abbrev own : List Record
    own = those (owned_by o) walk

    found_is : found (read w) o mode window ≡ ordered (map as_found own)
    unfolding found
    found_is = refl

    found_size : length (found (read w) o mode window) ≡ length own
    found_size = ap length found_is ∙ alike_length (ordered_alike (map as_found own)) ∙ length-map own as_found

    pub own_room : 4 * length own + 2 ≤ length w
    own_room = omega (arith, walk_room, those_fewer (owned_by o) walk)

    pub own_small : length own ≤ 32768
    own_small = omega (arith, walk_small, those_fewer (owned_by o) walk)

    opened_is : (n : ℕ) → n ≡ opened_from_root (read w) window → reported (edition_of w) n ≡ opened (read w) window
    unfolding opened
    opened_is n e = ap₂ reported (edition_is w) e

    module _ (filled room : ℕ) (u : List ℤ) (long : length u ≡ length w) where
      abbrev searches : Turn
      searches = request ours (read w) filled room (Search o mode window)

      search_row : (fault : RequestFault) → searches ≡ turn (read w) (Err fault) [] → Serves (length w) searches (replied (Err fault) f) w u
      search_row fault h = quiet (length w) searches (replied (Err fault) f) w u long (stays w f r searches fault h)

      pub search_bad : valid window ≡ false → Serves (length w) searches (replied (Err BadRectangle) f) w u
      search_bad v = search_row BadRectangle (search_3 (read w) filled room o mode window v)

      -- n are found, and k nodes opened: as the code has it
      module _ (v : valid window ≡ true) (n k : ℕ) (many : n ≡ length own) (nodes : k ≡ opened_from_root (read w) window) (told : ℕ)
          (tells : told ≡ reported (edition_of w) k) where
        told_is : told ≡ opened (read w) window
        told_is = tells ∙ opened_is k nodes

        pub search_full : room < n → Serves (length w) searches (replied (Err (NoRoom n told)) f) w u
        search_full h =
            search_row (NoRoom n told)
            (search_8 (read w) filled room o mode window v (omega (arith, found_size, many, h))
            ∙ ap (λ (m : ℕ). turn (read w) (Err (NoRoom m (opened (read w) window))) []) (found_size ∙ sym many)
            ∙ ap (λ (m : ℕ). turn (read w) (Err (NoRoom n m)) []) (sym told_is))

        pub search_done : n ≤ room → (x : List ℤ) → items_from w x 0 n ≡ own → shown_from w u 0 n ≡ ordered (shown_from w x 0 n) → Pointing w u 0 n
            → (a : Answer) → a ≡ answer_of (Ok (Listed n filled told)) → Serves (length w) searches (record { answer = a; listed = n; free = f }) w u
        search_done h x lists sorted points a is =
            subst (λ (t : Turn). Serves (length w) t (record { answer = a; listed = n; free = f }) w u)
            (sym (search_0 (read w) filled room o mode window v (omega (arith, found_size, many, h)))) (record {
              ready = r;
              pool = refl;
              answer = is ∙ ap answer_of (ap₂ (λ (m j : ℕ). Ok (Listed m filled j)) (many ∙ sym found_size) told_is);
              listed = many ∙ sym found_size;
              few = omega (arith, own_small, many);
              items = sorted ∙ ap ordered (shown_items w x 0 n ∙ ap (map as_found) lists) ∙ sym found_is;
              pointing = points;
              same = refl;
              work = long;
            })
