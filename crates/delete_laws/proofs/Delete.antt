-- A record goes out of a whole pool, and the pool is whole again: nothing is lost but the pair. With enough slots it is never refused.
use mathlib.Core.Path.{◌≡◌, refl, sym, ap, subst, ◌∙◌}
use mathlib.Core.Logic.{◌≢◌}
use mathlib.Core.Bool.{Bool, true, false, not}
use mathlib.Core.List.Memᴰ
use mathlib.Core.List.{List, [], ◌∷◌}
use Rattle.std.specs.Prelude.{Option, None, Some}
use Prim.Native.Nat.{ℕ, zero, suc, ◌+◌, ◌-◌, ◌≤◌}
use native.Mathlib.Omega.{arith}
use lib.ListN.{length}
use Rattle.rules.specs.declared.SlotNumber.{SlotNumber}
use Rattle.rules.specs.declared.Record.{Record}
use Rattle.rules.specs.Lists.{those}
use Rattle.rules.specs.Pool.{Pool, record_of, node_at, entries_at, entry_at, child_of, stored, held, free_count, put_records}
use Rattle.rules.specs.Sound.{sound_pool}
use Rattle.rules.specs.Insert.{Choice, Change, Done, NoneFree}
use Rattle.rules.specs.Lawful.{Lawful}
use Rattle.rules.specs.Delete.{Path, Aside, Condensed, path_to, condense, shorten, shortened, reinsert, put_back, delete_record}
use Rattle.rules_laws.proofs.Orders.{never_both}
use Rattle.rules_laws.proofs.Parts.{those_all, those_nothing, counted}
use Rattle.rules_laws.proofs.Places.{Among}
use Rattle.sound_laws.specs.Tree.{tree_records, Whole}
use Rattle.sound_laws.proofs.Whole.{stored_in}
use Rattle.sound_laws.proofs.Sound.{whole_sound}
use Rattle.sound_laws.proofs.Free.{head_free}
use Rattle.insert_laws.specs.Grown.{records_under, weight_under}
use Rattle.insert_laws.specs.Standing.{Standing}
use Rattle.insert_laws.proofs.Counts.{count_of, count_under}
use Rattle.insert_laws.proofs.Standing.{standing_once}
use Rattle.insert_laws.proofs.Whole.{head_standing, whole_standing, standing_whole, standing_stored, head_records}
use Rattle.delete_laws.specs.Way.{Leads, EachWay, Found, most_back}
use Rattle.delete_laws.specs.Shrunk.{weight_aside, Shrunk, Waiting, PutBack, Shortened, Deleted, EachPool, Sure, room_for, SlotRoom}
use Rattle.delete_laws.proofs.Finds.{find_leads}
use Rattle.delete_laws.proofs.Held.{find_held}
use Rattle.delete_laws.proofs.Asides.{aside_member}
use Rattle.delete_laws.proofs.Condense.{condense_shrunk, shrunk_count, shrunk_waiting}
use Rattle.delete_laws.proofs.Thin.{thin_head, condense_few}
use Rattle.delete_laws.proofs.Again.{reinsert_puts}
use Rattle.delete_laws.proofs.Spare.{room_least, reinsert_room}
use Rattle.delete_laws.proofs.Short.{shorten_stands}

-- ---- the number of records in the head is no part of the way

leads_head : (p : Pool) (n : ℕ) (r : Record) (l : ℕ) (s : SlotNumber) (way : Path) → Leads p r l s way → Leads (put_records p n) r l s way
unfolding Leads put_records entry_at entries_at node_at
leads_head p n r zero s way h = h
leads_head p n r (suc zero) s way h = h
leads_head p n r (suc (suc l)) s way h =
    (h.0, h.1, h.2, h.3, leads_head p n r (suc l) (child_of (entry_at p s h.0)) h.1 h.4)

head_two : (p : Pool) (n : ℕ) → Whole p → 2 ≤ (put_records p n).height → 2 ≤ length (entries_at (put_records p n) (put_records p n).root)
unfolding put_records entries_at node_at
head_two p n w h = w.two h

head_tree : (p : Pool) (n : ℕ) → tree_records (put_records p n) ≡ tree_records p
unfolding put_records
head_tree p n = head_records p n p.height p.root

-- ---- what was set aside is back, and the root is short

module _ (c : Choice) where
  pub short_done : (q : Pool) → shortened (Done q) ≡ Done (shorten q)
  unfolding shortened
  short_done q = refl

  pub short_none : shortened NoneFree ≡ NoneFree
  unfolding shortened
  short_none = refl

  pub back_is : (x : Condensed) → put_back c x ≡ shortened (reinsert c x.pool x.set_aside)
  unfolding put_back
  back_is x = refl

  each_short : (Good Fine : Pool → Type 0) → ((q : Pool) → Good q → Fine (shorten q)) → (o : Change) → EachPool Good o → EachPool Fine (shortened o)
  each_short Good Fine f (Done q) h = rw (short_done q) (f q h)
  each_short Good Fine f NoneFree h = rw short_none tt

  sure_short : (Good Sound Fine : Pool → Type 0) → ((q : Pool) → Good q → Sound q → Fine (shorten q)) → (o : Change) → EachPool Good o
      → Sure Sound o → Sure Fine (shortened o)
  sure_short Good Sound Fine f (Done q) h k = rw (short_done q) (f q h k)
  sure_short Good Sound Fine f NoneFree h k = absurd k

  module _ (lawful : Lawful c) (p : Pool) (w : Whole p) (r : Record) (way : Path) (h : Leads p r p.height p.root way) where
    abbrev less : Pool
    less = put_records p (p.records - 1)

    pub stands : Standing less []
    stands = head_standing p (p.records - 1) [] (whole_standing p w)

    pub way_leads : Leads less r less.height less.root way
    unfolding put_records
    way_leads = leads_head p (p.records - 1) r p.height p.root way h

    pub out : Condensed
    out = condense less way

    pub out_is : out ≡ condense less way
    unfolding out
    out_is = refl

    pub shrunk : Shrunk less less.height less.root r out
    unfolding out
    shrunk = condense_shrunk less r less.height less.root way stands.tree (standing_once less [] stands) way_leads

    pub waiting : Waiting out.pool out.set_aside
    waiting = shrunk_waiting less stands (head_two p (p.records - 1) w) r out shrunk

    -- how many of the stored records a test holds for, by what is left and what is set aside
    out_count : (f : Record → Bool) → weight_aside (count_of f) out.pool out.set_aside ≤ length (those f (stored p))
    out_count f =
        omega (
          arith,
          shrunk_count less stands (head_two p (p.records - 1) w) r out shrunk f,
          ap (λ (rs : List Record). length (those f rs)) (head_tree p (p.records - 1)),
          stored_in p w f,
        )

    -- a leaf's entry that is set aside is a stored record: a test that holds for all of these holds for it
    pub aside_stored : (f : Record → Bool) → ((x : Record) → Among x (stored p) → f x ≡ true) → (a : Aside) → Among a out.set_aside → a.level ≡ 1
        → f (record_of a.entry) ≡ true
    unfolding records_under
    aside_stored f all a m l = go (f x) refl
      where
        x : Record
        x = record_of a.entry

        others : Record → Bool
        others y = not (f y)

        here : weight_under (count_of others) out.pool a.level a.entry ≡ length (those others (x ∷ []))
        here =
            ap (λ (k : ℕ). weight_under (count_of others) out.pool k a.entry) l
            ∙ count_under out.pool others 1 a.entry

        go : (b : Bool) → f x ≡ b → f x ≡ true
        go true e = e
        go false e =
            absurd (omega (
              arith,
              here,
              aside_member out.pool (count_of others) a out.set_aside m,
              out_count others,
              ap length (those_nothing others (stored p) (λ y k. ap not (all y k))),
              counted others {x = x} {xs = x ∷ []} (Memᴰ.head refl) (ap not e),
            ))

    module _ (q : Pool) (g : PutBack out.pool out.set_aside q) where
      short : Shortened q (shorten q)
      short = shorten_stands q g.stands

      now_stored : (f : Record → Bool) → length (those f (stored (shorten q))) + length (those f (r ∷ [])) ≡ length (those f (stored p))
      now_stored f =
          omega (
            arith,
            standing_stored (shorten q) short.stands short.two f,
            short.count f,
            g.count f,
            shrunk_count less stands (head_two p (p.records - 1) w) r out shrunk f,
            ap (λ (rs : List Record). length (those f rs)) (head_tree p (p.records - 1)),
            stored_in p w f,
          )

      now_records : (shorten q).records ≡ p.records - 1
      unfolding put_records
      now_records = short.records ∙ g.records ∙ shrunk.head.records

      now_deleted : Deleted p r (shorten q)
      now_deleted =
          let all = now_stored (λ x. true) in
          let fewer : length (stored (shorten q)) + 1 ≡ length (stored p) =
          rw (those_all (stored (shorten q)), those_all (r ∷ []), those_all (stored p)) at all in
          record {
            whole = standing_whole (shorten q) short.stands short.two (omega (arith, now_records, w.counted));
            stored = now_stored;
          }

    back_deleted : EachPool (Deleted p r) (put_back c (condense less way))
    back_deleted =
        rw (← out_is, back_is out)
        (each_short (PutBack out.pool out.set_aside) (Deleted p r) now_deleted (reinsert c out.pool out.set_aside)
        (reinsert_puts c lawful out.set_aside out.pool waiting))

    -- .. and is sure to be, with enough slots for so many as are put back
    abbrev n : ℕ
    n = most_back p way

    few : length out.set_aside ≤ n
    unfolding out
    few =
        omega (
          arith,
          condense_few less r less.height less.root way stands.tree (standing_once less [] stands) way_leads,
          thin_head p (p.records - 1) way,
        )

    room_short : (q : Pool) → PutBack out.pool out.set_aside q → SlotRoom out.pool (length out.set_aside) q
        → SlotRoom p n (shorten q)
    unfolding put_records
    room_short q g k =
        let s = shorten_stands q g.stands in
        let same = shrunk.head.height in
        record {
          high = omega (arith, s.high, k.high, few, same);
          left = omega (
            arith,
            s.spare,
            k.left,
            shrunk.spare,
            head_free p (p.records - 1),
            room_least (length out.set_aside) n p.height out.pool.height few (omega (arith, same)),
          );
        }

    back_room : room_for n p.height ≤ free_count p → Sure (SlotRoom p n) (put_back c (condense less way))
    unfolding put_records
    back_room room =
        let same = shrunk.head.height in
        let enough : room_for (length out.set_aside) out.pool.height ≤ free_count out.pool =
        omega (
          arith,
          room,
          shrunk.spare,
          head_free p (p.records - 1),
          room_least (length out.set_aside) n p.height out.pool.height few (omega (arith, same)),
        ) in
        rw (← out_is, back_is out)
        (sure_short (PutBack out.pool out.set_aside) (SlotRoom out.pool (length out.set_aside)) (SlotRoom p n) room_short
        (reinsert c out.pool out.set_aside) (reinsert_puts c lawful out.set_aside out.pool waiting)
        (reinsert_room c lawful out.set_aside out.pool waiting enough))

  -- ---- D1 to D4

  module _ (p : Pool) (r : Record) where
    pub delete_missing : path_to p r ≡ None → delete_record c p r ≡ Done p
    unfolding delete_record
    delete_missing h = rw (h, delete_record)

    pub delete_found : (way : Path) → path_to p r ≡ Some way
        → delete_record c p r ≡ put_back c (condense (put_records p (p.records - 1)) way)
    unfolding delete_record
    delete_found way h = rw (h, delete_record)

    module _ (w : Whole p) where
      -- a pair that is not held changes nothing
      pub delete_other : held p r ≡ false → delete_record c p r ≡ Done p
      delete_other n = go (path_to p r) refl
        where
          go : (o : Option Path) → path_to p r ≡ o → delete_record c p r ≡ Done p
          go None h = delete_missing h
          go (Some way) h = never_both ((find_held p w r).1 (subst Found (sym h) tt)) n

      pub delete_each : Lawful c → held p r ≡ true → EachPool (Deleted p r) (delete_record c p r)
      delete_each lawful y = go (path_to p r) refl
        where
          go : (o : Option Path) → path_to p r ≡ o → EachPool (Deleted p r) (delete_record c p r)
          go None h = absurd (subst Found h ((find_held p w r).0 y))
          go (Some way) h =
              rw (delete_found way h)
              (back_deleted lawful p w r way (subst (EachWay (Leads p r p.height p.root)) h (find_leads p r p.height p.root)))

      -- with enough slots a delete is done, and leaves as many
      module _ (lawful : Lawful c) (way : Path) (finds : path_to p r ≡ Some way)
          (room : room_for (most_back p way) p.height ≤ free_count p) where
        pub delete_room : Sure (SlotRoom p (most_back p way)) (delete_record c p r)
        delete_room =
            rw (delete_found way finds)
            (back_room lawful p w r way
            (subst (EachWay (Leads p r p.height p.root)) finds (find_leads p r p.height p.root)) room)

        pub delete_fits : delete_record c p r ≢ NoneFree
        delete_fits e = subst (Sure (SlotRoom p (most_back p way))) e delete_room

-- what is true of the pool that a change leaves, where it leaves one
pub pool_left : (P : Pool → Type 0) (o : Change) → ((q : Pool) → o ≡ Done q → P q) → EachPool P o
pool_left P (Done q) h = h q refl
pool_left P NoneFree h = tt

done_in : (P : Pool → Type 0) (p q : Pool) → Done p ≡ Done q → P p → P q
done_in P p q h x = subst (EachPool P) h x

-- ---- deletes

module _ (c : Choice) (lawful : Lawful c) (p : Pool) (w : Whole p) (r : Record) (q : Pool) (h : delete_record c p r ≡ Done q) where
  delete_deleted : held p r ≡ true → Deleted p r q
  delete_deleted y = subst (EachPool (Deleted p r)) h (delete_each c p r w lawful y)

  pub delete_whole : Whole q
  delete_whole = go (held p r) refl
    where
      go : (b : Bool) → held p r ≡ b → Whole q
      go true y = (delete_deleted y).whole
      go false n = done_in Whole p q (sym (delete_other c p r w n) ∙ h) w

  -- "nothing lost": the records of before are those of now and the pair
  pub delete_stored : held p r ≡ true → (f : Record → Bool)
      → length (those f (stored q)) + length (those f (r ∷ [])) ≡ length (those f (stored p))
  delete_stored y = (delete_deleted y).stored

  pub delete_sound : sound_pool q ≡ true
  delete_sound = whole_sound q delete_whole
