-- One node, in full: what is in its slot, and in the partner's, after an entry came to it. Two slots are written, and they differ, since
-- the one is in use and the other was free.
use mathlib.Core.Path.{◌≡◌, ap, ◌∙◌}
use mathlib.Core.List.{List, [], ◌∷◌, ◌++◌}
use Prim.Native.Nat.{ℕ, suc, ◌≤◌, ◌<◌}
use native.Mathlib.Omega.{arith}
use lib.ListN.{length, length-append}
use borrow.Author.Tests.{lt-ltb, le-ltb}
use Rattle.rules.specs.declared.SlotNumber.{SlotNumber}
use Rattle.rules.specs.declared.Pointer.TheVariants.{Child}
use Rattle.rules.specs.declared.Entry.{Entry}
use Rattle.std.specs.Prelude.{Some, None}
use Rattle.rules.specs.Numbers.{most, least}
use Rattle.rules.specs.Pool.{Node, Pool, node, entry, node_at, entries_at, cover_of, entry_for, lowest_free, put_node}
use Rattle.rules.specs.Insert.{Choice, Kept, Split, Full, install}
use Rattle.rules.specs.Lawful.{LawfulSplit}
use Rattle.rules_laws.proofs.Splits.{at_most_six}
use Rattle.sound_laws.specs.Tree.{NodeIn}
use Rattle.sound_laws.proofs.Frame.{put_same}
use Rattle.sound_laws.proofs.Free.{lowest_slot, lowest_free_lem}
use Rattle.insert_laws.proofs.Under.{entries_are}
use Rattle.insert_laws.proofs.Install.{put_two, two_first, two_second, other_level, put_entries_lem, split_none, split_at, install_room, install_full}

module _ (c : Choice) (p : Pool) (l : ℕ) (s : SlotNumber) (here : NodeIn p (suc l) s) (e : Entry) where
  -- the entries with the new one last
  abbrev nine : List Entry
  nine = entries_at p s ++ e ∷ []

  -- "A new entry goes last."
  pub install_last : length (entries_at p s) < most → (q : Pool) × (install c p s e ≡ Kept q) × (node_at q s ≡ node (suc l) nine)
  install_last room = (
    put_node p s (node (suc l) nine),
    install_room c p s e (lt-ltb (length (entries_at p s)) most room) ∙ ap Kept (put_entries_lem p (suc l) s nine here.level),
    put_same p s (node (suc l) nine) here.slot,
  )

  module _ (full : most ≤ length (entries_at p s)) where
    pub install_none : lowest_free p ≡ None → install c p s e ≡ Full
    install_none h =
        install_full c p s e (le-ltb (length (entries_at p s)) most full) ∙ rw h (split_none p s (c.split nine))

    -- "Group 1 stays in the old slot. Group 2 takes the lowest free slot.", 3 to 6 entries in each; the partner's entry is the right one
    pub record Halved (t : SlotNumber) (q : Pool) (x : Entry) : Type 0 where
      pub split : install c p s e ≡ Split q x
      pub one : node_at q s ≡ node (suc l) (c.split nine).one
      pub two : node_at q t ≡ node (suc l) (c.split nine).two
      pub least_one : least ≤ length (c.split nine).one
      pub least_two : least ≤ length (c.split nine).two
      pub most_one : length (c.split nine).one ≤ 6
      pub most_two : length (c.split nine).two ≤ 6
      pub partner : x ≡ entry_for q t

    module _ (lawful : LawfulSplit c.split) (t : SlotNumber) (h : lowest_free p ≡ Some t) where
      abbrev one : Node
      one = node (suc l) (c.split nine).one

      abbrev two : Node
      two = node (suc l) (c.split nine).two

      abbrev both : Pool
      both = put_two p s one t two

      many : length nine ≡ suc most
      many = omega (arith, here.few, length-append (entries_at p s) (e ∷ []))

      apart : (node_at p t).level ≡ 0 → (node_at p s).level ≡ (node_at p t).level → ⊥
      apart z k = omega (arith, here.level)

      at_two : node_at both t ≡ two
      at_two = two_second p s one t two here.slot (lowest_slot p t h)

      partner_right : entry (cover_of (c.split nine).two) (Child t) ≡ entry_for both t
      unfolding entry_for
      partner_right = rw (entries_are both (suc l) t (c.split nine).two at_two)

      pub install_halves : Halved t both (entry (cover_of (c.split nine).two) (Child t))
      install_halves = record {
        split = install_full c p s e (le-ltb (length (entries_at p s)) most full) ∙ rw h (split_at p (suc l) s (c.split nine) t here.level);
        one = two_first p s one t two here.slot (lowest_slot p t h) (other_level p s t (apart (lowest_free_lem p t h)));
        two = at_two;
        least_one = lawful.one nine many;
        least_two = lawful.two nine many;
        most_one = (at_most_six lawful nine many).0;
        most_two = (at_most_six lawful nine many).1;
        partner = partner_right;
      }
