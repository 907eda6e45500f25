-- What the walk lists, and what is kept of it, as what a search finds.
use mathlib.Core.Path.{◌≡◌, sym, ap, subst, ◌∙◌}
use mathlib.Core.Bool.{Bool}
use mathlib.Core.List.{List}
use Prim.Native.Nat.{ℕ, ◌+◌, ◌*◌, ◌≤◌}
use native.Mathlib.Omega.{arith}
use lib.ListN.{length}
use lib.IntN.{ℤ}
use Rattle.rules.specs.declared.Edition.{Edition}
use Rattle.rules.specs.declared.Edition.TheVariants.{One}
use Rattle.rules.specs.declared.Rect.{Rect}
use Rattle.rules.specs.declared.Owner.{Owner}
use Rattle.rules.specs.declared.Record.{Record}
use Rattle.rules.specs.declared.Mode.{Mode}
use Rattle.rules.specs.declared.Mode.TheVariants.{Meeting}
use Rattle.rules.specs.Lists.{those}
use Rattle.rules.specs.Owners.{owned_by, owner_in}
use Rattle.rules.specs.Pool.{Pool}
use Rattle.rules.specs.Layout.{edition_of, read}
use Rattle.rules.specs.Search.{found_from_root}
use Rattle.rules_laws.proofs.Parts.{those_fewer}
use Rattle.search_laws.specs.Window.{record_wanted}
use Rattle.search_laws.proofs.Modes.{wanted_found}
use Rattle.found_items.specs.Items.{item_at, items_from}
use Rattle.found_items.proofs.Words.{items_length}
use Rattle.search.specs.declared.Walked.{Walked}
use Rattle.search.specs.Walk.{walked, KeptAll, Lists, FindsAll}
use Rattle.search.proofs.Keeping.{all_own}

-- the same records, said otherwise
lists_same : {pool : List ℤ} {window : Rect} {rs ts : List Record} {u v : List ℤ} {w : Walked} → rs ≡ ts → Lists pool window rs u v w → Lists pool window ts u v w
lists_same {pool} {window} {u = u} {v = v} {w = w} e g = subst (λ (xs : List Record). Lists pool window xs u v w) e g

module _ {pool : List ℤ} {window : Rect} {rs : List Record} {u v : List ℤ} {w : Walked} (g : Lists pool window rs u v w) where
  -- there is room for what is listed
  pub listed_room : 2 * length rs + 2 ≤ length u → 2 * w.next ≤ length v
  listed_room h = omega (arith, g.found, g.long, h)

  -- those that a test holds for are listed where the others are left out
  pub lists_kept : {test : Record → Bool} {x : List ℤ} {n : ℕ} → KeptAll pool test v x w.next n → Lists pool window (those test rs) u x (walked n w.opened)
  lists_kept {test} {x} {n} k =
      let are : items_from pool x 0 n ≡ those test rs = k.kept ∙ ap (those test) g.listed in
      record {
        found = sym (items_length (item_at pool x) 0 n) ∙ ap length are;
        opened = g.opened;
        most = g.most;
        listed = are;
        pointing = k.pointing;
        long = k.long ∙ g.long;
      }

  -- in edition 1 the owner's records are all of them
  pub lists_nobodys : (o : Owner) → edition_of pool ≡ One → owner_in (edition_of pool) o ≡ o → Lists pool window (those (owned_by o) rs) u v w
  lists_nobodys o e h =
      let nobody = subst (λ (x : Edition). owner_in x o ≡ o) e h in
      lists_same (sym g.listed ∙ sym (all_own pool v o e nobody 0 w.next) ∙ ap (those (owned_by o)) g.listed) g

-- the mode keeps what it wants
pub finds_wanted : {pool : List ℤ} {window : Rect} {u v x : List ℤ} {w : Walked} {n : ℕ} (mode : Mode) → FindsAll pool Meeting window u v w
    → KeptAll pool (record_wanted mode window) v x w.next n → FindsAll pool mode window u x (walked n w.opened)
finds_wanted {pool} {window} mode g k = lists_same (sym (wanted_found (read pool) mode window)) (lists_kept g k)

-- .. and that is no more than there was
pub wanted_fewer : (p : Pool) (mode : Mode) (window : Rect) → length (found_from_root p mode window) ≤ length (found_from_root p Meeting window)
wanted_fewer p mode window =
    omega (arith, ap length (wanted_found p mode window), those_fewer (record_wanted mode window) (found_from_root p Meeting window))
