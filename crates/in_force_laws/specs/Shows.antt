-- A pool that holds the records in force, and what a search in it is to show.
use Rattle.std.specs.Prelude.{◌≡◌, ◌⊎◌, true, List, map, ℕ, suc, ◌-◌, ◌*◌, ◌^◌, ◌≤◌, length, Ok}
use Rattle.rules.specs.declared.Rect.{Rect}
use Rattle.rules.specs.declared.Mode.{Mode}
use Rattle.rules.specs.declared.Owner.{Owner}
use Rattle.rules.specs.declared.Record.{Record}
use Rattle.rules.specs.declared.FoundRecord.{FoundRecord}
use Rattle.rules.specs.declared.Accepted.TheVariants.{Listed}
use Rattle.rules.specs.Lists.{those}
use Rattle.rules.specs.Owners.{owner_sound, as_found}
use Rattle.rules.specs.Geometry.{same_found, same_pair}
use Rattle.rules.specs.Pool.{Pool, slot_numbers, stored}
use Rattle.rules.specs.Search.{ordered, reported}
use Rattle.rules.specs.Request.{Turn}
use Rattle.rules_laws.proofs.Places.{Among}
use Rattle.sound_laws.specs.Tree.{Whole}
use Rattle.search_laws.specs.Window.{own_wanted, node_meets, other_node}
use Rattle.search_laws.specs.Order.{Alike}

-- no pair occurs there twice
abbrev pub EachOnce : List Record → Type 0
EachOnce rs = (x : Record) → length (those (same_pair x) rs) ≤ 1

-- .. and nothing is shown twice
abbrev pub EachShown : List FoundRecord → Type 0
EachShown fs = (x : FoundRecord) → length (those (same_found x) fs) ≤ 1

-- each is of an owner that records of the pool can have
abbrev pub EachOwned : Pool → List Record → Type 0
EachOwned p rs = (r : Record) → Among r rs → owner_sound p.edition r.owner ≡ true

-- the pool is one tree, and its records are those of the list, each as often and none twice, and of its edition's owners
pub record HoldsRecords (p : Pool) (rs : List Record) : Type 0 where
  pub whole : Whole p
  pub alike : Alike (stored p) rs
  pub once : EachOnce rs
  pub owners : EachOwned p rs

-- the nodes in use other than the root whose cover meets the window
abbrev pub nodes_meeting : Pool → Rect → ℕ
nodes_meeting p window = length (those (node_meets p window) (those (other_node p) (slot_numbers p)))

-- "with n records and height h, h is 1 or 2·3^(h-1) ≤ n"
abbrev pub High : Pool → List Record → Type 0
High p rs = (p.height ≡ 1) ⊎ (2 * 3 ^ (p.height - 1) ≤ length rs)

-- a search in a pool that holds the records rs, with so many places of the found list filled: it lists "the records in force that meet the
-- window, each once, in record order", by mode (Req 01: "demands 2 and 3 read the found list by mode"); it answers their number, the first
-- place filled, and the nodes opened, in every mode "one for the root and one for each other node whose cover meets the window"; Req 07: it "sees
-- .. that owner's records only", and the nodes opened are "reported as 0" in edition 2
pub record SearchShows (p : Pool) (rs : List Record) (filled : ℕ) (o : Owner) (mode : Mode) (window : Rect) (t : Turn) : Type 0 where
  pub lists : t.listed ≡ ordered (map as_found (those (own_wanted o mode window) rs))
  pub once : EachShown t.listed
  pub reply : t.reply ≡ Ok (Listed (length (those (own_wanted o mode window) rs)) filled (reported p.edition (suc (nodes_meeting p window))))
  pub same : t.pool ≡ p
  pub high : High p rs
