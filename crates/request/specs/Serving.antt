-- What one request leaves: the pool in the words lent, the answer, and the records that a search lists, as items in the workspace.
use Rattle.std.specs.Prelude.{◌≡◌, Bool, true, cond, not, ◌&&◌, List, [], ℕ, suc, ◌+◌, ◌*◌, ◌≤◌, length, ℤ, pos, Option, Some, None, false, Result, Ok, Err}
use Rattle.rules.specs.declared.Rect.{Rect}
use Rattle.rules.specs.declared.Owner.{Owner}
use Rattle.rules.specs.declared.Record.{Record}
use Rattle.rules.specs.declared.Request.{Request}
use Rattle.rules.specs.declared.Asked.{Asked}
use Rattle.rules.specs.declared.Mode.{Mode}
use Rattle.rules.specs.declared.Mode.TheVariants.{Meeting, OnlyInside, OnlyEnclosing}
use Rattle.rules.specs.declared.Accepted.TheVariants.{Changed}
use Rattle.rules.specs.declared.RequestFault.{RequestFault}
use Rattle.rules.specs.Lists.{same}
use Rattle.rules.specs.Compare.{exact_pair}
use Rattle.rules.specs.Pool.{Pool, moved, held}
use Rattle.rules.specs.Layout.{valid_length, read}
use Rattle.rules.specs.Sound.{sound}
use Rattle.rules.specs.Answers.{Reply, answer_of}
use Rattle.rules.specs.Insert.{ours}
use Rattle.rules.specs.Delete.{Path}
use Rattle.rules.specs.Request.{Turn, asked, request}
use Rattle.free_slots.specs.declared.FreeSlots.{FreeSlots}
use Rattle.free_slots.specs.Known.{Known}
use Rattle.found_items.specs.Items.{shown_from, Pointing}
use Rattle.delete_laws.specs.Way.{most_back}
use Rattle.delete_laws.specs.Shrunk.{room_for}
use Rattle.request.specs.declared.Served.{Served}

-- a sound pool, and what is known of its free slots
pub record Ready (w : List ℤ) (f : FreeSlots) : Type 0 where
  pub right : valid_length w ≡ true
  pub sound : sound w ≡ true
  pub known : Known (read w) f

-- the turn t, done in words of the length given
pub record Serves (long : ℕ) (t : Turn) (r : Served) (left scratch : List ℤ) : Type 0 where
  pub ready : Ready left r.free
  pub pool : read left ≡ t.pool
  pub answer : r.answer ≡ answer_of t.reply
  pub listed : r.listed ≡ length t.listed
  pub few : r.listed ≤ 32768
  pub items : shown_from left scratch 0 r.listed ≡ t.listed
  pub pointing : Pointing left scratch 0 r.listed
  pub same : length left ≡ long
  pub work : length scratch ≡ long

-- .. a turn that lists nothing: the workspace does not matter
pub record Changes (long : ℕ) (t : Turn) (r : Served) (left : List ℤ) : Type 0 where
  pub ready : Ready left r.free
  pub pool : read left ≡ t.pool
  pub answer : r.answer ≡ answer_of t.reply
  pub none : t.listed ≡ []
  pub listed : r.listed ≡ 0
  pub same : length left ≡ long

-- a change asked for in the words w is done there, however many places of the found list are filled and left
abbrev pub ChangesTo : List ℤ → Asked → Served → List ℤ → Type 0
ChangesTo w a r left = (filled room : ℕ) → Changes (length w) (request ours (read w) filled room a) r left

-- the request q of an owner's batch is done in the words w
abbrev pub ServesTo : List ℤ → Owner → Request → ℕ → ℕ → Served → List ℤ → List ℤ → Type 0
ServesTo w o q filled room r left scratch =
    (a : Asked) → asked o q ≡ Some a → Serves (length w) (request ours (read w) filled room a) r left scratch

-- what is handed back for a reply that lists nothing, and for a change that was made or refused: then the free slots are those of before
unfoldable pub replied : Reply → FreeSlots → Served
replied reply f = record { answer = answer_of reply; listed = 0; free = f }

unfoldable pub changed : FreeSlots → Result FreeSlots RequestFault → Served
changed before (Ok f) = replied (Ok Changed) f
changed before (Err fault) = replied (Err fault) before

-- a check: what refuses where it does not hold
abbrev pub refused_unless : Bool → RequestFault → Result (Unit {0}) RequestFault
refused_unless true fault = Ok tt
refused_unless false fault = Err fault

-- a change that was refused is taken back from the copy; one that was made stays
abbrev pub TakenBack : Option FreeSlots → List ℤ → List ℤ → List ℤ → Type 0
TakenBack (Some f) changed copy w = w ≡ changed
TakenBack None changed copy w = w ≡ copy

-- so many free slots are enough to take out the pair at the end of the way, and to put in so many records after it: for a delete none, for
-- an update one (`delete_fits`, `update_fits` of crate `delete_laws`)
unfoldable pub room_from : Pool → Path → ℕ → ℕ
room_from p way records = room_for (most_back p way) p.height + records * suc (p.height + most_back p way)

-- the mode of a search, by its kind: 4, 5 or 6
unfoldable pub mode_of : ℤ → Mode
mode_of k = cond (same k (pos 5)) OnlyInside (cond (same k (pos 6)) OnlyEnclosing Meeting)

-- 6: "update: new pair held and not the old pair"
unfoldable pub other_held : Pool → Record → Rect → Bool
other_held p old new = held p (moved old new) && not (exact_pair old (moved old new))
