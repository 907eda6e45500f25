-- A search of a batch, by what the batch leaves in the lists lent.
use Rattle.std.specs.Prelude.{◌≡◌, true, List, map, ℕ, suc, ◌+◌, length, get_or}
use Rattle.std.proofs.Math.Seq.{slice}
use Rattle.rules.specs.declared.Rect.{Rect}
use Rattle.rules.specs.declared.Mode.{Mode}
use Rattle.rules.specs.declared.Owner.{Owner}
use Rattle.rules.specs.declared.Record.{Record}
use Rattle.rules.specs.declared.FoundRecord.{FoundRecord}
use Rattle.rules.specs.declared.Answer.{Answer}
use Rattle.rules.specs.Lists.{those}
use Rattle.rules.specs.Owners.{owner_sound, as_found}
use Rattle.rules.specs.Pool.{Pool}
use Rattle.rules.specs.Search.{ordered, reported}
use Rattle.rules.specs.Answers.{answer}
use Rattle.rules.specs.Call.{Batch}
use Rattle.search_laws.specs.Window.{own_wanted}
use Rattle.in_force_laws.specs.Shows.{EachShown, nodes_meeting, High}

-- a batch of an owner that its pool can have
abbrev pub FairBatch : Batch → Type 0
FairBatch b = owner_sound b.pool.edition b.owner ≡ true

-- how many of the records an owner's search of the mode lists
abbrev pub how_many_wanted : Owner → Mode → Rect → List Record → ℕ
how_many_wanted o mode window rs = length (those (own_wanted o mode window) rs)

-- the search at place i of an owner's batch, done in the pool p with the records rs in force and so many places of the found list filled, as the
-- answer list and the found list show it when the call returns
pub record Told (p : Pool) (rs : List Record) (filled : ℕ) (o : Owner) (mode : Mode) (window : Rect) (i : ℕ) (answers : List Answer) (found : List FoundRecord) : Type 0 where
  pub told : get_or answers i (answer 0 0 0 0) ≡ answer 0 (how_many_wanted o mode window rs) filled (reported p.edition (suc (nodes_meeting p window)))
  pub shown : slice filled (filled + how_many_wanted o mode window rs) found ≡ ordered (map as_found (those (own_wanted o mode window) rs))
  pub once : EachShown (slice filled (filled + how_many_wanted o mode window rs) found)
  pub high : High p rs
