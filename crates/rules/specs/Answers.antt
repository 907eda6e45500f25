-- "What comes back": the table of document 01, as numbers for what was accepted and for what refuses.
use Rattle.std.specs.Prelude.{Bool, true, false, List, [], ◌∷◌, ℕ, ℤ, pos, negsuc, Option, None, Some, Ok, Err, Result}
use Rattle.rules.specs.declared.Accepted.{Accepted}
use Rattle.rules.specs.declared.Accepted.TheVariants.{Changed, Listed}
use Rattle.rules.specs.declared.RequestFault.{RequestFault}
use Rattle.rules.specs.declared.RequestFault.TheVariants.{BadRectangle, BadNumber, NotHeld, Held, NoSlot, NoRoom}
use Rattle.rules.specs.declared.Answer.{Answer}
use Rattle.rules.specs.declared.CallFault.{CallFault}
use Rattle.rules.specs.declared.CallFault.TheVariants.{BadLists, BadOwner, BadLength, NotSound, NoRequest}

-- the outcome of a request
abbrev pub Reply : Type 0
Reply = Result Accepted RequestFault

abbrev pub answer : ℕ → ℕ → ℕ → ℕ → Answer
answer n f s o = record { number = n; found = f; start = s; opened = o }

-- "Changes and refusals report zeros for the last three; 8 reports found and opened as they would have been, start zero."
unfoldable pub answer_of : Reply → Answer
answer_of (Ok Changed) = answer 0 0 0 0
answer_of (Ok (Listed f s o)) = answer 0 f s o
answer_of (Err BadRectangle) = answer 3 0 0 0
answer_of (Err BadNumber) = answer 4 0 0 0
answer_of (Err NotHeld) = answer 5 0 0 0
answer_of (Err Held) = answer 6 0 0 0
answer_of (Err NoSlot) = answer 7 0 0 0
answer_of (Err (NoRoom f o)) = answer 8 f 0 o

-- the number that a refused call returns. A list with something that is no request of document 01 gets a number that is not in the table, -1
unfoldable pub call_fault_number : CallFault → ℤ
call_fault_number BadLists = pos 9
call_fault_number BadOwner = pos 13
call_fault_number BadLength = pos 1
call_fault_number NotSound = pos 2
call_fault_number NoRequest = negsuc 0

-- .. and that of a call, by whether it was refused
unfoldable pub call_number : Result (Unit {0}) CallFault → ℤ
call_number (Ok x) = pos 0
call_number (Err fault) = call_fault_number fault

-- ---- a table read from the top

-- a row: whether it applies, and what it gives
pub record Row (A : Type 0) : Type 0 where
  pub applies : Bool
  pub gives : A

module _ {A : Type 0} where
  abbrev pub row : Bool → A → Row A
  row b a = record { applies = b; gives = a }

  -- "The table's order is the order of checks.": what the first row that applies gives
  unfoldable pub first_row : List (Row A) → Option A
  first_row [] = None
  first_row (r ∷ rs) = elim r.applies [ true ↦ Some r.gives | false ↦ first_row rs ]

-- what a check answers, by what refuses
module _ {E : Type 0} where
  abbrev pub checked : Option E → Result (Unit {0}) E
  checked None = Ok tt
  checked (Some e) = Err e
