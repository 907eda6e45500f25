-- What stays true from step to step of the program.
use Rattle.std.specs.Prelude.{Bool, true, false, ◌||◌, Some, ◌≡◌, ◌≢◌, List, [], ◌++◌, ℕ, suc, ◌+◌, ◌*◌, ◌≤◌, length, take, ℤ, pos, Option}
use Rattle.rules.specs.declared.Edition.TheVariants.{One}
use Rattle.rules.specs.declared.Request.{Request}
use Rattle.rules.specs.Lists.{same}
use Rattle.rules.specs.Layout.{head_size, slot_size}
use Rattle.rules.specs.Frames.{frame_call, bad_line, dustmap}
use Rattle.free_slots.specs.declared.FreeSlots.{FreeSlots}
use Rattle.frames.specs.Writing.{Wrote}
use Rattle.frames.specs.Reading as F
use Rattle.frames.specs.Reading.{framed}
use Rattle.frames.specs.Said.{Said, reply_shown}
use Rattle.request.specs.Serving.{Ready}
use Rattle.program.specs.declared.Run.{Run}
use Rattle.program.specs.declared.Then.{Then}
use Rattle.program.specs.declared.Then.TheVariants.{Goes, Waits, Full, Ends}
use Rattle.program.specs.declared.End.{End}
use Rattle.program.specs.declared.End.TheVariants.{Answered, BadFrame, NotRead, NotWritten, Endless}
use Rattle.std.specs.declared.ops.ControlFlow.{ControlFlow}
use Rattle.std.specs.declared.ops.ControlFlow.TheVariants.{Continue, Break}
use Rattle.std.specs.declared.io.Error.{Error}
use Rattle.std.specs.Io.KnownBytes.{Consumes, Appends}
use Rattle.program.specs.Moving.{most_rounds, Known, held_in, Taken, Stops, Emptied}

-- "a 128-slot pool (5,384 words)"
abbrev pub pool_size : ℕ
pool_size = head_size + slot_size One * 128

-- with the bytes `arrived` read and `printed` written before, all that is to be printed is this, the first bytes of `out`, and what the bytes
-- that are not done print
abbrev pub Claims : List ℤ → List ℕ → List ℕ → Run → List ℕ → List ℕ → Type 0
Claims pool input out r arrived printed = Said arrived (printed ++ take r.filled out) r.before pool (held_in input r)

-- the run may go on from here
pub record Stands (pool : List ℤ) (input out : List ℕ) (r : Run) : Type 0 where
  pub ready : Ready pool r.free
  pub low : r.at ≤ r.end
  pub high : r.end ≤ length input
  pub room : r.filled ≤ length out

-- a run at its start: no frame was before, no byte has come and none is printed
pub record Begins (pool : List ℤ) (r : Run) : Type 0 where
  pub counted : r.before ≡ 0
  pub stands : (input out : List ℕ) → Stands pool input out r
  pub claims : (input out : List ℕ) → Claims pool input out r [] []

-- the run may go on, and has come here from the run before it, with nothing printed that is not to be, and nothing left out
pub record Comes (before : List ℤ) (input out : List ℕ) (r : Run) (pool : List ℤ) (now : List ℕ) (s : Run) : Type 0 where
  pub stands : Stands pool input now s
  pub counted : s.before ≤ suc r.before
  pub keeps : (arrived printed : List ℕ) → Claims before input out r arrived printed → Claims pool input now s arrived printed

-- what is true of each way on. At a bad frame the output ends with its line, and holds all that is to be printed, whatever comes
unfoldable pub Onward : List ℤ → List ℕ → List ℕ → Run → List ℤ → List ℕ → Then → Type 0
Onward before input out r pool now (Goes s) = Comes before input out r pool now s
Onward before input out r pool now (Waits s) = Comes before input out r pool now s × (framed (held_in input s) ≡ F.Waits) × (s.before ≤ r.before)
Onward before input out r pool now (Full s) = Comes before input out r pool now s
Onward before input out r pool now (Ends s) =
    (s.filled ≤ length now)
    × (take s.filled now ≡ take r.filled out ++ bad_line (suc r.before))
    × ((arrived printed : List ℕ) → Claims before input out r arrived printed
    → (later : List ℕ) → dustmap (arrived ++ later) ≡ printed ++ take s.filled now)

-- what the call of a frame leaves: the pool, the lines after the first `at` bytes of the output, and what is known of the free slots
pub record Replies (pool : List ℤ) (q : Request) (before : ℕ) (out : List ℕ) (at : ℕ) (left : List ℤ) (now : List ℕ) (free : FreeSlots) (filled : ℕ) : Type 0 where
  pub ready : Ready left free
  pub map : left ≡ (frame_call pool q).pool
  pub wrote : Wrote out at (reply_shown before pool q) now filled
  pub short : filled ≤ at + 7124

-- the run past a frame of so many bytes, with what is known of the free slots then, and so much of the output filled
abbrev pub passed_by : Run → ℕ → FreeSlots → ℕ → Run
passed_by r size free filled = record { before = r.before + 1; free = free; at = r.at + size; end = r.end; filled = filled }

-- ---- the ends of a run

-- the status of each
abbrev pub status_of : End → ℤ
status_of Answered = pos 0
status_of BadFrame = pos 1
status_of (NotRead error) = pos 2
status_of (NotWritten error) = pos 3
status_of Endless = pos 4

-- how a run ends, by its status, when `arrived` has been read and `printed` written
pub data Finished (arrived printed : List ℕ) : ℤ → Type 0 where
  -- 0: the input has ended, and of all its frames the lines are printed
  answered : (before : ℕ) (pool : List ℤ) → Said arrived printed before pool [] → Finished arrived printed (pos 0)
  -- 1: all is printed, and the last line is that of a bad frame
  bad_frame : (text : List ℕ) (place : ℕ) → printed ≡ text ++ bad_line place → dustmap arrived ≡ printed → Finished arrived printed (pos 1)
  -- 2: the input cannot be read. Of all whole frames that came the lines are printed, and no bad frame is: what is left waits for its end
  not_read : (before : ℕ) (pool : List ℤ) (held : List ℕ) → Said arrived printed before pool held → framed held ≡ F.Waits
      → Finished arrived printed (pos 2)
  -- 3: the output cannot be written. What is printed is the beginning of what is to be
  not_written : (rest : List ℕ) → dustmap arrived ≡ printed ++ rest → Finished arrived printed (pos 3)
  -- 4: the rounds are used up
  endless : (rest : List ℕ) → dustmap arrived ≡ printed ++ rest → (rounds : ℕ) → rounds ≡ most_rounds → Finished arrived printed (pos 4)

-- what waited is written and the run goes on, or not all of it could be
pub data Drains (holds held : Known) (out : List ℕ) (r : Run) : ControlFlow End Run → Type 0 where
  on : (s : Run) → Taken holds out r.filled r.filled held → Emptied r s → Drains holds held out r (Continue s)
  stuck : (n : ℕ) (error : Option Error) → Stops holds held out r.filled n error → Drains holds held out r (Break (NotWritten error))

-- .. and the run ends at a bad frame
pub data Closes (holds held : Known) (out : List ℕ) (r : Run) : End → Type 0 where
  all : Taken holds out r.filled r.filled held → Closes holds held out r BadFrame
  stopped : (n : ℕ) (error : Option Error) → Stops holds held out r.filled n error → Closes holds held out r (NotWritten error)

-- the end of the input: no byte is left; or some are, and the line of a bad frame is written
pub data Ending (holds held : Known) (out now : List ℕ) (r : Run) : End → Type 0 where
  none : r.at ≡ r.end → held ≡ holds → Ending holds held out now r Answered
  cut : (s : Run) (end : End) → r.at ≢ r.end → Wrote out 0 (bad_line (suc r.before)) now s.filled → s.filled ≤ length out
      → Closes holds held now s end → Ending holds held out now r end

-- ---- a round

-- `piece` came from the reader and `sent` went to the writer, where their bytes are known: the reader had left the piece and then `rest`,
-- and the writer holds what it held and then what was sent
pub record Moves (left rest holds held : Known) (piece sent : List ℕ) : Type 0 where
  pub read : Consumes left rest piece
  pub wrote : Appends holds held sent

-- of a reader that has `rest` left all is printed that is to be: for what arrived, and for whatever is known to be left
abbrev pub Wholly : Known → List ℕ → List ℕ → Type 0
Wholly rest arrived printed = (later : List ℕ) → rest ≡ Some later → dustmap (arrived ++ later) ≡ printed

-- at these ends it is
abbrev pub is_whole : End → Bool
is_whole Answered = true
is_whole BadFrame = true
is_whole (NotRead error) = false
is_whole (NotWritten error) = false
is_whole Endless = false

-- a run has come from one to the other: `piece` came from the input, and `sent` went to the output. Nothing is printed that is not to be, and
-- nothing is left out
pub record Onto (Moved : List ℕ → List ℕ → Type 0) (pool : List ℤ) (input out : List ℕ) (r : Run) (pool' : List ℤ) (input' out' : List ℕ) (s : Run) : Type 0 where
  pub stands : Stands pool' input' out' s
  pub counted : s.before ≤ suc r.before
  pub piece : List ℕ
  pub sent : List ℕ
  pub moves : Moved piece sent
  pub keeps : (arrived printed : List ℕ) → Claims pool input out r arrived printed → Claims pool' input' out' s (arrived ++ piece) (printed ++ sent)

-- .. or it has ended, with `rest` left in the reader
pub record Over (Moved : List ℕ → List ℕ → Type 0) (rest : Known) (pool : List ℤ) (input out : List ℕ) (r : Run) (end : End) : Type 0 where
  pub piece : List ℕ
  pub sent : List ℕ
  pub moves : Moved piece sent
  pub finished : (arrived printed : List ℕ) → Claims pool input out r arrived printed → Finished (arrived ++ piece) (printed ++ sent) (status_of end)
  pub whole : is_whole end ≡ true → (arrived printed : List ℕ) → Claims pool input out r arrived printed
      → Wholly rest (arrived ++ piece) (printed ++ sent)

unfoldable pub Rounds : (List ℕ → List ℕ → Type 0) → Known → List ℤ → List ℕ → List ℕ → Run → List ℤ → List ℕ → List ℕ → ControlFlow End Run → Type 0
Rounds Moved rest pool input out r pool' input' out' (Continue s) = Onto Moved pool input out r pool' input' out' s
Rounds Moved rest pool input out r pool' input' out' (Break end) = Over Moved rest pool input out r end

-- a round that waits for input, where the end of a frame has yet to come
abbrev pub Waited : (List ℕ → List ℕ → Type 0) → Known → List ℕ → List ℕ → Run → List ℕ → List ℕ → ControlFlow End Run → Type 0
Waited Moved rest input out r input' out' t =
    (pool : List ℤ) → Stands pool input out r → framed (held_in input r) ≡ F.Waits → Rounds Moved rest pool input out r pool input' out' t

-- a whole run: what it read and wrote, and how it ended, with `rest` left in the reader
pub record RunsTo (Moved : List ℕ → List ℕ → Type 0) (rest : Known) (end : End) : Type 0 where
  pub arrived : List ℕ
  pub printed : List ℕ
  pub moves : Moved arrived printed
  pub finished : Finished arrived printed (status_of end)
  pub whole : is_whole end ≡ true → Wholly rest arrived printed

-- .. by its status
pub record Runs (Moved : List ℕ → List ℕ → Type 0) (status : ℤ) : Type 0 where
  pub arrived : List ℕ
  pub printed : List ℕ
  pub moves : Moved arrived printed
  pub finished : Finished arrived printed status

-- 0 or 1: all is printed
unfoldable pub whole_status : ℤ → Bool
whole_status status = same status (pos 0) || same status (pos 1)

-- where all that the reader has is known, and all is printed: what the writer holds is what it held, and after it what `dustmap` prints of that
abbrev pub PrintsAll : Known → Known → Known → ℤ → Type 0
PrintsAll left holds held status = (input : List ℕ) → left ≡ Some input → whole_status status ≡ true → Appends holds held (dustmap input)
