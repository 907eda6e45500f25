-- What a reader and a writer answered, and what the program makes of it. Of a file or a terminal no contract can say what it gives or
-- takes: these say how the program goes on for every answer that there may be. Where the bytes that a reader has left or that a writer
-- holds are known, they say what became of them.
use Rattle.std.specs.Prelude.{◌≡◌, Bool, true, false, cond, List, ℕ, zero, suc, ◌+◌, ◌-◌, ◌≤◌, length, take, drop, Option, None, Some, Result, Ok, Err, IfOk}
use Rattle.std.specs.Io.KnownBytes.{ReadConsumes, WriteAppends}
use Rattle.std.specs.declared.io.Error.{Error}
use Rattle.std.specs.declared.io.ErrorKind.{ErrorKind}
use Rattle.std.specs.declared.io.ErrorKind.TheVariants.{Interrupted, WouldBlock}
use Rattle.std.specs.IoError.{error_kind}
use Rattle.program.specs.declared.Run.{Run}
use Rattle.program.specs.declared.Stopped.{Stopped}

-- a signal came in between (4, EINTR), or the other side was not ready (11, EAGAIN)
abbrev pub passing : ErrorKind → Bool
passing Interrupted = true
passing WouldBlock = true
passing k = false

-- a call is made again then
unfoldable pub again : Error → Bool
again error = passing (error_kind error)

-- what a call moved: so many bytes, none at the end of the input; `None` where it is made again; or it answers with its error
unfoldable pub moved_by : Result ℕ Error → Result (Option ℕ) Error
moved_by (Ok n) = Ok (Some n)
moved_by (Err error) = cond (again error) (Ok None) (Err error)

-- how many bytes these are
abbrev pub count_of : Option ℕ → ℕ
count_of None = 0
count_of (Some n) = n

abbrev pub bytes_of : Result (Option ℕ) Error → ℕ
bytes_of (Ok moved) = count_of moved
bytes_of (Err error) = 0

-- the bytes that a reader has left or that a writer holds, where they are known
abbrev pub Known : Type 0
Known = Option (List ℕ)

-- ---- writing

-- up to where the output is written after a write of the bytes from `sent` on
unfoldable pub sent_by : ℕ → Result (Option ℕ) Error → Result ℕ (Option Error)
sent_by sent (Ok None) = Ok sent
sent_by sent (Ok (Some zero)) = Err None
sent_by sent (Ok (Some (suc n))) = Ok (sent + suc n)
sent_by sent (Err error) = Err (Some error)

-- the bytes of the output from `sent` up to `filled`
abbrev pub part_of : List ℕ → ℕ → ℕ → List ℕ
part_of out sent filled = take (filled - sent) (drop sent out)

-- one write, of the bytes of the output from `sent` up to `filled`
pub record Sends (holds held : Known) (out : List ℕ) (sent filled : ℕ) (r : Result ℕ (Option Error)) : Type 0 where
  pub answer : Result ℕ Error
  pub within : IfOk answer (λ n. n ≤ filled - sent)
  pub is : r ≡ sent_by sent (moved_by answer)
  pub wrote : WriteAppends holds held answer (part_of out sent filled)

-- so many bytes of the output were taken, by one write after another, each of the bytes after those taken before it
pub data Taken (holds : Known) (out : List ℕ) (filled : ℕ) : ℕ → Known → Type 0 where
  none : Taken holds out filled 0 holds
  more : (sent next : ℕ) (held now : Known) → Taken holds out filled sent held → Sends held now out sent filled (Ok next)
      → Taken holds out filled next now

-- the run with so much of the output filled
abbrev pub filled_up_to : Run → ℕ → Run
filled_up_to r filled = record { before = r.before; free = r.free; at = r.at; end = r.end; filled = filled }

-- all is as it was, except that nothing waits to be written
pub record Emptied (r s : Run) : Type 0 where
  pub before : s.before ≡ r.before
  pub free : s.free ≡ r.free
  pub at : s.at ≡ r.at
  pub end : s.end ≡ r.end
  pub filled : s.filled ≡ 0

-- how many rounds a run has, and how many tries a write has: more than any run uses up
abbrev pub most_rounds : ℕ
most_rounds = 18446744073709551615

-- no more is taken: a write of the bytes from `sent` on failed, or there were too many tries
pub data Stuck (holds held : Known) (out : List ℕ) (sent filled : ℕ) : Option Error → Type 0 where
  refused : (error : Option Error) → Sends holds held out sent filled (Err error) → Stuck holds held out sent filled error
  tired : (tries : ℕ) → tries ≡ most_rounds → held ≡ holds → Stuck holds held out sent filled None

-- so much of the output was taken, and then no more
pub record Stops (holds held : Known) (out : List ℕ) (filled n : ℕ) (error : Option Error) : Type 0 where
  pub at : Known
  pub taken : Taken holds out filled n at
  pub stuck : Stuck at held out n filled error

-- all that waited is taken, and the run goes on; or a write failed, and only so much was taken
unfoldable pub Flushes : Known → Known → List ℕ → Run → Result Run Stopped → Type 0
Flushes holds held out r (Ok s) = Taken holds out r.filled r.filled held × Emptied r s
Flushes holds held out r (Err s) = Stops holds held out r.filled s.sent s.error

-- ---- reading

-- the run with the bytes of the input from its start up to `end` not done
abbrev pub held_up_to : Run → ℕ → Run
held_up_to r end = record { before = r.before; free = r.free; at = 0; end = end; filled = r.filled }

-- the bytes that have arrived and are not done
abbrev pub held_in : List ℕ → Run → List ℕ
held_in input r = take (r.end - r.at) (drop r.at input)

-- how the run goes on after a read to the place after the `rest` bytes that wait. `None`: the input has ended
unfoldable pub came_by : Run → ℕ → Option ℕ → Option Run
came_by r rest None = Some (held_up_to r rest)
came_by r rest (Some zero) = None
came_by r rest (Some (suc n)) = Some (held_up_to r (rest + suc n))

abbrev pub got_by : Run → ℕ → Result (Option ℕ) Error → Result (Option Run) Error
got_by r rest (Ok moved) = Ok (came_by r rest moved)
got_by r rest (Err error) = Err error

-- one read: the bytes that wait are at the front of the input then, and what came follows them
pub record Receives (left rest : Known) (old input : List ℕ) (r : Run) (g : Result (Option Run) Error) : Type 0 where
  pub answer : Result ℕ Error
  pub within : IfOk answer (λ n. n ≤ length input - (r.end - r.at))
  pub held : take (r.end - r.at) input ≡ held_in old r
  pub is : g ≡ got_by r (r.end - r.at) (moved_by answer)
  pub read : ReadConsumes left rest answer (drop (r.end - r.at) input)
