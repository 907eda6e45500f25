use Rattle.std.proofs.Common.{◌≡◌, List, ℕ, ◌≤◌, length, ℤ}
use Rattle.program.specs.declared.Run.{Run}
use Rattle.program.specs.Moving.{Known}
use Rattle.program.specs.Running.{Claims, Stands, Moves}
use Rattle.program.proofs.answer_all.Given as goal

-- what has been read, what has been handed over, and that what is printed of the first is the second and what is still in the output
pub record Turn (left rest holds held : Known) (pool : List ℤ) (input out : List ℕ) (run : Run) (rounds : ℕ) : Type 0 where
  pub inputs : length input ≡ 65536
  pub outs : length out ≡ 65536
  pub stands : Stands pool input out run
  pub counted : run.before ≤ rounds
  pub arrived : List ℕ
  pub printed : List ℕ
  pub moves : Moves left rest holds held arrived printed
  pub claims : Claims pool input out run arrived printed

abbrev pub invariant-loop : goal.invariant-loop
invariant-loop g l =
    Turn (g.R.Read.remaining l.initial.reader) (g.R.Read.remaining l.reader) (g.W.Write.contents l.initial.writer) (g.W.Write.contents l.writer) l.pool l.input l.out
    l.run l.counter
