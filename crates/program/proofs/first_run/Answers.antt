-- `first_run`: of the blank pool, what a run has to begin with holds (First).
use mathlib.Core.Path.{sym, ap, subst, ◌∙◌}
use mathlib.Core.List.{List, []}
use native.Mathlib.Omega.{arith}
use borrow.Author.Rules.{rules}
use lib.IntN.{ℤ}
use Rattle.rules.specs.Layout.{valid_length}
use Rattle.rules.specs.Sound.{sound}
use Rattle.frames.specs.Said.{Said}
use Rattle.frames.proofs.Pieces.{said_start}
use Rattle.program.proofs.First.{first_words, first_right, first_sound}
use Rattle.program.proofs.first_run.Goals as goal

pub over-requires : goal.over-requires
over-requires c =
    let blanked = c.blank.ensures.words ∙ first_words c.args.pool.now (search rules) in
    ap valid_length blanked ∙ first_right

pub returns : goal.returns
returns c =
    let blanked = c.blank.ensures.words ∙ first_words c.args.pool.now (search rules) in
    record {
      counted = omega arith;
      stands = λ input out. record {
        ready = record { right = ap valid_length blanked ∙ first_right; sound = ap sound blanked ∙ first_sound; known = rw c.over.ensures at c.free_slots-free.ensures };
        low = omega arith;
        high = omega arith;
        room = omega arith;
      };
      claims = λ input out. subst (λ (p : List ℤ). Said [] [] 0 p []) (sym blanked) said_start;
    }
