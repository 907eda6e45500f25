-- `try_from`: a number that is none of the six is none of a kind.
use native.Mathlib.Omega.{arith}
use Rattle.frames.proofs.Requests.{length_none, past_searches}
use Rattle.frames.proofs.FrameKindTryFromU16.try_from.Goals as goal

pub returns-in_default : goal.returns-in_default
returns-in_default c =
    length_none c.args.number (λ e. omega arith) (λ e. omega arith) (λ e. omega arith)
    (past_searches c.args.number (λ e. omega arith) (λ e. omega arith) (λ e. omega arith))
