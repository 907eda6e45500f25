-- `is_length`: each length that a kind has, and no other.
use mathlib.Core.Path.{sym}
use native.Mathlib.Omega.{arith}
use Rattle.frames.proofs.Requests.{some_kind, some_none}
use Rattle.frames.proofs.is_length.Goals as goal

pub returns-in-18 : goal.returns-in-18
returns-in-18 c = sym (some_kind c.args.n c.in-18.is)

pub returns-in_default : goal.returns-in_default
returns-in_default c =
    sym (some_none c.args.n (λ e. grind arith) (λ e. grind arith) (λ e. grind arith))
