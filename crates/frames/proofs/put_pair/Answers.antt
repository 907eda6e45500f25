-- `put_pair`: the first two of the library's bytes of a number are those of the definition.
use mathlib.Core.Path.{ap, ◌∙◌}
use mathlib.Core.List.{List}
use Prim.Native.Nat.{ℕ}
use lib.ListN.{take}
use Rattle.frames.proofs.Texts.{wrote_as}
use Rattle.frames.proofs.Words.{bytes_of_pair}
use Rattle.frames.proofs.put_pair.Goals as goal

pub returns : goal.returns
returns c = wrote_as (ap (λ (bs : List ℕ). take 2 bs) c.to_le_bytes-bytes.ensures ∙ bytes_of_pair c.args.n) c.put_bytes.ensures
