-- `Lines::text`: one byte by itself, or all of them at once.
use mathlib.Core.Path.{refl}
use native.Mathlib.Omega.{arith}
use Rattle.frames.proofs.Texts.{wrote_length}
use Rattle.frames.proofs.Lines.text.Goals as goal

pub returns : goal.returns
returns c =
    let w = c.put_bytes-self.ensures in
    record { same = refl; size = wrote_length w; wrote = w; short = omega (arith, w.place) }
