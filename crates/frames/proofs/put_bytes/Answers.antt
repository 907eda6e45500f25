-- `put_bytes`: the text is copied to the part of the buffer from `at` on.
use mathlib.Core.Path.{refl}
use native.Mathlib.Omega.{arith}
use Prim.Native.Nat.{◌+◌, ◌-◌}
use lib.ListN.{length}
use Rattle.frames.proofs.Texts.{wrote_part}
use Rattle.frames.proofs.put_bytes.Goals as goal

pub returns : goal.returns
returns c =
    let text = c.args.text.now in
    wrote_part c.args.out.now text c.copy_from_slice.new.self c.args.at (c.args.at + length text - c.args.at)
    (omega (arith, c.requires)) (omega arith) c.copy_from_slice.ensures.after refl
