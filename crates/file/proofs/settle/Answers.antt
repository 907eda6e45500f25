-- `settle`: one of the two is copied over the other.
use mathlib.Core.Path.{refl}
use Rattle.file.specs.Loading.{settled}
use Rattle.file.proofs.settle.Goals as goal

pub returns-then-loaded : goal.returns-then-loaded
unfolding settled
returns-then-loaded c = rw c.if-loaded.true (record { pool = c.copy.ensures; workspace = refl })

pub returns-else-loaded : goal.returns-else-loaded
unfolding settled
returns-else-loaded c = rw c.if-loaded.false (record { pool = refl; workspace = c.copy-else-loaded.ensures })
