-- Req 02, about every outcome that the promises of `dustmap_write`, `dustmap_read` and `dustmap_read_as` allow.
use Rattle.std.specs.Prelude.{◌≡◌, ◌≢◌, List, ℕ, take, ℤ, pos, negsuc}
use Rattle.rules.specs.declared.Record.{Record}
use Rattle.rules.specs.Pool.{stored}
use Rattle.rules.specs.Layout.{read}
use Rattle.rules.specs.File.{records_carried}
use Rattle.search_laws.specs.Order.{Alike}
use Rattle.promises.specs.Files.{Writes, ReadsAs}

-- what is lent to a write and what comes back of it: the number, the buffer, and how many bytes of it are the file
pub record Write : Type 0 where
  pub pool : List ℤ
  pub buffer : List ℕ
  pub number : ℤ
  pub left : List ℕ
  pub size : ℕ
  pub allowed : Writes pool buffer number left size

-- .. and to a read, which is told the numbers of an edition and of a rule (`dustmap_read` tells 1 and 0): the number, the pool and the workspace
pub record ReadOf (file : List ℕ) : Type 0 where
  pub edition : ℤ
  pub rule : ℤ
  pub pool : List ℤ
  pub work : List ℤ
  pub number : ℤ
  pub left : List ℤ
  pub workspace : List ℤ
  pub allowed : ReadsAs edition rule pool work file number left workspace

-- the file that a write has left at the front of the buffer
abbrev pub file_of : Write → List ℕ
file_of w = take w.size w.left

-- "writing again gives the same bytes"
pub record WrittenAgain (file : List ℕ) (w : Write) : Type 0 where
  pub number : w.number ≡ pos 0
  pub bytes : file_of w ≡ file

-- "A read refused past 1 leaves the pool, and its workspace equal to it."
pub record ReadLeaves {file : List ℕ} (r : ReadOf file) : Type 0 where
  pub refused : r.number ≢ pos 0 → r.number ≢ pos 1 → r.number ≢ negsuc 0 → (r.left ≡ r.pool) × (r.workspace ≡ r.pool)
  -- .. and refused 1, nothing is written at all
  pub short : r.number ≡ pos 1 → (r.left ≡ r.pool) × (r.workspace ≡ r.work)
  -- .. nor where the numbers tell no edition
  pub untold : r.number ≡ negsuc 0 → (r.left ≡ r.pool) × (r.workspace ≡ r.work)
  -- accepted, "the workspace equals the pool"
  pub accepted : r.number ≡ pos 0 → r.workspace ≡ r.left

-- the map is accepted, and holds exactly these records, each as often; and a file of it has them in this order
pub record CarriedOver (rs : List Record) {file : List ℕ} (r : ReadOf file) : Type 0 where
  pub number : r.number ≡ pos 0
  pub records : Alike (stored (read r.left)) rs
  pub order : records_carried (read r.left) ≡ rs
