-- What `dustmap_write`, `dustmap_read` and `dustmap_read_as` promise, for any input.
use Rattle.std.specs.Prelude.{◌≡◌, List, ℕ, ℤ}
use Rattle.rules.specs.declared.Edition.{Edition}
use Rattle.rules.specs.File.{write_file, read_file, read_file_as}

-- of a write into a lent buffer: the number, the buffer and the size of the file
pub record Writes (pool : List ℤ) (buffer : List ℕ) (n : ℤ) (bytes : List ℕ) (long : ℕ) : Type 0 where
  pub number : n ≡ (write_file pool buffer).number
  pub file : bytes ≡ (write_file pool buffer).file
  pub size : long ≡ (write_file pool buffer).size

-- of a read into a lent pool w, with a workspace u: the number, and the pool and the workspace that are left. `dustmap_read` is told edition 1
pub record Reads (e : Edition) (w u : List ℤ) (file : List ℕ) (n : ℤ) (v x : List ℤ) : Type 0 where
  pub number : n ≡ (read_file e w u file).number
  pub pool : v ≡ (read_file e w u file).pool
  pub workspace : x ≡ (read_file e w u file).workspace

-- .. of `dustmap_read_as`, which is told the numbers of an edition and of a rule
pub record ReadsAs (edition rule : ℤ) (w u : List ℤ) (file : List ℕ) (n : ℤ) (v x : List ℤ) : Type 0 where
  pub number : n ≡ (read_file_as edition rule w u file).number
  pub pool : v ≡ (read_file_as edition rule w u file).pool
  pub workspace : x ≡ (read_file_as edition rule w u file).workspace
