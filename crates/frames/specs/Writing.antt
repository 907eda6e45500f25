-- Bytes written into a lent buffer.
use Rattle.std.specs.Prelude.{◌≡◌, List, ℕ, ◌+◌, ◌≤◌, length}
use Rattle.std.proofs.lemmas.List.Edits.{sets}
use Rattle.frames.specs.declared.Lines.{Lines}

-- the text stands from `at` on, all other bytes are as they were, and `next` is the place after the text
pub record Wrote (before : List ℕ) (at : ℕ) (text after : List ℕ) (next : ℕ) : Type 0 where
  pub place : next ≡ at + length text
  pub bytes : after ≡ sets before at text

-- n bytes more can be written
abbrev pub Room : ℕ → Lines → Type 0
Room n l = l.at + n ≤ length l.out.now

-- the text, of n bytes at most, is written after what was written, in the same buffer
pub record Adds (n : ℕ) (before : Lines) (text : List ℕ) (after : Lines) : Type 0 where
  pub same : after.out.ghost_name ≡ before.out.ghost_name
  pub size : length after.out.now ≡ length before.out.now
  pub wrote : Wrote before.out.now before.at text after.out.now after.at
  pub short : after.at ≤ before.at + n
