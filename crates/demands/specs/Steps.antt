-- A history of one pool: from a blank pool of an edition on it is lent to calls of any owner, blanked again, and read from files, with requests and
-- files accepted and refused, and with workspaces and lists of any content; and the pairs in force after it. There is no tree here.
use Rattle.std.specs.Prelude.{◌≡◌, true, false, List, [], ◌∷◌, ℕ, ℤ, pos, None, Some}
use Rattle.rules.specs.declared.Edition.{Edition}
use Rattle.rules.specs.declared.Record.{Record}
use Rattle.rules.specs.Lists.{same}
use Rattle.rules.specs.Owners.{edition_told}
use Rattle.rules.specs.Pool.{blank_pool}
use Rattle.rules.specs.Layout.{Blanked, words}
use Rattle.rules.specs.Call.{Lent, Left, batch_owner}
use Rattle.rules.specs.File.{file_records, ReadLeft}
use Rattle.in_force_laws.specs.Force.{force_after}
use Rattle.promises.specs.Blanks.{BlanksAs}
use Rattle.promises.specs.Files.{ReadsAs}
use Rattle.promises.specs.Calls.{Allowed}

-- a step: the pool is blanked; or lent to a call with a workspace and lists; or, Req 02, lent with a workspace for a file to be read into it; with
-- what came back. Req 07: "Blanking and reading are told the edition": the numbers of an edition and of a rule come first. (`dustmap_blank` and
-- `dustmap_read` tell 1 and 0. A pool that is written to a file is as it was)
pub data Step : Type 0 where
  Blank : ℤ → ℤ → Blanked → Step
  Call : Lent → Left → Step
  Read : ℤ → ℤ → List ℤ → List ℕ → ReadLeft → Step

-- the pool's words after the steps, the latest first in the list: at the start a blank pool of the edition e, of n + 1 slots. Words whose length
-- both editions have may be blanked, or read into, as the other: the edition is always that of the words
unfoldable pub pool_after : Edition → ℕ → List Step → List ℤ
pool_after e n [] = words (blank_pool e n)
pool_after e n (Blank edition rule b ∷ steps) = b.pool
pool_after e n (Call l o ∷ steps) = o.pool
pool_after e n (Read edition rule u file o ∷ steps) = o.pool

-- each step kept its promise, and was lent the pool that the steps before it left
abbrev pub History : Edition → ℕ → List Step → Type 0
History e n [] = Unit {0}
History e n (Blank edition rule b ∷ steps) = BlanksAs edition rule (pool_after e n steps) b.number b.pool × History e n steps
History e n (Call l o ∷ steps) = (l.pool ≡ pool_after e n steps) × Allowed l o × History e n steps
History e n (Read edition rule u file o ∷ steps) =
    ReadsAs edition rule (pool_after e n steps) u file o.number o.pool o.workspace × History e n steps

-- the records of a file, by the edition that the numbers tell
unfoldable pub records_told : ℤ → ℤ → List ℕ → List Record
records_told edition rule file = elim (edition_told edition rule) [ None ↦ [] | Some e ↦ file_records e file ]

-- "A pair is in force from an accepted insert of it, or update to it, until an accepted delete of it, or update to another.": the pairs in
-- force after the steps, by requests and answers. A pool that is blanked holds none; a call that is refused does no request; after a file that
-- is accepted, the pairs in force are those of the file. Req 07: "a pair counts as held per owner", and so it is in force for its owner: the
-- pairs of a batch are its owner's
unfoldable pub in_force_after : List Step → List Record
in_force_after [] = []
in_force_after (Blank edition rule b ∷ steps) = elim (same b.number (pos 0)) [ true ↦ [] | false ↦ in_force_after steps ]
in_force_after (Call l o ∷ steps) =
    elim (same o.number (pos 0)) [ true ↦ force_after (batch_owner l) (in_force_after steps) 0 l.requests o.answers | false ↦ in_force_after steps ]
in_force_after (Read edition rule u file o ∷ steps) =
    elim (same o.number (pos 0)) [ true ↦ records_told edition rule file | false ↦ in_force_after steps ]
