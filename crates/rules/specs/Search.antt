-- "Search": what is found, in which order, and how many nodes are opened.
use Rattle.std.specs.Prelude.{Bool, false, cond, List, [], ◌∷◌, map, ℕ, zero, suc}
use Rattle.rules.specs.declared.Rect.{Rect}
use Rattle.rules.specs.declared.SlotNumber.{SlotNumber}
use Rattle.rules.specs.declared.Edition.{Edition}
use Rattle.rules.specs.declared.Edition.TheVariants.{One, Two}
use Rattle.rules.specs.declared.Owner.{Owner}
use Rattle.rules.specs.declared.Record.{Record}
use Rattle.rules.specs.declared.FoundRecord.{FoundRecord}
use Rattle.rules.specs.declared.Entry.{Entry}
use Rattle.rules.specs.declared.Mode.{Mode}
use Rattle.rules.specs.Lists.{those, joined, total, less_then}
use Rattle.rules.specs.Owners.{owned_by, as_found}
use Rattle.rules.specs.Compare.{compared, is_meeting, wanted}
use Rattle.rules.specs.Pool.{Pool, entries_at, child_of, record_of}

-- the entries "whose entry rectangle meets the window". Req 01: "All modes open the nodes whose cover meets the window."
unfoldable pub meeting : Rect → List Entry → List Entry
meeting window es = those (λ (e : Entry). is_meeting (compared e.rect window)) es

-- a leaf's entries that a search of the mode lists
unfoldable pub listed_by : Mode → Rect → List Entry → List Entry
listed_by mode window es = those (λ (e : Entry). wanted mode (compared e.rect window)) es

-- S1 and S2: "Search descends from the root and opens every child whose entry rectangle meets the window": what it finds from the node at s
-- down, which has the level given
unfoldable pub found_in : Pool → Mode → Rect → ℕ → SlotNumber → List Record
found_in p mode window zero s = []
found_in p mode window (suc zero) s = map record_of (listed_by mode window (entries_at p s))
found_in p mode window (suc (suc l)) s = joined (map (λ (e : Entry). found_in p mode window (suc l) (child_of e)) (meeting window (entries_at p s)))

-- .. and how many nodes it opens, in every mode
unfoldable pub opened_in : Pool → Rect → ℕ → SlotNumber → ℕ
opened_in p window zero s = 0
opened_in p window (suc zero) s = 1
opened_in p window (suc (suc l)) s = suc (total (map (λ (e : Entry). opened_in p window (suc l) (child_of e)) (meeting window (entries_at p s))))

-- "ordered by record number, then low x, low y, high x, high y"
unfoldable pub before : FoundRecord → FoundRecord → Bool
before a b =
    less_then a.number.0 b.number.0
    (less_then a.rect.lowX b.rect.lowX
    (less_then a.rect.lowY b.rect.lowY
    (less_then a.rect.highX b.rect.highX
    (less_then a.rect.highY b.rect.highY false))))

unfoldable pub placed : FoundRecord → List FoundRecord → List FoundRecord
placed r [] = r ∷ []
placed r (x ∷ xs) = cond (before x r) (x ∷ placed r xs) (r ∷ x ∷ xs)

unfoldable pub ordered : List FoundRecord → List FoundRecord
ordered [] = []
ordered (r ∷ rs) = placed r (ordered rs)

-- what is found from the root down, in the order in which the search meets it
abbrev pub found_from_root : Pool → Mode → Rect → List Record
found_from_root p mode window = found_in p mode window p.height p.root

-- Req 07: a batch "sees .. that owner's records only"
unfoldable pub found : Pool → Owner → Mode → Rect → List FoundRecord
found p o mode window = ordered (map as_found (those (owned_by o) (found_from_root p mode window)))

-- "The root is always opened."
abbrev pub opened_from_root : Pool → Rect → ℕ
opened_from_root p window = opened_in p window p.height p.root

-- Req 07: "Opened is reported as 0" in edition 2
unfoldable pub reported : Edition → ℕ → ℕ
reported One n = n
reported Two n = 0

unfoldable pub opened : Pool → Rect → ℕ
opened p window = reported p.edition (opened_from_root p window)
