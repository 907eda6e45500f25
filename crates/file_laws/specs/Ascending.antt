-- Records as a file has them: each after its predecessor, and each as a leaf entry of the edition is to be.
use Rattle.std.specs.Prelude.{◌≡◌, true, List}
use Rattle.rules.specs.declared.Edition.{Edition}
use Rattle.rules.specs.declared.Record.{Record}
use Rattle.rules.specs.declared.FoundRecord.{FoundRecord}
use Rattle.rules.specs.Numbers.{good_number}
use Rattle.rules.specs.Owners.{owner_sound}
use Rattle.rules.specs.Geometry.{valid}
use Rattle.rules.specs.Search.{before}
use Rattle.rules.specs.File.{before_in_file}
use Rattle.rules_laws.proofs.Places.{Each, Ordered}

-- what is shown of one owner's records: each goes before every later one, in found order
abbrev pub Rising : List FoundRecord → Type 0
Rising fs = Ordered (λ a b. before a b ≡ true) fs

-- .. and the records of a file: in the file's order, by owner first
abbrev pub Ascending : List Record → Type 0
Ascending rs = Ordered (λ a b. before_in_file a b ≡ true) rs

abbrev pub GoodRecord : Edition → Record → Type 0
GoodRecord e r = (valid r.rect ≡ true) × (good_number r.number ≡ true) × (owner_sound e r.owner ≡ true)

pub record Carriable (e : Edition) (rs : List Record) : Type 0 where
  pub ascending : Ascending rs
  pub good : Each (GoodRecord e) rs
