-- What a tree asks of the two choices that it leaves open. Nothing above needs to know more about them.
use Rattle.std.specs.Prelude.{◌≡◌, Bool, List, ℕ, suc, ◌+◌, ◌≤◌, ◌<◌, length}
use Rattle.rules.specs.declared.Rect.{Rect}
use Rattle.rules.specs.declared.Entry.{Entry}
use Rattle.rules.specs.Lists.{those}
use Rattle.rules.specs.Numbers.{most, least}
use Rattle.rules.specs.Split.{Halves}
use Rattle.rules.specs.Insert.{Choice}

-- the two lists together are the whole, each entry as often as it was there: every test holds for as many entries
pub record Parted {A : Type 0} (whole one two : List A) : Type 0 where
  pub each : (p : A → Bool) → length (those p one) + length (those p two) ≡ length (those p whole)

-- a split of nine: nothing lost, nothing added, and 3 to 6 in each group (with 3 in the other, 6 are left)
pub record LawfulSplit (split : List Entry → Halves) : Type 0 where
  pub parted : (es : List Entry) → length es ≡ suc most → Parted es (split es).one (split es).two
  pub one : (es : List Entry) → length es ≡ suc most → least ≤ length (split es).one
  pub two : (es : List Entry) → length es ≡ suc most → least ≤ length (split es).two

-- a child that is there
pub record LawfulChild (child : List Rect → Rect → ℕ) : Type 0 where
  pub there : (rs : List Rect) (new : Rect) → 0 < length rs → child rs new < length rs

pub record Lawful (c : Choice) : Type 0 where
  pub child : LawfulChild c.child
  pub split : LawfulSplit c.split
