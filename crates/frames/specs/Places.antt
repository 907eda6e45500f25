-- Where the code finds the parts of a frame: the length at byte 0, the kind at byte 2, the words from byte 4 on. A reader of `framed` needs
-- none of this.
use Rattle.std.specs.Prelude.{cond, List, ℕ, ◌+◌, take, drop, eqb, ℤ, pos}
use Rattle.rules.specs.declared.Rect.{Rect}
use Rattle.rules.specs.declared.Request.{Request}
use Rattle.rules.specs.Pool.{rectangle}
use Rattle.rules.specs.Geometry.{no_rect}
use Rattle.rules.specs.Frames.{word_value, request_in}
use Rattle.frames.specs.Reading.{search_kind}

abbrev pub word_from : List ℕ → ℕ → ℤ
word_from bs p = word_value (take 4 (drop p bs))

unfoldable pub rect_of_bytes : List ℕ → ℕ → Rect
rect_of_bytes bs p = rectangle (word_from bs p) (word_from bs (p + 4)) (word_from bs (p + 8)) (word_from bs (p + 12))

unfoldable pub change_from : ℤ → List ℕ → Request
change_from k bs = request_in k (word_from bs 4) (rect_of_bytes bs 8) no_rect

unfoldable pub update_from : List ℕ → Request
update_from bs = request_in (pos 3) (word_from bs 4) (rect_of_bytes bs 8) (rect_of_bytes bs 24)

unfoldable pub search_from : ℤ → List ℕ → Request
search_from k bs = request_in k (pos 0) (rect_of_bytes bs 4) no_rect

unfoldable pub request_from : ℕ → List ℕ → Request
request_from k bs = cond (eqb k 3) (update_from bs) (cond (search_kind k) (search_from (pos k) bs) (change_from (pos k) bs))
