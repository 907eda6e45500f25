-- What the bytes that have arrived show of the frame that they begin. More may come after them: a frame is bad as soon as the fields
-- that are here rule every request out, and until then its end is waited for.
use Rattle.std.specs.Prelude.{◌≡◌, Result, Ok, Err, MatchResult, Bool, cond, not, ◌&&◌, ◌||◌, List, ℕ, ◌-◌, length, take, drop, leb, eqb, Option, None, Some}
use Rattle.rules.specs.declared.Request.{Request}
use Rattle.rules.specs.Frames.{Ended, Complete, Cut, pair_value, next_frame, frame_request}
use Rattle.frames.specs.declared.BadFrame.{BadFrame}
use Rattle.frames.specs.declared.FrameKind.{FrameKind}
use Rattle.frames.specs.declared.FrameKind.TheVariants as K
use Rattle.frames.specs.declared.WholeFrame.{WholeFrame}

-- what bytes begin with, when no more are to come: nothing, a request with the bytes after its frame, or a bad frame
pub data Beginning : Type 0 where
  Nothing : Beginning
  Asking : Request → List ℕ → Beginning
  Wrong : Beginning

unfoldable pub beginning : List ℕ → Beginning
beginning bs =
    elim (next_frame bs) [
      | Ended ↦ Nothing
      | Cut ↦ Wrong
      | Complete f after ↦ elim (frame_request f) [ None ↦ Wrong | Some q ↦ Asking q after ]
    ]

-- the kinds of search, 4 to 6. Req 01: "kind 4 keeps meeting; kinds 5 and 6, of the same layout, are inside and enclosing"
unfoldable pub search_kind : ℕ → Bool
search_kind k = leb 4 k && leb k 6

-- "Kind 1 insert and 2 delete: number, rectangle (length 22). 3 update: number, old, new (38). 4 search: window (18)." Req 01: "kinds 5 and 6,
-- of the same layout". 0 for a kind that is unknown
unfoldable pub kind_length : ℕ → ℕ
kind_length k = cond (eqb k 1 || eqb k 2) 22 (cond (eqb k 3) 38 (cond (search_kind k) 18 0))

-- a length that a kind has
unfoldable pub some_length : ℕ → Bool
some_length n = eqb n 18 || eqb n 22 || eqb n 38

abbrev pub length_field : List ℕ → ℕ
length_field bs = pair_value (take 2 bs)

abbrev pub kind_field : List ℕ → ℕ
kind_field bs = pair_value (take 2 (drop 2 bs))

-- the length is here and no kind has it, or the kind is here too and has another
unfoldable pub hopeless : List ℕ → Bool
hopeless bs =
    (leb 2 (length bs) && not (some_length (length_field bs)))
    || (leb 4 (length bs) && not (eqb (kind_length (kind_field bs)) (length_field bs)))

-- the kinds by their numbers
abbrev pub kind_number : FrameKind → ℕ
kind_number K.Insert = 1
kind_number K.Delete = 2
kind_number K.Update = 3
kind_number K.Search = 4
kind_number K.SearchInside = 5
kind_number K.SearchEnclosing = 6

-- a number tells the kind that has it, or it is one that no kind has
abbrev pub TellsKind : ℕ → Result FrameKind BadFrame → Type 0
TellsKind n r = MatchResult r (λ k. kind_number k ≡ n) (λ e. kind_length n ≡ 0)

-- what is read of a frame: it is whole, and asks, with its size in bytes; its end is waited for; or it is bad
abbrev pub Framed : Type 0
Framed = Result (Option WholeFrame) BadFrame

abbrev pub Asks : Request → ℕ → Framed
Asks q n = Ok (Some (record { request = q; size = n }))

abbrev pub Waits : Framed
Waits = Ok None

abbrev pub Bad : Framed
Bad = Err (record {})

-- a whole frame is asked at once, with its size in bytes
unfoldable pub framed : List ℕ → Framed
framed bs =
    elim (beginning bs) [
      | Nothing ↦ Waits
      | Asking q after ↦ Asks q (length bs - length after)
      | Wrong ↦ cond (hopeless bs) Bad Waits
    ]
