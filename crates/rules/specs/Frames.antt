-- "dustmap": the program's input, as bytes, and what it prints, as bytes.
use Rattle.std.specs.Prelude.{Bool, true, false, ◌&&◌, List, [], ◌∷◌, ◌++◌, map, ℕ, zero, suc, ◌+◌, ◌*◌, ◌-◌, ◌/◌, ◌%◌, length, get_or, take, drop, replicate, leb, ltb, eqb, ℤ, pos, negsuc, Option, None, Some}
use Rattle.std.proofs.Math.IntN.{sub_ℕ}
use Rattle.rules.specs.declared.Rect.{Rect}
use Rattle.rules.specs.declared.FoundRecord.{FoundRecord}
use Rattle.rules.specs.declared.Request.{Request}
use Rattle.rules.specs.declared.Answer.{Answer}
use Rattle.rules.specs.Lists.{joined}
use Rattle.rules.specs.Owners.{owner}
use Rattle.rules.specs.Pool.{number, rectangle, no_record}
use Rattle.rules.specs.Geometry.{no_rect}
use Rattle.rules.specs.Layout.{word_at, blank_words}
use Rattle.rules.specs.Answers.{row, first_row, answer}
use Rattle.rules.specs.Call.{Left, call}

-- ---- numbers in bytes: "all little-endian"

unfoldable pub byte_at : List ℕ → ℕ → ℕ
byte_at bs i = get_or bs i 0

-- two bytes, and "signed 32-bit words"
unfoldable pub pair_value : List ℕ → ℕ
pair_value bs = byte_at bs 0 + 256 * byte_at bs 1

unfoldable pub signed : ℕ → ℤ
signed n = elim (ltb n 2147483648) [ true ↦ pos n | false ↦ sub_ℕ n 4294967296 ]

unfoldable pub word_value : List ℕ → ℤ
word_value bs = signed (byte_at bs 0 + 256 * byte_at bs 1 + 65536 * byte_at bs 2 + 16777216 * byte_at bs 3)

-- the n words that begin the bytes
unfoldable pub word_values : ℕ → List ℕ → List ℤ
word_values zero bs = []
word_values (suc n) bs = word_value (take 4 bs) ∷ word_values n (drop 4 bs)

-- ---- frames

-- a frame: its kind, and the bytes that follow the kind
pub record Frame : Type 0 where
  pub kind : ℕ
  pub body : List ℕ

-- what the bytes begin with: nothing, a whole frame with the bytes after it, or a frame that is cut
pub data Next : Type 0 where
  Ended : Next
  Complete : Frame → List ℕ → Next
  Cut : Next

-- "two bytes length of what follows, two bytes kind". A length that has no room for a kind makes no frame
unfoldable pub frame_of : ℕ → List ℕ → Next
frame_of n bs =
    elim (leb 2 n && leb n (length bs)) [
      | true ↦ Complete (record { kind = pair_value (take 2 bs); body = take (n - 2) (drop 2 bs) }) (drop n bs)
      | false ↦ Cut
    ]

unfoldable pub next_frame : List ℕ → Next
next_frame [] = Ended
next_frame (b ∷ []) = Cut
next_frame (b ∷ c ∷ bs) = frame_of (pair_value (b ∷ c ∷ [])) bs

-- the rectangle in four words from word i on
unfoldable pub rect_in : List ℤ → ℕ → Rect
rect_in ws i = rectangle (word_at ws i) (word_at ws (i + 1)) (word_at ws (i + 2)) (word_at ws (i + 3))

unfoldable pub request_in : ℤ → ℤ → Rect → Rect → Request
request_in k n a b = record { kind = k; number = number n; first = a; second = b }

-- the kind, and with it as many words as it has
unfoldable pub of_kind : Frame → ℕ → ℕ → Bool
of_kind f k n = eqb f.kind k && eqb (length f.body) (4 * n)

-- a search of the kind k: it has no number
unfoldable pub window_in : ℤ → List ℕ → Request
window_in k body = request_in k (pos 0) (rect_in (word_values 4 body) 0) no_rect

-- "Kind 1 insert and 2 delete: number, rectangle (length 22). 3 update: number, old, new (38). 4 search: window (18)." Req 01: "kinds 5 and 6,
-- of the same layout". Lengths count the kind's two bytes too. Any other kind or length is a bad frame
unfoldable pub frame_request : Frame → Option Request
frame_request f =
    first_row (
    row (of_kind f 1 5) (request_in (pos 1) (word_at (word_values 5 f.body) 0) (rect_in (word_values 5 f.body) 1) no_rect)
    ∷ row (of_kind f 2 5) (request_in (pos 2) (word_at (word_values 5 f.body) 0) (rect_in (word_values 5 f.body) 1) no_rect)
    ∷ row (of_kind f 3 9)
    (request_in (pos 3) (word_at (word_values 9 f.body) 0) (rect_in (word_values 9 f.body) 1) (rect_in (word_values 9 f.body) 5))
    ∷ row (of_kind f 4 4) (window_in (pos 4) f.body)
    ∷ row (of_kind f 5 4) (window_in (pos 5) f.body)
    ∷ row (of_kind f 6 4) (window_in (pos 6) f.body)
    ∷ [])

-- ---- lines

-- the decimal digits of a number below 10 ^ k, in front of `after`
unfoldable pub digits : ℕ → ℕ → List ℕ → List ℕ
digits zero n after = after
digits (suc k) n after = elim (ltb n 10) [ true ↦ (48 + n) ∷ after | false ↦ digits k (n / 10) ((48 + n % 10) ∷ after) ]

unfoldable pub nat_shown : ℕ → List ℕ
nat_shown n = digits 20 n []

unfoldable pub int_shown : ℤ → List ℕ
int_shown (pos n) = nat_shown n
int_shown (negsuc n) = 45 ∷ nat_shown (suc n)

-- "Fields are parted by one space"; a line ends with a line feed
unfoldable pub line : List (List ℕ) → List ℕ
line [] = 10 ∷ []
line (f ∷ []) = f ++ 10 ∷ []
line (f ∷ g ∷ fs) = f ++ 32 ∷ line (g ∷ fs)

-- "a line of request place from 1, answer number, found, opened"
unfoldable pub answer_line : ℕ → Answer → List ℕ
answer_line place a = line (nat_shown place ∷ nat_shown a.number ∷ nat_shown a.found ∷ nat_shown a.opened ∷ [])

-- "after an accepted search a line per record: number, low x, low y, high x, high y"
unfoldable pub record_line : FoundRecord → List ℕ
record_line r =
    line (int_shown r.number.0 ∷ int_shown r.rect.lowX ∷ int_shown r.rect.lowY ∷ int_shown r.rect.highX ∷ int_shown r.rect.highY ∷ [])

unfoldable pub listed_of : Answer → ℕ
listed_of a = elim (eqb a.number 0) [ true ↦ a.found | false ↦ 0 ]

unfoldable pub reply_lines : ℕ → Answer → List FoundRecord → List ℕ
reply_lines place a found = answer_line place a ++ joined (map record_line (take (listed_of a) found))

-- "prints `bad frame`, a space and its place"
unfoldable pub bad_line : ℕ → List ℕ
bad_line place = 98 ∷ 97 ∷ 100 ∷ 32 ∷ 102 ∷ 114 ∷ 97 ∷ 109 ∷ 101 ∷ 32 ∷ nat_shown place ++ 10 ∷ []

-- ---- the run

-- "Each frame is a batch of one with a found list of 64." It is owner 1's
unfoldable pub frame_call : List ℤ → Request → Left
frame_call pool q =
    call (record {
      owner = owner (pos 1);
      pool = pool;
      workspace = pool;
      requests = q ∷ [];
      answers = answer 0 0 0 0 ∷ [];
      found = replicate 64 no_record;
    })

-- the lines of a call, and then what is printed after it with the pool that it left
unfoldable pub call_printed : ℕ → Left → (List ℤ → List ℕ) → List ℕ
call_printed place l rest = reply_lines place (get_or l.answers 0 (answer 0 0 0 0)) l.found ++ rest l.pool

-- what is printed for the bytes, for at most n frames, the first of them at `place`. "A cut frame, unknown kind or wrong length prints
-- `bad frame`, a space and its place, and ends the run."
unfoldable pub printed : ℕ → ℕ → List ℤ → List ℕ → List ℕ
printed zero place pool bs = []
printed (suc n) place pool bs =
    elim (next_frame bs) [
      | Ended ↦ []
      | Cut ↦ bad_line place
      | Complete f after ↦ elim (frame_request f) [
        | None ↦ bad_line place
        | Some q ↦ call_printed place (frame_call pool q) (λ left. printed n (suc place) left after)
      ]
    ]

-- "It reads frames from standard input into a 128-slot pool (5,384 words)"; "empty input prints nothing". There are no more frames than
-- bytes
unfoldable pub dustmap : List ℕ → List ℕ
dustmap bs = printed (length bs) 1 (blank_words 128) bs
