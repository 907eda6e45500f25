-- How a closed history is written down, so that anyone can state what it should leave, write `unfolding document01` and prove it by `refl`.
use Rattle.std.specs.Prelude.{List, ◌++◌, map, ℕ, length, take, replicate, ℤ, pos, neg_ℤ}
use Rattle.rules.specs.declared.Rect.{Rect}
use Rattle.rules.specs.declared.Record.{Record}
use Rattle.rules.specs.declared.FoundRecord.{FoundRecord}
use Rattle.rules.specs.declared.Request.{Request}
use Rattle.rules.specs.declared.Owner.{Owner}
use Rattle.rules.specs.Owners.{owner, nobody, of_owner}
use Rattle.rules.specs.Pool.{number, rectangle, no_record}
use Rattle.rules.specs.Geometry.{no_rect}
use Rattle.rules.specs.Answers.{answer}
use Rattle.rules.specs.Call.{Left, call}

-- ---- requests

-- a negative number; a rectangle with no negative coordinate
abbrev pub minus : ℕ → ℤ
minus n = neg_ℤ (pos n)

abbrev pub box : ℕ → ℕ → ℕ → ℕ → Rect
box a b c d = rectangle (pos a) (pos b) (pos c) (pos d)

abbrev pub asking : ℕ → ℤ → Rect → Rect → Request
asking k n r s = record { kind = pos k; number = number n; first = r; second = s }

abbrev pub insert : ℕ → Rect → Request
insert n r = asking 1 (pos n) r no_rect

abbrev pub delete : ℕ → Rect → Request
delete n r = asking 2 (pos n) r no_rect

abbrev pub update : ℕ → Rect → Rect → Request
update n old new = asking 3 (pos n) old new

abbrev pub search : Rect → Request
search window = asking 4 (pos 0) window no_rect

abbrev pub search_inside : Rect → Request
search_inside window = asking 5 (pos 0) window no_rect

abbrev pub search_enclosing : Rect → Request
search_enclosing window = asking 6 (pos 0) window no_rect

-- ---- histories

-- the requests of an owner in one call, with `places` places in the found list; and owner 1's
abbrev pub history_of : Owner → List ℤ → ℕ → List Request → Left
history_of o w places qs =
    call (record { owner = o; pool = w; workspace = w; requests = qs; answers = replicate (length qs) (answer 0 0 0 0); found = replicate places no_record })

abbrev pub history : List ℤ → ℕ → List Request → Left
history w places qs = history_of (owner (pos 1)) w places qs

-- ---- what a history leaves

abbrev pub shown : ℕ → Rect → FoundRecord
shown n r = record { number = number (pos n); rect = r }

-- a record of an edition 1 pool
abbrev pub zone : ℕ → Rect → Record
zone n r = of_owner nobody (shown n r)

-- n words: those given, and then zeros
abbrev pub zero_to : ℕ → List ℕ → List ℤ
zero_to n ws = take n (map pos ws ++ replicate n (pos 0))
