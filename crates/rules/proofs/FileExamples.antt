-- Req 02 on examples of our own, since the request gives none: a file written and read back, and files at fault, in one table under one
-- statement.
use Rattle.std.specs.Prelude.{◌≡◌, refl, List, [], ◌∷◌, ◌++◌, map, ℕ, ◌+◌, ◌-◌, length, take, replicate, ℤ, pos}
use Rattle.rules.specs.declared.Record.{Record}
use Rattle.rules.specs.declared.Edition.TheVariants.{One}
use Rattle.rules.specs.declared.FileFault.TheVariants.{BadRectangle, BadNumber, NoSlot, BadFrame, NotAfter}
use Rattle.rules.specs.Lists.{joined}
use Rattle.rules.specs.Owners.{nobody}
use Rattle.rules.specs.Pool.{Pool, slot, number, rectangle, node, leaf_entry}
use Rattle.rules.specs.Layout.{blank_words, words}
use Rattle.rules.specs.File.{file_number, frame_bytes, head_frame, record_frame, end_frame, file_bytes, write_file, file_records, read_file}
use Rattle.rules.specs.Computed.{document01, document02}
use Rattle.rules.specs.Histories.{box, minus, zone}

-- ---- the bytes

-- a sensor, and a road west and south of the office
abbrev sensor : Record
sensor = zone 7 (box 1 2 300 70000)

abbrev road : Record
road = record { owner = nobody; number = number (pos 300); rect = rectangle (minus 2) (minus 1000000000) (pos 0) (minus 1) }

-- "kind 16 first (edition 1, record count), then kind 17 per record (number, rectangle) in found order, kind 18 last with no words"
abbrev two_records : List ℕ
two_records =
    10 ∷ 0 ∷ 16 ∷ 0 ∷ 1 ∷ 0 ∷ 0 ∷ 0 ∷ 2 ∷ 0 ∷ 0 ∷ 0
    ∷ 22 ∷ 0 ∷ 17 ∷ 0 ∷ 7 ∷ 0 ∷ 0 ∷ 0 ∷ 1 ∷ 0 ∷ 0 ∷ 0 ∷ 2 ∷ 0 ∷ 0 ∷ 0 ∷ 44 ∷ 1 ∷ 0 ∷ 0 ∷ 112 ∷ 17 ∷ 1 ∷ 0
    ∷ 22 ∷ 0 ∷ 17 ∷ 0 ∷ 44 ∷ 1 ∷ 0 ∷ 0 ∷ 254 ∷ 255 ∷ 255 ∷ 255 ∷ 0 ∷ 54 ∷ 101 ∷ 196 ∷ 0 ∷ 0 ∷ 0 ∷ 0 ∷ 255 ∷ 255 ∷ 255 ∷ 255
    ∷ 2 ∷ 0 ∷ 18 ∷ 0
    ∷ []

pub two_records_lem : file_bytes One (sensor ∷ road ∷ []) ≡ two_records
unfolding document01 document02
two_records_lem = refl

pub two_read : file_records One two_records ≡ sensor ∷ road ∷ []
unfolding document01 document02
two_read = refl

-- a pool of three slots that has taken them
abbrev taken : List ℤ
taken = (read_file One (blank_words 3) (blank_words 3) two_records).pool

-- "Where a read of a written file is accepted, writing again gives the same bytes.": at the front of a buffer that is five bytes longer
pub written_again : write_file taken (replicate (length two_records + 5) 9)
    ≡ record { number = pos 0; file = two_records ++ replicate 5 9; size = length two_records }
unfolding document01 document02
written_again = refl

-- "8 if its buffer is short": by one byte
pub short_by_one : write_file taken (replicate (length two_records - 1) 9)
    ≡ record { number = pos 8; file = replicate (length two_records - 1) 9; size = 0 }
unfolding document01 document02
short_by_one = refl

-- "The writer drops a pair held twice and counts distinct pairs.": a leaf with the road twice, and the sensor between them
abbrev twice : Pool
twice = record { edition = One; root = slot 1; height = 1; records = 3; slots = node 1 (map leaf_entry (road ∷ sensor ∷ road ∷ [])) ∷ [] }

pub once_each : write_file (words twice) (replicate 64 9) ≡ record { number = pos 0; file = two_records; size = 64 }
unfolding document01 document02
once_each = refl

-- ---- files at fault

-- a file, by how many records its head says that it has
abbrev file : ℕ → List Record → List ℕ
file count rs = head_frame One count ++ joined (map (record_frame One) rs) ++ end_frame

-- nine records: no room in one slot
abbrev points : List ℕ → List Record
points ns = map (λ n. zone n (box n n n n)) ns

-- a file, and what a read of it says
pub record FileRead : Type 0 where
  pub bytes : List ℕ
  pub says : ℤ

abbrev says : List ℕ → ℤ → FileRead
says bytes z = record { bytes = bytes; says = z }

abbrev pub file_reads : List FileRead
file_reads =
    says (file 0 []) (pos 0)
    ∷ says (file 2 (sensor ∷ road ∷ [])) (pos 0)
    -- nothing, a head alone, the last frame cut, and bytes after it
    ∷ says [] (file_number BadFrame)
    ∷ says (head_frame One 0) (file_number BadFrame)
    ∷ says (take 15 (file 0 [])) (file_number BadFrame)
    ∷ says (file 0 [] ++ 0 ∷ []) (file_number BadFrame)
    -- edition 2; a count below zero; a record too few and too many
    ∷ says (frame_bytes 16 (pos 2 ∷ pos 0 ∷ []) ++ end_frame) (file_number BadFrame)
    ∷ says (frame_bytes 16 (pos 1 ∷ minus 1 ∷ []) ++ end_frame) (file_number BadFrame)
    ∷ says (file 2 (sensor ∷ [])) (file_number BadFrame)
    ∷ says (file 0 (sensor ∷ [])) (file_number BadFrame)
    -- a low above its high; number 0; 3 before 4, and 4 before 11
    ∷ says (file 1 (zone 1 (box 5 0 4 0) ∷ [])) (file_number BadRectangle)
    ∷ says (file 1 (zone 0 (box 4 0 5 0) ∷ [])) (file_number BadNumber)
    ∷ says (file 1 (zone 0 (box 5 0 4 0) ∷ [])) (file_number BadRectangle)
    ∷ says (file 2 (sensor ∷ zone 0 (box 4 0 5 0) ∷ [])) (file_number BadNumber)
    -- "a record not after its predecessor": before it, and equal to it
    ∷ says (file 2 (road ∷ sensor ∷ [])) (file_number NotAfter)
    ∷ says (file 2 (road ∷ road ∷ [])) (file_number NotAfter)
    -- the ninth record has no slot; "the first frame at fault decides", also where a later frame is cut
    ∷ says (file 9 (points (1 ∷ 2 ∷ 3 ∷ 4 ∷ 5 ∷ 6 ∷ 7 ∷ 8 ∷ 9 ∷ []))) (file_number NoSlot)
    ∷ says (take 230 (file 99 (points (1 ∷ 2 ∷ 3 ∷ 4 ∷ 5 ∷ 6 ∷ 7 ∷ 8 ∷ 9 ∷ [])))) (file_number NoSlot)
    ∷ says (take 220 (file 99 (points (1 ∷ 2 ∷ 3 ∷ 4 ∷ 5 ∷ 6 ∷ 7 ∷ 8 ∷ 9 ∷ [])))) (file_number BadFrame)
    ∷ []

-- .. each read into a pool of one slot
pub reads_say : map (λ (r : FileRead). (read_file One (blank_words 1) (blank_words 1) r.bytes).number) file_reads ≡ map (λ (r : FileRead). r.says) file_reads
unfolding document01 document02
reads_say = refl

-- "A read refused past 1 leaves the pool, and its workspace equal to it.": words that are no pool at all stay too
pub refused_leaves : read_file One (replicate 50 (pos 7)) (replicate 50 (pos 9)) (file 1 [])
    ≡ record { number = pos 10; pool = replicate 50 (pos 7); workspace = replicate 50 (pos 7) }
unfolding document01 document02
refused_leaves = refl
