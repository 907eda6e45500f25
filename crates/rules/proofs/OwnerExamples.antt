-- Req 07 on examples of our own, since the request gives none: two owners in one pool of edition 2, what is sound there, what is refused, and its
-- file.
use Rattle.std.specs.Prelude.{◌≡◌, refl, true, false, List, [], ◌∷◌, ◌++◌, map, ℕ, length, replicate, set, ℤ, pos, negsuc}
use Rattle.rules.specs.declared.Edition.{Edition}
use Rattle.rules.specs.declared.Edition.TheVariants.{One, Two}
use Rattle.rules.specs.declared.Rect.{Rect}
use Rattle.rules.specs.declared.Owner.{Owner}
use Rattle.rules.specs.declared.Record.{Record}
use Rattle.rules.specs.declared.FoundRecord.{FoundRecord}
use Rattle.rules.specs.declared.Pointer.TheVariants.{Child}
use Rattle.rules.specs.declared.Request.{Request}
use Rattle.rules.specs.declared.Answer.{Answer}
use Rattle.rules.specs.Lists.{joined}
use Rattle.rules.specs.Owners.{owner, of_owner}
use Rattle.rules.specs.Pool.{Node, slot, entry, node, leaf_entry, no_record}
use Rattle.rules.specs.Layout.{words, read, blank_as, blank_words_of, blank_words}
use Rattle.rules.specs.Sound.{sound}
use Rattle.rules.specs.Answers.{answer}
use Rattle.rules.specs.Call.{Left, call}
use Rattle.rules.specs.File.{head_frame, record_frame, end_frame, write_file, read_file}
use Rattle.rules.specs.Computed.{document01, document02}
use Rattle.rules.specs.Histories.{box, insert, delete, update, search, history_of, shown, zero_to}

-- ---- blanked

-- a pool of one slot in so many words, with this word 0
abbrev one_slot : ℕ → ℕ → List ℤ
one_slot n word0 = zero_to n (word0 ∷ 1 ∷ 1 ∷ 0 ∷ 0 ∷ 0 ∷ 0 ∷ 0 ∷ 1 ∷ [])

-- "Blanking and reading are told the edition, by an enum that has no other, and go by it": words that say edition 1 made a pool of edition 2
pub blanking_told : blank_as (pos 2) (pos 0) (one_slot 58 1) ≡ record { number = pos 0; pool = one_slot 58 2 }
unfolding document01
blanking_told = refl

-- .. a length of edition 2 is wrong for edition 1; 0 and 3 tell no edition
pub blanking_refused : map (λ (e : ℕ). (blank_as (pos e) (pos 0) (one_slot 58 2)).number) (0 ∷ 1 ∷ 3 ∷ []) ≡ negsuc 0 ∷ pos 1 ∷ negsuc 0 ∷ []
unfolding document01
blanking_refused = refl

-- ---- two owners in one pool

abbrev us : Owner
us = owner (pos 1)

abbrev neighbour : Owner
neighbour = owner (pos 2)

abbrev cart : Rect
cart = box 0 0 10 10

-- what a served batch leaves
abbrev left : List ℤ → List Answer → List FoundRecord → Left
left w answers found = record { number = pos 0; pool = w; workspace = w; answers = answers; found = found }

abbrev done : Answer
done = answer 0 0 0 0

-- three slots with our cart alone in them, and with the neighbour's cart of the same number at the same place
abbrev alone : List ℤ
alone = zero_to 158 (2 ∷ 1 ∷ 1 ∷ 1 ∷ 0 ∷ 0 ∷ 0 ∷ 0 ∷ 1 ∷ 1 ∷ 0 ∷ 0 ∷ 10 ∷ 10 ∷ 7 ∷ 1 ∷ [])

abbrev shared : List ℤ
shared = zero_to 158 (2 ∷ 1 ∷ 1 ∷ 2 ∷ 0 ∷ 0 ∷ 0 ∷ 0 ∷ 1 ∷ 2 ∷ 0 ∷ 0 ∷ 10 ∷ 10 ∷ 7 ∷ 1 ∷ 0 ∷ 0 ∷ 10 ∷ 10 ∷ 7 ∷ 2 ∷ [])

-- "Each leaf entry gains an owner, 1 or 2, as a sixth word ..: slots of 50 words, pool edition 2, length 8 + 50N"
pub sixth_word : history_of us (blank_words_of Two 3) 0 (insert 7 cart ∷ []) ≡ left alone (done ∷ []) []
unfolding document01
sixth_word = refl

-- "a pair counts as held per owner"
pub held_per_owner : history_of neighbour alone 0 (insert 7 cart ∷ insert 7 cart ∷ []) ≡ left shared (done ∷ answer 6 0 0 0 ∷ []) []
unfolding document01
held_per_owner = refl

-- "it sees .. that owner's records only"; "Opened is reported as 0."
pub sees_its_own : history_of us shared 2 (search cart ∷ []) ≡ left shared (answer 0 1 0 0 ∷ []) (shown 7 cart ∷ no_record ∷ [])
unfolding document01
sees_its_own = refl

-- .. also beside 8
pub opened_beside_8 : history_of us shared 0 (search cart ∷ []) ≡ left shared (answer 8 1 0 0 ∷ []) []
unfolding document01
opened_beside_8 = refl

-- it "changes that owner's records only": the first exact pair is ours
pub changes_its_own : history_of neighbour shared 0 (delete 7 cart ∷ delete 7 cart ∷ []) ≡ left alone (done ∷ answer 5 0 0 0 ∷ []) []
unfolding document01
changes_its_own = refl

-- ---- as if the other were not there

-- our five sensors in a row; the neighbour's four between them, of the same numbers, which split the leaf; and one of these gone again, so that its
-- leaf is given up, and the two of ours that are left in it are set aside and put back
abbrev point : ℕ → Rect
point x = box x 0 x 0

abbrev row : List Request
row = insert 1 (point 0) ∷ insert 2 (point 10) ∷ insert 3 (point 20) ∷ insert 4 (point 30) ∷ insert 5 (point 40) ∷ []

abbrev between : List Request
between = insert 1 (point 5) ∷ insert 2 (point 15) ∷ insert 3 (point 25) ∷ insert 4 (point 35) ∷ []

-- what comes after them: a pair that is held, one that only the neighbour had, an update, and a search of all
abbrev rest : List Request
rest = insert 2 (point 10) ∷ delete 1 (point 5) ∷ update 4 (point 30) (point 35) ∷ search (box 0 0 99 99) ∷ []

abbrev our_row : List ℤ
our_row = (history_of us (blank_words_of Two 3) 0 row).pool

abbrev both_rows : List ℤ
both_rows = (history_of neighbour our_row 0 between).pool

abbrev one_gone : List ℤ
one_gone = (history_of neighbour both_rows 0 (delete 4 (point 35) ∷ [])).pool

-- what an owner gets to see of a call
pub record Told : Type 0 where
  pub answers : List Answer
  pub found : List FoundRecord

abbrev told : List ℤ → Told
told w = record { answers = (history_of us w 5 rest).answers; found = (history_of us w 5 rest).found }

abbrev known : Told
known =
    record {
      answers = answer 6 0 0 0 ∷ answer 5 0 0 0 ∷ done ∷ answer 0 5 0 0 ∷ [];
      found = shown 1 (point 0) ∷ shown 2 (point 10) ∷ shown 3 (point 20) ∷ shown 4 (point 35) ∷ shown 5 (point 40) ∷ [];
    }

-- "owner 1's answers and found lists are the same."
pub same_for_us : map told (our_row ∷ both_rows ∷ one_gone ∷ []) ≡ known ∷ known ∷ known ∷ []
unfolding document01
same_for_us = refl

-- their trees: a leaf, two leaves with a root over them, and a leaf again
abbrev levels : List ℤ → List ℕ
levels w = map (λ (n : Node). n.level) (read w).slots

pub grown_and_shrunk : map levels (our_row ∷ both_rows ∷ one_gone ∷ []) ≡ (1 ∷ 0 ∷ 0 ∷ []) ∷ (1 ∷ 1 ∷ 2 ∷ []) ∷ (1 ∷ 0 ∷ 0 ∷ []) ∷ []
unfolding document01
grown_and_shrunk = refl

-- ---- sound

-- "1 or 2 .. anything else and the pool isn't sound": our cart's owner as another number
pub owners_say : map (λ (o : ℕ). sound (set alone 15 (pos o))) (0 ∷ 1 ∷ 2 ∷ 3 ∷ []) ≡ false ∷ true ∷ true ∷ false ∷ []
unfolding document01
owners_say = refl

-- "zero in inner entries": a root over two leaves, with an owner in its first entry
abbrev three : Owner → Node
three o = node 1 (replicate 3 (leaf_entry (of_owner o (shown 7 cart))))

abbrev over_leaves : List ℤ
over_leaves =
    words (record {
      edition = Two;
      root = slot 1;
      height = 2;
      records = 6;
      slots = node 2 (entry cart (Child (slot 2)) ∷ entry cart (Child (slot 3)) ∷ []) ∷ three us ∷ three neighbour ∷ [];
    })

pub inner_owners_say : map (λ (o : ℕ). sound (set over_leaves 15 (pos o))) (0 ∷ 1 ∷ 2 ∷ []) ≡ true ∷ false ∷ false ∷ []
unfolding document01
inner_owners_say = refl

-- "unused entries and free slots are all zero": an owner in the entry after the last, and one in a free slot
pub unused_owners_say : map (λ (i : ℕ). sound (set alone i (pos 1))) (21 ∷ 65 ∷ []) ≡ false ∷ false ∷ []
unfolding document01
unused_owners_say = refl

-- ---- served and refused

-- the number that a call of an owner returns, with one search, and so many places for answers
abbrev calls : ℕ → List ℤ → ℕ → ℤ
calls o w n = (call (record { owner = owner (pos o); pool = w; workspace = w; requests = search cart ∷ []; answers = replicate n done; found = [] })).number

-- a number that the rules give, and the one that is due
pub record Returned : Type 0 where
  pub given : ℤ
  pub due : ℤ

abbrev gives : ℤ → ℕ → Returned
gives z n = record { given = z; due = pos n }

abbrev pub call_numbers : List Returned
call_numbers =
    gives (calls 1 alone 1) 0
    ∷ gives (calls 2 alone 1) 0
    -- "13 for another owner": for an edition 1 pool too
    ∷ gives (calls 0 alone 1) 13
    ∷ gives (calls 3 alone 1) 13
    ∷ gives (calls 3 (blank_words 1) 1) 13
    -- "after 9", and before 1 and 2
    ∷ gives (calls 0 alone 2) 9
    ∷ gives (calls 0 [] 1) 13
    ∷ gives (calls 0 (set alone 15 (pos 0)) 1) 13
    -- "length 8 + 50N; a pool whose word 0 isn't 2 is measured as edition 1": one with 3 there too, which is then not sound
    ∷ gives (calls 1 (one_slot 58 2) 1) 0
    ∷ gives (calls 1 (one_slot 58 1) 1) 1
    ∷ gives (calls 1 (one_slot 58 3) 1) 1
    ∷ gives (calls 1 (one_slot 50 2) 1) 1
    ∷ gives (calls 1 (one_slot 50 1) 1) 0
    ∷ gives (calls 1 (one_slot 50 3) 1) 2
    ∷ []

pub call_numbers_say : map (λ (n : Returned). n.given) call_numbers ≡ map (λ (n : Returned). n.due) call_numbers
unfolding document01
call_numbers_say = refl

-- "Edition 1 pools are served on, for owners 1 and 2 alike": a pair that the other has put in is held, shown, and taken out
pub edition_one : history_of neighbour (history_of us (blank_words 1) 0 (insert 7 cart ∷ [])).pool 1 (insert 7 cart ∷ search cart ∷ delete 7 cart ∷ [])
    ≡ left (blank_words 1) (answer 6 0 0 0 ∷ answer 0 1 0 1 ∷ done ∷ []) (shown 7 cart ∷ [])
unfolding document01
edition_one = refl

-- ---- the file

-- our sensor 7 and the neighbour's 6, and their file: edition 2, two records, "kind 19 (owner, then as 17)"
abbrev sensor : Owner → ℕ → Record
sensor o n = of_owner o (shown n (point n))

abbrev two_file : List ℕ
two_file =
    10 ∷ 0 ∷ 16 ∷ 0 ∷ 2 ∷ 0 ∷ 0 ∷ 0 ∷ 2 ∷ 0 ∷ 0 ∷ 0
    ∷ 26 ∷ 0 ∷ 19 ∷ 0 ∷ 1 ∷ 0 ∷ 0 ∷ 0 ∷ 7 ∷ 0 ∷ 0 ∷ 0 ∷ 7 ∷ 0 ∷ 0 ∷ 0 ∷ 0 ∷ 0 ∷ 0 ∷ 0 ∷ 7 ∷ 0 ∷ 0 ∷ 0 ∷ 0 ∷ 0 ∷ 0 ∷ 0
    ∷ 26 ∷ 0 ∷ 19 ∷ 0 ∷ 2 ∷ 0 ∷ 0 ∷ 0 ∷ 6 ∷ 0 ∷ 0 ∷ 0 ∷ 6 ∷ 0 ∷ 0 ∷ 0 ∷ 0 ∷ 0 ∷ 0 ∷ 0 ∷ 6 ∷ 0 ∷ 0 ∷ 0 ∷ 0 ∷ 0 ∷ 0 ∷ 0
    ∷ 2 ∷ 0 ∷ 18 ∷ 0
    ∷ []

abbrev leaf_of : List Record → List ℤ
leaf_of rs = words (record { edition = Two; root = slot 1; height = 1; records = length rs; slots = node 1 (map leaf_entry rs) ∷ [] })

-- "ordered by owner first": in the pool, and by their numbers, the neighbour's sensor comes first
pub owner_first : write_file (leaf_of (sensor neighbour 6 ∷ sensor us 7 ∷ [])) (replicate 72 9) ≡ record { number = pos 0; file = two_file; size = 72 }
unfolding document01 document02
owner_first = refl

-- .. and read back, into words that say edition 1
pub read_back : (read_file Two (one_slot 58 1) (one_slot 58 1) two_file).pool ≡ leaf_of (sensor us 7 ∷ sensor neighbour 6 ∷ [])
unfolding document01 document02
read_back = refl

-- the number that a read as edition 2 returns, of a file whose head and records are of these editions
abbrev reads : Edition → Edition → List Record → ℤ
reads head each rs = (read_file Two (one_slot 58 2) (one_slot 58 2) (head_frame head (length rs) ++ joined (map (record_frame each) rs) ++ end_frame)).number

abbrev pub read_numbers : List Returned
read_numbers =
    gives (reads Two Two (sensor us 7 ∷ sensor neighbour 6 ∷ [])) 0
    -- a file of edition 1, and kind 17 in one of edition 2
    ∷ gives (reads One Two []) 10
    ∷ gives (reads Two One (sensor us 7 ∷ [])) 10
    -- "13 for another owner, .. in a file after 4", and before 11
    ∷ gives (reads Two Two (sensor (owner (pos 0)) 7 ∷ [])) 13
    ∷ gives (reads Two Two (sensor (owner (pos 3)) 7 ∷ [])) 13
    ∷ gives (reads Two Two (sensor (owner (pos 3)) 0 ∷ [])) 4
    ∷ gives (reads Two Two (sensor us 7 ∷ sensor (owner (pos 0)) 6 ∷ [])) 13
    -- "ordered by owner first": the neighbour's before ours, though its number is lower
    ∷ gives (reads Two Two (sensor neighbour 6 ∷ sensor us 7 ∷ [])) 11
    ∷ []

pub read_numbers_say : map (λ (n : Returned). n.given) read_numbers ≡ map (λ (n : Returned). n.due) read_numbers
unfolding document01 document02
read_numbers_say = refl
