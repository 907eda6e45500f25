-- "Site examples": those marked P, 1 to 10, and 11 to 13 with them, in one table under one statement.
use Rattle.std.specs.Prelude.{◌≡◌, refl, Bool, true, false, List, [], ◌∷◌, ◌++◌, map, ℕ, suc, ℤ, pos, negsuc, get_or}
use Rattle.rules.specs.declared.Rect.{Rect}
use Rattle.rules.specs.declared.FoundRecord.{FoundRecord}
use Rattle.rules.specs.declared.Edition.TheVariants.{One}
use Rattle.rules.specs.declared.Entry.{Entry}
use Rattle.rules.specs.declared.Pointer.TheVariants.{Number}
use Rattle.rules.specs.declared.Request.{Request}
use Rattle.rules.specs.declared.Answer.{Answer}
use Rattle.rules.specs.Geometry.{meets, enlargement, waste}
use Rattle.rules.specs.Owners.{nobody}
use Rattle.rules.specs.Pool.{Node, Pool, slot, number, entry, node, free_node, no_record}
use Rattle.rules.specs.Layout.{words, read, blank_words}
use Rattle.rules.specs.Choose.{choose_child}
use Rattle.rules.specs.Split.{quadratic_groups}
use Rattle.rules.specs.Answers.{answer}
use Rattle.rules.specs.Call.{Left}
use Rattle.rules.specs.Computed.{document01}
use Rattle.rules.specs.Histories.{box, insert, delete, search, history, shown}

-- ---- the table's columns

-- what a rule says: a truth, a whole number, an entry by its number from 1, two groups of such, a pool's words, or what a call left
pub data Says : Type 0 where
  truth : Bool → Says
  amount : ℤ → Says
  the_entry : ℕ → Says
  the_groups : List ℕ → List ℕ → Says
  the_levels : ℕ → List ℕ → Says
  the_words : List ℤ → Says
  the_answers : List Answer → Says
  the_answer : Answer → List FoundRecord → Says

-- an example's number, what the rules say about it, and what document 01 says (of example 8, Req 05)
pub record Example : Type 0 where
  pub number : ℕ
  pub rules : Says
  pub document : Says

-- ---- what the rows speak of

-- the child chosen and the groups made, counted from 1
abbrev chosen : List Rect → Rect → Says
chosen rs new = the_entry (suc (choose_child rs new))

abbrev split : List Rect → Says
split rs = the_groups (map suc (quadratic_groups rs).one) (map suc (quadratic_groups rs).two)

abbrev square : Rect
square = box 0 0 10 10

abbrev row7 : List Rect
row7 =
    box 0 0 10 10 ∷ box 10 0 20 10 ∷ box 20 0 30 10 ∷ box 30 0 40 10 ∷ box 40 0 50 10 ∷ box 50 0 60 10 ∷ box 60 0 70 10 ∷ box 70 0 80 10
    ∷ box 1000 0 1010 10 ∷ []

abbrev points : List Rect
points =
    box 0 0 0 0 ∷ box 10 0 10 0 ∷ box 20 0 20 0 ∷ box 30 0 30 0 ∷ box 40 0 40 0 ∷ box 50 0 50 0 ∷ box 60 0 60 0 ∷ box 70 0 70 0
    ∷ box 80 0 80 0 ∷ []

-- rectangles as records 1, 2, .. (from n on)
abbrev inserts : ℕ → List Rect → List Request
inserts n [] = []
inserts n (r ∷ rs) = insert n r ∷ inserts (suc n) rs

abbrev record_entry : ℕ → Rect → Entry
record_entry n r = entry r (Number (number (pos n)) nobody)

abbrev leaf : ℕ → List Rect → List Entry
leaf n [] = []
leaf n (r ∷ rs) = record_entry n r ∷ leaf (suc n) rs

-- example 9's records from a blank pool of three slots, and then some requests, with `places` places in the found list
abbrev then : ℕ → List Request → Left
then places qs = history (blank_words 3) places (inserts 1 row7 ++ qs)

-- the answer to the request after the nine, and the found list
abbrev answered : Left → Says
answered l = the_answer (get_or l.answers 9 (answer 0 0 0 0)) l.found

abbrev levels_of : Pool → Says
levels_of p = the_levels p.root.0 (map (λ (n : Node). n.level) p.slots)

-- ---- the table

abbrev pub table : List Example
table =
    record { number = 1; rules = truth (meets square (box 10 10 20 20)); document = truth true }
    ∷ record { number = 2; rules = truth (meets square (box 11 0 20 10)); document = truth false }
    ∷ record { number = 3; rules = amount (enlargement square (box 10 0 20 10)); document = amount (pos 100) }
    ∷ record { number = 4; rules = chosen (square ∷ box 20 0 30 10 ∷ []) (box 12 0 18 10); document = the_entry 1 }
    ∷ record { number = 5; rules = chosen (square ∷ box 20 0 29 10 ∷ []) (box 12 0 18 10); document = the_entry 2 }
    ∷ record { number = 6; rules = amount (waste square square); document = amount (negsuc 99) }
    ∷ record { number = 6; rules = amount (waste square (box 20 0 30 10)); document = amount (pos 100) }
    ∷ record { number = 7; rules = split row7; document = the_groups (1 ∷ 2 ∷ 3 ∷ 4 ∷ 5 ∷ 6 ∷ []) (9 ∷ 7 ∷ 8 ∷ []) }
    -- "Example 8 becomes groups 1 to 6, then 9, 7, 8." (Req 05)
    ∷ record { number = 8; rules = split points; document = the_groups (1 ∷ 2 ∷ 3 ∷ 4 ∷ 5 ∷ 6 ∷ []) (9 ∷ 7 ∷ 8 ∷ []) }
    ∷ record { number = 9; rules = levels_of (read (then 0 []).pool); document = the_levels 3 (1 ∷ 1 ∷ 2 ∷ []) }
    ∷ record {
      number = 9;
      rules = answered (then 1 (search (box 55 0 58 10) ∷ []));
      document = the_answer (answer 0 1 0 2) (shown 6 (box 50 0 60 10) ∷ []);
    }
    ∷ record {
      number = 10;
      rules = answered (then 2 (search (box 60 0 60 0) ∷ []));
      document = the_answer (answer 0 2 0 3) (shown 6 (box 50 0 60 10) ∷ shown 7 (box 60 0 70 10) ∷ []);
    }
    ∷ record {
      number = 11;
      rules = answered (then 2 (search (box 2000 0 2000 0) ∷ []));
      document = the_answer (answer 0 0 0 1) (no_record ∷ no_record ∷ []);
    }
    ∷ record {
      number = 12;
      rules = the_words (then 0 (delete 9 (box 1000 0 1010 10) ∷ [])).pool;
      document =
          the_words (words (record {
            edition = One;
            root = slot 1;
            height = 1;
            records = 8;
            slots =
                node 1 (leaf 1 (
                box 0 0 10 10 ∷ box 10 0 20 10 ∷ box 20 0 30 10 ∷ box 30 0 40 10 ∷ box 40 0 50 10 ∷ box 50 0 60 10 ∷ box 60 0 70 10 ∷ box 70 0 80 10 ∷ []))
                ∷ free_node ∷ free_node ∷ [];
          }));
    }
    ∷ record {
      number = 13;
      rules =
          the_answers (history (blank_words 1) 0 (
          insert 1 (box 0 0 1000000000 0) ∷ insert 2 (box 0 0 0 1000000001) ∷ [])).answers;
      document = the_answers (answer 0 0 0 0 ∷ answer 3 0 0 0 ∷ []);
    }
    ∷ []

-- "Site examples": the rules say what the documents say, in every row
pub site_examples : map (λ (e : Example). e.rules) table ≡ map (λ (e : Example). e.document) table
unfolding document01
site_examples = refl
