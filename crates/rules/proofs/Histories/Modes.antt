-- Zones wholly inside: ten records in two leaves under a root, and searches of the three modes over
-- the same windows. The first window is record 1; 2 and 3 are halves of it, 4 and 5 hold it with a
-- corner shared, 6 touches it from above, 7 and 9 reach out of it on one side. The second holds 8
-- and 10, and 9 reaches out of it; nothing holds it, and its leaf is opened all the same. The third
-- lies in 1, 4 and 5; 2, 3, 7 and 9 would hold it but for one side each. The last is the whole site.
use Rattle.std.specs.Prelude.{◌≡◌, refl, List, [], ◌∷◌, ◌++◌, ℤ, pos, replicate}
use Rattle.rules.specs.declared.Request.{Request}
use Rattle.rules.specs.Answers.{answer}
use Rattle.rules.specs.Call.{Left}
use Rattle.rules.specs.Computed.{document01}
use Rattle.rules.specs.Histories.{minus, box, insert, search, search_inside, search_enclosing, shown, zero_to, history}
use Rattle.rules.specs.Pool.{rectangle, no_record}
use Rattle.rules.specs.Layout.{blank_words}

-- the pool that is lent
modes_start : List ℤ
modes_start = blank_words 12

modes_requests : List Request
modes_requests =
    insert 1 (box 10 10 30 30) ∷
    insert 2 (box 10 10 20 30) ∷
    insert 3 (box 10 20 30 30) ∷
    insert 4 (box 10 10 40 40) ∷
    insert 5 (box 0 0 30 30) ∷
    insert 6 (box 25 30 30 50) ∷
    insert 7 (box 10 5 28 22) ∷
    insert 8 (box 60 40 70 50) ∷
    insert 9 (box 20 12 70 30) ∷
    insert 10 (box 80 40 90 50) ∷
    search (box 10 10 30 30) ∷
    search_inside (box 10 10 30 30) ∷
    search_enclosing (box 10 10 30 30) ∷
    search (box 55 10 95 55) ∷
    search_inside (box 55 10 95 55) ∷
    search_enclosing (box 55 10 95 55) ∷
    search (box 15 15 25 28) ∷
    search_enclosing (box 15 15 25 28) ∷
    search (rectangle (minus 1000000000) (minus 1000000000) (pos 1000000000) (pos 1000000000)) ∷
    search_inside (rectangle (minus 1000000000) (minus 1000000000) (pos 1000000000) (pos 1000000000)) ∷ []

-- the words that it leaves: the head, then a line for each slot
modes_pool : List ℤ
modes_pool =
    zero_to 8 (1 ∷ 3 ∷ 2 ∷ 10 ∷ [])
    ++ zero_to 42 (1 ∷ 6 ∷ 0 ∷ 0 ∷ 30 ∷ 30 ∷ 5 ∷ 10 ∷ 5 ∷ 28 ∷ 22 ∷ 7 ∷ 10 ∷ 10 ∷ 30 ∷ 30 ∷ 1 ∷ 10 ∷ 10 ∷ 20 ∷ 30 ∷ 2 ∷ 10 ∷ 20 ∷ 30 ∷ 30 ∷ 3 ∷ 10 ∷ 10 ∷ 40 ∷ 40 ∷ 4 ∷ [])
    ++ zero_to 42 (1 ∷ 4 ∷ 60 ∷ 40 ∷ 70 ∷ 50 ∷ 8 ∷ 25 ∷ 30 ∷ 30 ∷ 50 ∷ 6 ∷ 20 ∷ 12 ∷ 70 ∷ 30 ∷ 9 ∷ 80 ∷ 40 ∷ 90 ∷ 50 ∷ 10 ∷ [])
    ++ zero_to 42 (2 ∷ 2 ∷ 0 ∷ 0 ∷ 40 ∷ 40 ∷ 1 ∷ 20 ∷ 12 ∷ 90 ∷ 50 ∷ 2 ∷ [])
    ++ zero_to 42 []
    ++ zero_to 42 []
    ++ zero_to 42 []
    ++ zero_to 42 []
    ++ zero_to 42 []
    ++ zero_to 42 []
    ++ zero_to 42 []
    ++ zero_to 42 []
    ++ zero_to 42 []

-- the answers are number, found, start, opened
modes_left : Left
modes_left =
    record {
      number = pos 0;
      pool = modes_pool;
      workspace = modes_pool;
      answers =
          replicate 10 (answer 0 0 0 0) ++
          answer 0 8 0 3 ∷
          answer 0 3 8 3 ∷
          answer 0 3 11 3 ∷
          answer 0 3 14 2 ∷
          answer 0 2 17 2 ∷
          answer 0 0 19 2 ∷
          answer 0 7 19 3 ∷
          answer 0 3 26 3 ∷
          answer 0 10 29 3 ∷
          answer 0 10 39 3 ∷ [];
      found =
          shown 1 (box 10 10 30 30) ∷
          shown 2 (box 10 10 20 30) ∷
          shown 3 (box 10 20 30 30) ∷
          shown 4 (box 10 10 40 40) ∷
          shown 5 (box 0 0 30 30) ∷
          shown 6 (box 25 30 30 50) ∷
          shown 7 (box 10 5 28 22) ∷
          shown 9 (box 20 12 70 30) ∷
          shown 1 (box 10 10 30 30) ∷
          shown 2 (box 10 10 20 30) ∷
          shown 3 (box 10 20 30 30) ∷
          shown 1 (box 10 10 30 30) ∷
          shown 4 (box 10 10 40 40) ∷
          shown 5 (box 0 0 30 30) ∷
          shown 8 (box 60 40 70 50) ∷
          shown 9 (box 20 12 70 30) ∷
          shown 10 (box 80 40 90 50) ∷
          shown 8 (box 60 40 70 50) ∷
          shown 10 (box 80 40 90 50) ∷
          shown 1 (box 10 10 30 30) ∷
          shown 2 (box 10 10 20 30) ∷
          shown 3 (box 10 20 30 30) ∷
          shown 4 (box 10 10 40 40) ∷
          shown 5 (box 0 0 30 30) ∷
          shown 7 (box 10 5 28 22) ∷
          shown 9 (box 20 12 70 30) ∷
          shown 1 (box 10 10 30 30) ∷
          shown 4 (box 10 10 40 40) ∷
          shown 5 (box 0 0 30 30) ∷
          shown 1 (box 10 10 30 30) ∷
          shown 2 (box 10 10 20 30) ∷
          shown 3 (box 10 20 30 30) ∷
          shown 4 (box 10 10 40 40) ∷
          shown 5 (box 0 0 30 30) ∷
          shown 6 (box 25 30 30 50) ∷
          shown 7 (box 10 5 28 22) ∷
          shown 8 (box 60 40 70 50) ∷
          shown 9 (box 20 12 70 30) ∷
          shown 10 (box 80 40 90 50) ∷
          shown 1 (box 10 10 30 30) ∷
          shown 2 (box 10 10 20 30) ∷
          shown 3 (box 10 20 30 30) ∷
          shown 4 (box 10 10 40 40) ∷
          shown 5 (box 0 0 30 30) ∷
          shown 6 (box 25 30 30 50) ∷
          shown 7 (box 10 5 28 22) ∷
          shown 8 (box 60 40 70 50) ∷
          shown 9 (box 20 12 70 30) ∷
          shown 10 (box 80 40 90 50) ∷ replicate 15 no_record;
    }

modes : history modes_start 64 modes_requests ≡ modes_left
unfolding document01 modes_start modes_requests modes_pool modes_left
modes = refl
