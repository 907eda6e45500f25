-- Four slots, none free: leaves of 8, 8 and 3 records under the root. The delete leaves a thin
-- leaf; its two entries set aside each split a full leaf, and the second finds no slot: 7.
-- Fewer slots cannot do it, for with two leaves only one can be full and split.
use Rattle.std.specs.Prelude.{◌≡◌, refl, List, [], ◌∷◌, ◌++◌, ℤ, pos, replicate}
use Rattle.rules.specs.declared.Request.{Request}
use Rattle.rules.specs.Answers.{answer}
use Rattle.rules.specs.Call.{Left}
use Rattle.rules.specs.Computed.{document01}
use Rattle.rules.specs.Histories.{box, insert, delete, zero_to, history}
use Rattle.rules.specs.Pool.{no_record}
use Rattle.rules.specs.Layout.{blank_words}

-- the pool that is lent
delete_refused_start : List ℤ
delete_refused_start = blank_words 4

delete_refused_requests : List Request
delete_refused_requests =
    insert 1 (box 20 23 21 24) ∷
    insert 2 (box 23 1 24 5) ∷
    insert 3 (box 22 7 25 8) ∷
    insert 4 (box 9 2 11 7) ∷
    insert 5 (box 20 18 25 21) ∷
    insert 6 (box 11 5 12 7) ∷
    insert 7 (box 21 15 26 17) ∷
    insert 8 (box 19 7 21 10) ∷
    insert 9 (box 12 30 13 31) ∷
    insert 10 (box 23 16 27 21) ∷
    insert 11 (box 21 5 22 9) ∷
    insert 12 (box 27 15 31 19) ∷
    insert 13 (box 27 24 29 29) ∷
    insert 14 (box 19 20 23 22) ∷
    insert 15 (box 25 15 26 19) ∷
    insert 16 (box 27 9 29 13) ∷
    insert 17 (box 18 5 22 9) ∷
    insert 18 (box 22 7 27 12) ∷
    insert 19 (box 20 0 24 4) ∷
    delete 4 (box 9 2 11 7) ∷ []

-- the words that it leaves: the head, then a line for each slot
delete_refused_pool : List ℤ
delete_refused_pool =
    zero_to 8 (1 ∷ 3 ∷ 2 ∷ 19 ∷ [])
    ++ zero_to 42 (1 ∷ 8 ∷ 23 ∷ 1 ∷ 24 ∷ 5 ∷ 2 ∷ 21 ∷ 5 ∷ 22 ∷ 9 ∷ 11 ∷ 19 ∷ 7 ∷ 21 ∷ 10 ∷ 8 ∷ 22 ∷ 7 ∷ 25 ∷ 8 ∷ 3 ∷ 27 ∷ 9 ∷ 29 ∷ 13 ∷ 16 ∷ 18 ∷ 5 ∷ 22 ∷ 9 ∷ 17 ∷ 22 ∷ 7 ∷ 27 ∷ 12 ∷ 18 ∷ 20 ∷ 0 ∷ 24 ∷ 4 ∷ 19 ∷ [])
    ++ zero_to 42 (1 ∷ 3 ∷ 12 ∷ 30 ∷ 13 ∷ 31 ∷ 9 ∷ 11 ∷ 5 ∷ 12 ∷ 7 ∷ 6 ∷ 9 ∷ 2 ∷ 11 ∷ 7 ∷ 4 ∷ [])
    ++ zero_to 42 (2 ∷ 3 ∷ 18 ∷ 0 ∷ 29 ∷ 13 ∷ 1 ∷ 9 ∷ 2 ∷ 13 ∷ 31 ∷ 2 ∷ 19 ∷ 15 ∷ 31 ∷ 29 ∷ 4 ∷ [])
    ++ zero_to 42 (1 ∷ 8 ∷ 27 ∷ 15 ∷ 31 ∷ 19 ∷ 12 ∷ 23 ∷ 16 ∷ 27 ∷ 21 ∷ 10 ∷ 20 ∷ 18 ∷ 25 ∷ 21 ∷ 5 ∷ 21 ∷ 15 ∷ 26 ∷ 17 ∷ 7 ∷ 20 ∷ 23 ∷ 21 ∷ 24 ∷ 1 ∷ 27 ∷ 24 ∷ 29 ∷ 29 ∷ 13 ∷ 19 ∷ 20 ∷ 23 ∷ 22 ∷ 14 ∷ 25 ∷ 15 ∷ 26 ∷ 19 ∷ 15 ∷ [])

-- the answers are number, found, start, opened
delete_refused_left : Left
delete_refused_left =
    record {
      number = pos 0;
      pool = delete_refused_pool;
      workspace = delete_refused_pool;
      answers =
          replicate 19 (answer 0 0 0 0) ++
          answer 7 0 0 0 ∷ [];
      found = replicate 64 no_record;
    }

delete_refused : history delete_refused_start 64 delete_refused_requests ≡ delete_refused_left
unfolding document01 delete_refused_start delete_refused_requests delete_refused_pool delete_refused_left
delete_refused = refl
