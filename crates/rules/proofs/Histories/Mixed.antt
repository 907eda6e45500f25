-- An ordinary mixed history in a pool of six slots, with refusals 3 to 8 among it.
use Rattle.std.specs.Prelude.{◌≡◌, refl, List, [], ◌∷◌, ◌++◌, ℤ, pos, replicate}
use Rattle.rules.specs.declared.Request.{Request}
use Rattle.rules.specs.Answers.{answer}
use Rattle.rules.specs.Call.{Left}
use Rattle.rules.specs.Computed.{document01}
use Rattle.rules.specs.Histories.{box, insert, delete, update, search, shown, zero_to, history}
use Rattle.rules.specs.Pool.{no_record}
use Rattle.rules.specs.Layout.{blank_words}

-- the pool that is lent
mixed_start : List ℤ
mixed_start = blank_words 6

mixed_requests : List Request
mixed_requests =
    search (box 0 0 50 50) ∷
    insert 1 (box 23 29 31 34) ∷
    insert 2 (box 8 19 10 24) ∷
    insert 3 (box 40 7 42 14) ∷
    insert 4 (box 23 25 25 29) ∷
    insert 5 (box 8 36 13 41) ∷
    insert 3 (box 40 7 42 14) ∷
    insert 6 (box 16 31 19 36) ∷
    insert 0 (box 16 31 19 36) ∷
    insert 7 (box 28 9 29 10) ∷
    insert 8 (box 5 16 13 22) ∷
    insert 9 (box 18 20 26 24) ∷
    search (box 18 20 25 29) ∷
    insert 10 (box 5 1 7 8) ∷
    insert 11 (box 19 5 24 11) ∷
    insert 12 (box 13 14 19 22) ∷
    delete 3 (box 40 7 42 13) ∷
    insert 13 (box 1 36 4 40) ∷
    insert 14 (box 12 36 14 29) ∷
    insert 14 (box 12 29 14 36) ∷
    insert 15 (box 19 28 26 33) ∷
    insert 16 (box 23 20 25 26) ∷
    insert 17 (box 13 27 15 35) ∷
    insert 18 (box 21 27 26 29) ∷
    insert 19 (box 14 29 16 32) ∷
    insert 20 (box 11 27 15 30) ∷
    search (box 0 0 50 50) ∷
    insert 21 (box 4 20 12 28) ∷
    search (box 11 29 14 29) ∷
    delete 7 (box 28 9 29 10) ∷
    insert 21 (box 4 20 12 28) ∷
    update 13 (box 1 36 4 40) (box 20 30 22 40) ∷
    update 20 (box 11 27 15 30) (box 11 27 15 30) ∷
    search (box 20 30 20 30) ∷ []

-- the words that it leaves: the head, then a line for each slot
mixed_pool : List ℤ
mixed_pool =
    zero_to 8 (1 ∷ 3 ∷ 2 ∷ 20 ∷ [])
    ++ zero_to 42 (1 ∷ 5 ∷ 23 ∷ 20 ∷ 25 ∷ 26 ∷ 16 ∷ 23 ∷ 25 ∷ 25 ∷ 29 ∷ 4 ∷ 21 ∷ 27 ∷ 26 ∷ 29 ∷ 18 ∷ 19 ∷ 28 ∷ 26 ∷ 33 ∷ 15 ∷ 23 ∷ 29 ∷ 31 ∷ 34 ∷ 1 ∷ [])
    ++ zero_to 42 (1 ∷ 4 ∷ 13 ∷ 27 ∷ 15 ∷ 35 ∷ 17 ∷ 14 ∷ 29 ∷ 16 ∷ 32 ∷ 19 ∷ 16 ∷ 31 ∷ 19 ∷ 36 ∷ 6 ∷ 20 ∷ 30 ∷ 22 ∷ 40 ∷ 13 ∷ [])
    ++ zero_to 42 (2 ∷ 5 ∷ 13 ∷ 27 ∷ 22 ∷ 40 ∷ 2 ∷ 5 ∷ 1 ∷ 42 ∷ 22 ∷ 4 ∷ 4 ∷ 20 ∷ 15 ∷ 41 ∷ 5 ∷ 8 ∷ 14 ∷ 26 ∷ 24 ∷ 6 ∷ 19 ∷ 20 ∷ 31 ∷ 34 ∷ 1 ∷ [])
    ++ zero_to 42 (1 ∷ 4 ∷ 5 ∷ 1 ∷ 7 ∷ 8 ∷ 10 ∷ 5 ∷ 16 ∷ 13 ∷ 22 ∷ 8 ∷ 19 ∷ 5 ∷ 24 ∷ 11 ∷ 11 ∷ 40 ∷ 7 ∷ 42 ∷ 14 ∷ 3 ∷ [])
    ++ zero_to 42 (1 ∷ 4 ∷ 8 ∷ 36 ∷ 13 ∷ 41 ∷ 5 ∷ 12 ∷ 29 ∷ 14 ∷ 36 ∷ 14 ∷ 4 ∷ 20 ∷ 12 ∷ 28 ∷ 21 ∷ 11 ∷ 27 ∷ 15 ∷ 30 ∷ 20 ∷ [])
    ++ zero_to 42 (1 ∷ 3 ∷ 8 ∷ 19 ∷ 10 ∷ 24 ∷ 2 ∷ 13 ∷ 14 ∷ 19 ∷ 22 ∷ 12 ∷ 18 ∷ 20 ∷ 26 ∷ 24 ∷ 9 ∷ [])

-- the answers are number, found, start, opened
mixed_left : Left
mixed_left =
    record {
      number = pos 0;
      pool = mixed_pool;
      workspace = mixed_pool;
      answers =
          answer 0 0 0 1 ∷
          replicate 5 (answer 0 0 0 0) ++
          answer 6 0 0 0 ∷
          answer 0 0 0 0 ∷
          answer 4 0 0 0 ∷
          replicate 3 (answer 0 0 0 0) ++
          answer 0 3 0 3 ∷
          replicate 3 (answer 0 0 0 0) ++
          answer 5 0 0 0 ∷
          answer 0 0 0 0 ∷
          answer 3 0 0 0 ∷
          replicate 7 (answer 0 0 0 0) ++
          answer 8 20 0 6 ∷
          answer 7 0 0 0 ∷
          answer 0 4 3 3 ∷
          replicate 4 (answer 0 0 0 0) ++
          answer 0 2 7 3 ∷ [];
      found =
          shown 1 (box 23 29 31 34) ∷
          shown 4 (box 23 25 25 29) ∷
          shown 9 (box 18 20 26 24) ∷
          shown 14 (box 12 29 14 36) ∷
          shown 17 (box 13 27 15 35) ∷
          shown 19 (box 14 29 16 32) ∷
          shown 20 (box 11 27 15 30) ∷
          shown 13 (box 20 30 22 40) ∷
          shown 15 (box 19 28 26 33) ∷ replicate 3 no_record;
    }

mixed : history mixed_start 12 mixed_requests ≡ mixed_left
unfolding document01 mixed_start mixed_requests mixed_pool mixed_left
mixed = refl
