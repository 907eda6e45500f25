-- From blank to a tree of height 3. The delete sets entries aside on two levels; a record going in
-- again splits a leaf, and a child going in again splits the node over the leaves, so the root keeps
-- two children. The freed slots are used again within the request.
use Rattle.std.specs.Prelude.{◌≡◌, refl, List, [], ◌∷◌, ◌++◌, ℤ, pos, replicate}
use Rattle.rules.specs.declared.Request.{Request}
use Rattle.rules.specs.Answers.{answer}
use Rattle.rules.specs.Call.{Left}
use Rattle.rules.specs.Computed.{document01}
use Rattle.rules.specs.Histories.{box, insert, delete, update, search, shown, zero_to, history}
use Rattle.rules.specs.Pool.{no_record}
use Rattle.rules.specs.Layout.{blank_words}

-- the pool that is lent
two_levels_start : List ℤ
two_levels_start = blank_words 12

two_levels_requests : List Request
two_levels_requests =
    insert 1 (box 26 45 30 48) ∷
    insert 2 (box 18 5 19 9) ∷
    insert 3 (box 13 9 20 17) ∷
    insert 4 (box 3 26 8 32) ∷
    insert 5 (box 7 21 10 22) ∷
    insert 6 (box 48 6 55 12) ∷
    insert 7 (box 21 6 26 9) ∷
    insert 8 (box 15 38 23 39) ∷
    insert 9 (box 53 17 60 26) ∷
    insert 10 (box 34 49 43 57) ∷
    insert 11 (box 36 43 39 52) ∷
    insert 12 (box 16 25 21 34) ∷
    insert 13 (box 13 45 14 48) ∷
    insert 14 (box 16 36 21 38) ∷
    insert 15 (box 25 29 27 35) ∷
    insert 16 (box 1 3 5 9) ∷
    insert 17 (box 15 11 23 17) ∷
    insert 18 (box 10 27 11 29) ∷
    insert 19 (box 2 43 9 51) ∷
    insert 20 (box 4 60 10 65) ∷
    insert 21 (box 23 37 25 40) ∷
    insert 22 (box 10 33 13 42) ∷
    insert 23 (box 18 33 20 36) ∷
    insert 24 (box 24 39 30 40) ∷
    insert 25 (box 43 29 51 33) ∷
    insert 26 (box 59 33 62 39) ∷
    insert 27 (box 57 32 65 40) ∷
    insert 28 (box 28 34 35 37) ∷
    insert 29 (box 20 30 27 32) ∷
    insert 30 (box 35 26 41 35) ∷
    insert 31 (box 24 30 25 38) ∷
    insert 32 (box 16 25 24 27) ∷
    delete 12 (box 16 25 21 34) ∷
    search (box 15 30 25 40) ∷
    update 20 (box 4 60 10 65) (box 16 26 20 30) ∷
    search (box 15 25 25 30) ∷ []

-- the words that it leaves: the head, then a line for each slot
two_levels_pool : List ℤ
two_levels_pool =
    zero_to 8 (1 ∷ 3 ∷ 2 ∷ 31 ∷ [])
    ++ zero_to 42 (1 ∷ 3 ∷ 18 ∷ 5 ∷ 19 ∷ 9 ∷ 2 ∷ 13 ∷ 9 ∷ 20 ∷ 17 ∷ 3 ∷ 13 ∷ 45 ∷ 14 ∷ 48 ∷ 13 ∷ [])
    ++ zero_to 42 (1 ∷ 3 ∷ 48 ∷ 6 ∷ 55 ∷ 12 ∷ 6 ∷ 53 ∷ 17 ∷ 60 ∷ 26 ∷ 9 ∷ 21 ∷ 6 ∷ 26 ∷ 9 ∷ 7 ∷ [])
    ++ zero_to 42 (2 ∷ 8 ∷ 21 ∷ 6 ∷ 60 ∷ 26 ∷ 2 ∷ 43 ∷ 29 ∷ 65 ∷ 40 ∷ 9 ∷ 25 ∷ 26 ∷ 41 ∷ 37 ∷ 10 ∷ 2 ∷ 43 ∷ 43 ∷ 57 ∷ 4 ∷ 13 ∷ 5 ∷ 20 ∷ 48 ∷ 1 ∷ 3 ∷ 26 ∷ 30 ∷ 42 ∷ 8 ∷ 10 ∷ 25 ∷ 27 ∷ 32 ∷ 5 ∷ 1 ∷ 3 ∷ 23 ∷ 22 ∷ 6 ∷ [])
    ++ zero_to 42 (1 ∷ 4 ∷ 34 ∷ 49 ∷ 43 ∷ 57 ∷ 10 ∷ 36 ∷ 43 ∷ 39 ∷ 52 ∷ 11 ∷ 26 ∷ 45 ∷ 30 ∷ 48 ∷ 1 ∷ 2 ∷ 43 ∷ 9 ∷ 51 ∷ 19 ∷ [])
    ++ zero_to 42 (1 ∷ 4 ∷ 10 ∷ 27 ∷ 11 ∷ 29 ∷ 18 ∷ 16 ∷ 25 ∷ 24 ∷ 27 ∷ 32 ∷ 20 ∷ 30 ∷ 27 ∷ 32 ∷ 29 ∷ 16 ∷ 26 ∷ 20 ∷ 30 ∷ 20 ∷ [])
    ++ zero_to 42 (1 ∷ 3 ∷ 1 ∷ 3 ∷ 5 ∷ 9 ∷ 16 ∷ 7 ∷ 21 ∷ 10 ∷ 22 ∷ 5 ∷ 15 ∷ 11 ∷ 23 ∷ 17 ∷ 17 ∷ [])
    ++ zero_to 42 []
    ++ zero_to 42 (1 ∷ 8 ∷ 24 ∷ 39 ∷ 30 ∷ 40 ∷ 24 ∷ 23 ∷ 37 ∷ 25 ∷ 40 ∷ 21 ∷ 15 ∷ 38 ∷ 23 ∷ 39 ∷ 8 ∷ 16 ∷ 36 ∷ 21 ∷ 38 ∷ 14 ∷ 18 ∷ 33 ∷ 20 ∷ 36 ∷ 23 ∷ 24 ∷ 30 ∷ 25 ∷ 38 ∷ 31 ∷ 10 ∷ 33 ∷ 13 ∷ 42 ∷ 22 ∷ 3 ∷ 26 ∷ 8 ∷ 32 ∷ 4 ∷ [])
    ++ zero_to 42 (1 ∷ 3 ∷ 57 ∷ 32 ∷ 65 ∷ 40 ∷ 27 ∷ 59 ∷ 33 ∷ 62 ∷ 39 ∷ 26 ∷ 43 ∷ 29 ∷ 51 ∷ 33 ∷ 25 ∷ [])
    ++ zero_to 42 (1 ∷ 3 ∷ 35 ∷ 26 ∷ 41 ∷ 35 ∷ 30 ∷ 25 ∷ 29 ∷ 27 ∷ 35 ∷ 15 ∷ 28 ∷ 34 ∷ 35 ∷ 37 ∷ 28 ∷ [])
    ++ zero_to 42 []
    ++ zero_to 42 []

-- the answers are number, found, start, opened
two_levels_left : Left
two_levels_left =
    record {
      number = pos 0;
      pool = two_levels_pool;
      workspace = two_levels_pool;
      answers =
          replicate 33 (answer 0 0 0 0) ++
          answer 0 8 0 7 ∷
          answer 0 0 0 0 ∷
          answer 0 5 8 6 ∷ [];
      found =
          shown 8 (box 15 38 23 39) ∷
          shown 14 (box 16 36 21 38) ∷
          shown 15 (box 25 29 27 35) ∷
          shown 21 (box 23 37 25 40) ∷
          shown 23 (box 18 33 20 36) ∷
          shown 24 (box 24 39 30 40) ∷
          shown 29 (box 20 30 27 32) ∷
          shown 31 (box 24 30 25 38) ∷
          shown 15 (box 25 29 27 35) ∷
          shown 20 (box 16 26 20 30) ∷
          shown 29 (box 20 30 27 32) ∷
          shown 31 (box 24 30 25 38) ∷
          shown 32 (box 16 25 24 27) ∷ replicate 51 no_record;
    }

two_levels : history two_levels_start 64 two_levels_requests ≡ two_levels_left
unfolding document01 two_levels_start two_levels_requests two_levels_pool two_levels_left
two_levels = refl
