-- Example 8 as document 02 has it: nine points of a road, no area anywhere. The leaves, 1 to 6 and 9, 7,
-- 8, lie apart, so the search between them opens the root alone. Then 10 is as far from the one as from
-- the other, and goes to the shorter; 11 is nearer to the longer, and goes there.
use Rattle.std.specs.Prelude.{◌≡◌, refl, List, [], ◌∷◌, ◌++◌, ℤ, pos, replicate}
use Rattle.rules.specs.declared.Request.{Request}
use Rattle.rules.specs.Answers.{answer}
use Rattle.rules.specs.Call.{Left}
use Rattle.rules.specs.Computed.{document01}
use Rattle.rules.specs.Histories.{box, insert, search, shown, zero_to, history}
use Rattle.rules.specs.Pool.{no_record}
use Rattle.rules.specs.Layout.{blank_words}

-- the pool that is lent
flat_start : List ℤ
flat_start = blank_words 3

flat_requests : List Request
flat_requests =
    insert 1 (box 0 0 0 0) ∷
    insert 2 (box 10 0 10 0) ∷
    insert 3 (box 20 0 20 0) ∷
    insert 4 (box 30 0 30 0) ∷
    insert 5 (box 40 0 40 0) ∷
    insert 6 (box 50 0 50 0) ∷
    insert 7 (box 60 0 60 0) ∷
    insert 8 (box 70 0 70 0) ∷
    insert 9 (box 80 0 80 0) ∷
    search (box 55 0 55 0) ∷
    insert 10 (box 55 0 55 0) ∷
    insert 11 (box 52 0 52 0) ∷
    search (box 50 0 60 0) ∷ []

-- the words that it leaves: the head, then a line for each slot
flat_pool : List ℤ
flat_pool =
    zero_to 8 (1 ∷ 3 ∷ 2 ∷ 11 ∷ [])
    ++ zero_to 42 (1 ∷ 7 ∷ 0 ∷ 0 ∷ 0 ∷ 0 ∷ 1 ∷ 10 ∷ 0 ∷ 10 ∷ 0 ∷ 2 ∷ 20 ∷ 0 ∷ 20 ∷ 0 ∷ 3 ∷ 30 ∷ 0 ∷ 30 ∷ 0 ∷ 4 ∷ 40 ∷ 0 ∷ 40 ∷ 0 ∷ 5 ∷ 50 ∷ 0 ∷ 50 ∷ 0 ∷ 6 ∷ 52 ∷ 0 ∷ 52 ∷ 0 ∷ 11 ∷ [])
    ++ zero_to 42 (1 ∷ 4 ∷ 80 ∷ 0 ∷ 80 ∷ 0 ∷ 9 ∷ 60 ∷ 0 ∷ 60 ∷ 0 ∷ 7 ∷ 70 ∷ 0 ∷ 70 ∷ 0 ∷ 8 ∷ 55 ∷ 0 ∷ 55 ∷ 0 ∷ 10 ∷ [])
    ++ zero_to 42 (2 ∷ 2 ∷ 0 ∷ 0 ∷ 52 ∷ 0 ∷ 1 ∷ 55 ∷ 0 ∷ 80 ∷ 0 ∷ 2 ∷ [])

-- the answers are number, found, start, opened
flat_left : Left
flat_left =
    record {
      number = pos 0;
      pool = flat_pool;
      workspace = flat_pool;
      answers =
          replicate 9 (answer 0 0 0 0) ++
          answer 0 0 0 1 ∷
          answer 0 0 0 0 ∷
          answer 0 0 0 0 ∷
          answer 0 4 0 3 ∷ [];
      found =
          shown 6 (box 50 0 50 0) ∷
          shown 7 (box 60 0 60 0) ∷
          shown 10 (box 55 0 55 0) ∷
          shown 11 (box 52 0 52 0) ∷ replicate 60 no_record;
    }

flat : history flat_start 64 flat_requests ≡ flat_left
unfolding document01 flat_start flat_requests flat_pool flat_left
flat = refl
