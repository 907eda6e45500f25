-- Three slots, none free: leaves of 8 and 5 records under the root. The update takes a record out of the one; its
-- new rectangle goes into the other, which is full and would split: 7, and the old pair is still found.
use Rattle.std.specs.Prelude.{◌≡◌, refl, List, [], ◌∷◌, ◌++◌, ℤ, pos, replicate}
use Rattle.rules.specs.declared.Request.{Request}
use Rattle.rules.specs.Answers.{answer}
use Rattle.rules.specs.Call.{Left}
use Rattle.rules.specs.Computed.{document01}
use Rattle.rules.specs.Histories.{box, insert, update, search, shown, zero_to, history}
use Rattle.rules.specs.Pool.{no_record}
use Rattle.rules.specs.Layout.{blank_words}

-- the pool that is lent
update_refused_start : List ℤ
update_refused_start = blank_words 3

update_refused_requests : List Request
update_refused_requests =
    insert 1 (box 0 0 10 10) ∷
    insert 2 (box 10 0 20 10) ∷
    insert 3 (box 20 0 30 10) ∷
    insert 4 (box 30 0 40 10) ∷
    insert 5 (box 0 10 10 20) ∷
    insert 6 (box 10 10 20 20) ∷
    insert 7 (box 20 10 30 20) ∷
    insert 8 (box 1000 0 1010 10) ∷
    insert 9 (box 1010 0 1020 10) ∷
    insert 10 (box 1020 0 1030 10) ∷
    insert 11 (box 1030 0 1040 10) ∷
    insert 12 (box 30 10 40 20) ∷
    insert 13 (box 15 5 25 15) ∷
    update 11 (box 1030 0 1040 10) (box 5 5 6 6) ∷
    search (box 0 0 2000 2000) ∷ []

-- the words that it leaves: the head, then a line for each slot
update_refused_pool : List ℤ
update_refused_pool =
    zero_to 8 (1 ∷ 3 ∷ 2 ∷ 13 ∷ [])
    ++ zero_to 42 (1 ∷ 8 ∷ 0 ∷ 10 ∷ 10 ∷ 20 ∷ 5 ∷ 10 ∷ 10 ∷ 20 ∷ 20 ∷ 6 ∷ 20 ∷ 10 ∷ 30 ∷ 20 ∷ 7 ∷ 0 ∷ 0 ∷ 10 ∷ 10 ∷ 1 ∷ 10 ∷ 0 ∷ 20 ∷ 10 ∷ 2 ∷ 20 ∷ 0 ∷ 30 ∷ 10 ∷ 3 ∷ 30 ∷ 10 ∷ 40 ∷ 20 ∷ 12 ∷ 15 ∷ 5 ∷ 25 ∷ 15 ∷ 13 ∷ [])
    ++ zero_to 42 (1 ∷ 5 ∷ 1010 ∷ 0 ∷ 1020 ∷ 10 ∷ 9 ∷ 1000 ∷ 0 ∷ 1010 ∷ 10 ∷ 8 ∷ 30 ∷ 0 ∷ 40 ∷ 10 ∷ 4 ∷ 1020 ∷ 0 ∷ 1030 ∷ 10 ∷ 10 ∷ 1030 ∷ 0 ∷ 1040 ∷ 10 ∷ 11 ∷ [])
    ++ zero_to 42 (2 ∷ 2 ∷ 0 ∷ 0 ∷ 40 ∷ 20 ∷ 1 ∷ 30 ∷ 0 ∷ 1040 ∷ 10 ∷ 2 ∷ [])

-- the answers are number, found, start, opened
update_refused_left : Left
update_refused_left =
    record {
      number = pos 0;
      pool = update_refused_pool;
      workspace = update_refused_pool;
      answers =
          replicate 13 (answer 0 0 0 0) ++
          answer 7 0 0 0 ∷
          answer 0 13 0 3 ∷ [];
      found =
          shown 1 (box 0 0 10 10) ∷
          shown 2 (box 10 0 20 10) ∷
          shown 3 (box 20 0 30 10) ∷
          shown 4 (box 30 0 40 10) ∷
          shown 5 (box 0 10 10 20) ∷
          shown 6 (box 10 10 20 20) ∷
          shown 7 (box 20 10 30 20) ∷
          shown 8 (box 1000 0 1010 10) ∷
          shown 9 (box 1010 0 1020 10) ∷
          shown 10 (box 1020 0 1030 10) ∷
          shown 11 (box 1030 0 1040 10) ∷
          shown 12 (box 30 10 40 20) ∷
          shown 13 (box 15 5 25 15) ∷ replicate 3 no_record;
    }

update_refused : history update_refused_start 16 update_refused_requests ≡ update_refused_left
unfolding document01 update_refused_start update_refused_requests update_refused_pool update_refused_left
update_refused = refl
