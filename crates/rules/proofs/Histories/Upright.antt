-- Nine points of an upright road. The seeds are its ends, 2 and 3. PickNext leaves 1, which is earliest,
-- to the last: then it is as far from 30 as from 76, and joins the shorter group, which has more entries.
use Rattle.std.specs.Prelude.{◌≡◌, refl, List, [], ◌∷◌, ◌++◌, ℤ, pos, replicate}
use Rattle.rules.specs.declared.Request.{Request}
use Rattle.rules.specs.Answers.{answer}
use Rattle.rules.specs.Call.{Left}
use Rattle.rules.specs.Computed.{document01}
use Rattle.rules.specs.Histories.{box, insert, search, shown, zero_to, history}
use Rattle.rules.specs.Pool.{no_record}
use Rattle.rules.specs.Layout.{blank_words}

-- the pool that is lent
upright_start : List ℤ
upright_start = blank_words 3

upright_requests : List Request
upright_requests =
    insert 1 (box 0 53 0 53) ∷
    insert 2 (box 0 0 0 0) ∷
    insert 3 (box 0 80 0 80) ∷
    insert 4 (box 0 15 0 15) ∷
    insert 5 (box 0 79 0 79) ∷
    insert 6 (box 0 30 0 30) ∷
    insert 7 (box 0 78 0 78) ∷
    insert 8 (box 0 77 0 77) ∷
    insert 9 (box 0 76 0 76) ∷
    search (box 0 50 0 77) ∷ []

-- the words that it leaves: the head, then a line for each slot
upright_pool : List ℤ
upright_pool =
    zero_to 8 (1 ∷ 3 ∷ 2 ∷ 9 ∷ [])
    ++ zero_to 42 (1 ∷ 3 ∷ 0 ∷ 0 ∷ 0 ∷ 0 ∷ 2 ∷ 0 ∷ 15 ∷ 0 ∷ 15 ∷ 4 ∷ 0 ∷ 30 ∷ 0 ∷ 30 ∷ 6 ∷ [])
    ++ zero_to 42 (1 ∷ 6 ∷ 0 ∷ 80 ∷ 0 ∷ 80 ∷ 3 ∷ 0 ∷ 79 ∷ 0 ∷ 79 ∷ 5 ∷ 0 ∷ 78 ∷ 0 ∷ 78 ∷ 7 ∷ 0 ∷ 77 ∷ 0 ∷ 77 ∷ 8 ∷ 0 ∷ 76 ∷ 0 ∷ 76 ∷ 9 ∷ 0 ∷ 53 ∷ 0 ∷ 53 ∷ 1 ∷ [])
    ++ zero_to 42 (2 ∷ 2 ∷ 0 ∷ 0 ∷ 0 ∷ 30 ∷ 1 ∷ 0 ∷ 53 ∷ 0 ∷ 80 ∷ 2 ∷ [])

-- the answers are number, found, start, opened
upright_left : Left
upright_left =
    record {
      number = pos 0;
      pool = upright_pool;
      workspace = upright_pool;
      answers =
          replicate 9 (answer 0 0 0 0) ++
          answer 0 3 0 2 ∷ [];
      found =
          shown 1 (box 0 53 0 53) ∷
          shown 8 (box 0 77 0 77) ∷
          shown 9 (box 0 76 0 76) ∷ replicate 61 no_record;
    }

upright : history upright_start 64 upright_requests ≡ upright_left
unfolding document01 upright_start upright_requests upright_pool upright_left
upright = refl
