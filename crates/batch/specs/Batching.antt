-- What the parts of a call promise.
use Rattle.std.specs.Prelude.{◌≡◌, List, ℤ}
use Rattle.rules.specs.declared.FoundRecord.{FoundRecord}
use Rattle.rules.specs.declared.Answer.{Answer}
use Rattle.rules.specs.Layout.{words}
use Rattle.rules.specs.Insert.{ours}
use Rattle.rules.specs.Call.{Lent, Batch, starting, do_requests}

-- the batch of a call that is served, when every request is done
unfoldable pub batch_of : Lent → Batch
batch_of l = do_requests ours 0 l.requests (starting l)

-- the lists lent hold what the batch has done
pub record Batched (b : Batch) (pool : List ℤ) (answers : List Answer) (found : List FoundRecord) : Type 0 where
  pub pool_is : pool ≡ words b.pool
  pub answers_are : answers ≡ b.answers
  pub found_is : found ≡ b.found
