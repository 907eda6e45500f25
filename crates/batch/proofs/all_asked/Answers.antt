-- `all` says whether the test holds for each.
use Rattle.std.proofs.Common.{rules, tests, ◌∙◌}
use Rattle.std.proofs.lemmas.Iterator.{YieldsList-from_slice}
use Rattle.std.proofs.lemmas.Iterator.Search.{all_from_yields_List}
use Rattle.rules.specs.Call.{is_request}
use Rattle.batch.proofs.Asks.{every_all}
use Rattle.batch.proofs.all_asked.Goals as goal

pub returns : goal.returns
returns c =
    all_from_yields_List is_request _ _ c.all.result c.all.ensures.ran (YieldsList-from_slice c.args.requests.now cc)
    (λ x b q k. search (rules, tests))
    ∙ every_all is_request c.args.requests.now
