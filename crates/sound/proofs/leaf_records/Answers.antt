-- At most 4,096 counts of at most 8: their sum fits.
use Rattle.std.proofs.Common.{rules, tests, arith, ◌≤◌, ◌+◌, ℕ, length, sym, ◌∙◌}
use Rattle.std.proofs.lemmas.Iterator.{YieldsList-from_range, YieldsList-from_map}
use Rattle.std.proofs.lemmas.Iterator.Adapters.{fits_from_length, at_most_from_yields_List}
use Rattle.std.proofs.lemmas.Iterator.Consumers.{sum_by_from_yields_List}
use Rattle.std.proofs.lemmas.List.FromFn.{length-range_with_len}
use Rattle.std.specs.List.{range_with_len}
use Rattle.rules.specs.Pool.{slot, node_at}
use Rattle.rules.specs.Layout.{read}
use Rattle.layout_laws.proofs.Parts.{few_slots}
use Rattle.layout_laws.proofs.Written.{read_slots}
use Rattle.sound.specs.Walked.{record_count}
use Rattle.sound.proofs.Records.{all_sums}
use Rattle.sound.proofs.leaf_records.Goals as goal

pub sum-requires-clause-fits : goal.sum-requires-clause-fits
sum-requires-clause-fits c =
    let n = c.slots.result in
    let few = few_slots c.args.pool.words.now c.args.pool.right in
    let short : length (range_with_len 0 n) ≤ 4096 = omega (arith, few, c.slots.ensures, length-range_with_len 0 n) in
    fits_from_length _ _ 4096 _ (at_most_from_yields_List (YieldsList-from_range 0 n n c.map.ensures.source (omega arith)) short) c.map.ensures.closure
    (omega arith) (λ x r q k. search (rules, tests))

pub returns : goal.returns
returns c =
    let n = c.slots.result in
    let w = c.args.pool.words.now in
    let counts : ℕ → ℕ = λ i. record_count (node_at (read w) (slot (i + 1))) in
    sum_by_from_yields_List counts (range_with_len 0 n) c.map.result c.sum.result c.sum.ensures.ran
    (YieldsList-from_map _ counts (YieldsList-from_range 0 n n c.map.ensures.source (omega arith)) c.map.ensures.closure (λ x r q k. search rules))
    ∙ all_sums (read w) n (c.slots.ensures ∙ sym (read_slots w))
