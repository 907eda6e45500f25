use Rattle.std.proofs.Common.{rules, tests, arith, ◌∙◌, ◌+◌, refl, sym}
use Rattle.std.proofs.lemmas.Iterator.{YieldsList-from_range}
use Rattle.std.proofs.lemmas.Iterator.Search.{all_from_yields_List}
use Rattle.rules.specs.Pool.{slot}
use Rattle.std.proofs.iter.Serving.{serving}
use Rattle.rules.specs.Layout.{read}
use Rattle.layout_laws.proofs.Parts.{few_slots}
use Rattle.layout_laws.proofs.Written.{read_slots}
use Rattle.sound.specs.Walked.{met_or_zero}
use Rattle.sound.proofs.Everies.{all_slots}
use Rattle.sound.proofs.Tops.{met_at}
use Rattle.sound.proofs.rest_zero.Goals as goal

pub all-requires-clause-callable : goal.all-requires-clause-callable
all-requires-clause-callable c =
    let few = few_slots c.args.pool.words.now c.args.pool.right in
    grind serving

pub returns : goal.returns
returns c =
    let w = c.args.pool.words.now in
    let seen = c.args.seen.now in
    all_from_yields_List (λ i. met_or_zero w seen (slot (i + 1))) _ _ c.all.result c.all.ensures.ran (YieldsList-from_range 0 c.slots.result c.slots.result refl (omega arith))
    (λ x b q k. let m = met_at w seen x in search (rules, tests))
    ∙ all_slots (met_or_zero w seen) (read w) c.slots.result (c.slots.ensures ∙ sym (read_slots w))
