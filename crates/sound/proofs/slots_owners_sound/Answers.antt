use Rattle.std.proofs.Common.{rules, tests, arith, ◌∙◌, ◌+◌, refl, sym}
use Rattle.std.proofs.lemmas.Iterator.{YieldsList-from_range}
use Rattle.std.proofs.lemmas.Iterator.Search.{all_from_yields_List}
use Rattle.rules.specs.Pool.{slot}
use Rattle.rules.specs.Layout.{read}
use Rattle.layout_laws.proofs.Written.{read_slots}
use Rattle.sound.specs.Walked.{owners_fit}
use Rattle.sound.proofs.Everies.{all_slots}
use Rattle.sound.proofs.slots_owners_sound.Goals as goal

pub returns : goal.returns
returns c =
    let w = c.args.pool.words.now in
    all_from_yields_List (λ i. owners_fit w (slot (i + 1))) _ _ c.all.result c.all.ensures.ran (YieldsList-from_range 0 c.slots.result c.slots.result refl (omega arith))
    (λ x b q k. search (rules, tests))
    ∙ all_slots (owners_fit w) (read w) c.slots.result (c.slots.ensures ∙ sym (read_slots w))
