-- `copy` meets its contract: a turn stores one word more.
use Rattle.std.proofs.Common.{◌≡◌, ◌+◌, rules, arith, set, take, pos, w32, get_or, ap, ◌∙◌}
use Rattle.std.proofs.lemmas.List.{take_all}
use Rattle.std.proofs.lemmas.List.Edits.{sets}
use mir.Facts.{to_z-of_z}
use mir.Val.{SFits}
use native.Mathlib.Numerals.{add-one}
use Rattle.layout_laws.proofs.Runs.{sets_taken, sets_all}
use Rattle.pool.proofs.copy.Goals as goal

pub loop-i-preserved : goal.loop-i-preserved
loop-i-preserved c =
    let s = c.args.source.now in
    let i = c.loop-i.i in
    let z = get_or s i (pos 0) in
    let fits : SFits w32 z = search rules in
    let here : i ≡ 0 + i = omega arith in
    rw (to_z-of_z fits, add-one i)
    (ap (λ t. set t i z) c.loop-i.invariant ∙ ap (λ k. set (sets c.args.target.now 0 (take i s)) k z) here
    ∙ sets_taken c.args.target.now s 0 i (pos 0) (omega arith))

pub returns : goal.returns
returns c =
    let s = c.args.source.now in
    c.loop-i.invariant ∙ ap (sets c.args.target.now 0) (take_all c.loop-i.i s (omega arith)) ∙ sets_all c.args.target.now s (omega arith)
