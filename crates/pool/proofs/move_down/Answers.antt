-- `pool::move_down` meets its contract: a turn stores one word more, of those that are not stored over yet.
use Rattle.std.proofs.Common.{◌≡◌, ◌+◌, ◌-◌, rules, arith, set, take, drop, pos, w32, get_or, ap, ap₂, sym, ◌∙◌, length-drop, length-take}
use Rattle.std.proofs.lemmas.List.Edits.{sets}
use lib.Seq.{get_or-drop}
use mir.Facts.{to_z-of_z}
use mir.Val.{SFits}
use Prim.Native.Nat.{suc}
use Rattle.layout_laws.proofs.Runs.{sets_taken, after_sets}
use Rattle.pool.proofs.move_down.Goals as goal

pub loop-k-preserved : goal.loop-k-preserved
loop-k-preserved c =
    let w = c.args.pool.now in
    let from = c.args.from in
    let by = c.args.by in
    let k = c.loop-k.k in
    let vs = drop (from + by) w in
    let done = take (k - from) vs in
    let z = get_or c.loop-k.pool (k + by) (pos 0) in
    let fits : SFits w32 z = search rules in
    let place : k + by ≡ from + by + (k - from) = omega arith in
    let here : k ≡ from + (k - from) = omega arith in
    let next : suc (k - from) ≡ k + 1 - from = omega arith in
    let read : z ≡ get_or vs (k - from) (pos 0) =
    ap (λ v. get_or v (k + by) (pos 0)) c.loop-k.invariant
    ∙ after_sets done w from (k + by) (pos 0) (omega (arith, length-take (k - from) vs))
    ∙ ap (λ j. get_or w j (pos 0)) place
    ∙ sym (get_or-drop (from + by) w (k - from) (pos 0)) in
    rw (to_z-of_z fits, read)
    (ap₂ (λ v j. set v j (get_or vs (k - from) (pos 0))) c.loop-k.invariant here
    ∙ sets_taken w vs from (k - from) (pos 0) (omega (arith, length-drop (from + by) w))
    ∙ ap (λ n. sets w from (take n vs)) next)

pub returns : goal.returns
returns c =
    let w = c.args.pool.now in
    let all : c.loop-k.k ≡ c.args.to = omega arith in
    c.loop-k.invariant ∙ ap (λ n. sets w c.args.from (take (n - c.args.from) (drop (c.args.from + c.args.by) w))) all
