-- "of one of the four kinds": a kind from 1 to 6.
use Rattle.std.proofs.Common.{rules, ◌≡◌, ◌&&◌, ◌∙◌, ap, ℤ, pos, to_z, of_z, w32}
use Rattle.std.specs.Int.Signed.{le_z}
use Rattle.batch.proofs.Verdicts.{all_kinds}
use Rattle.batch.proofs.is_request.Goals as goal

pub returns : goal.returns
returns c =
    let q = c.args.q in
    let told : to_z w32 (of_z w32 q.kind) ≡ q.kind = search rules in
    ap (λ (k : ℤ). le_z (pos 1) k && le_z k (pos 6)) told ∙ all_kinds q
