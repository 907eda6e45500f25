-- `pool::zero_words` meets its contract: a part filled with zeros is a run of stores.
use Rattle.std.proofs.Common.{◌≡◌, ◌-◌, rules, arith, length, take, drop, replicate, pos, ap, ◌∙◌, length-take-le, length-drop}
use Rattle.std.proofs.lemmas.List.{length-replicate}
use Rattle.pool.proofs.Stores.{part_put}
use Rattle.pool.proofs.zero_words.Goals as goal

pub returns : goal.returns
returns c =
    let w = c.args.pool.now in
    let from = c.args.from in
    let n = c.args.to - from in
    let size : length (take n (drop from w)) ≡ n = length-take-le n (drop from w) (omega (arith, length-drop from w)) in
    let filled : c.fill.new.self ≡ replicate (length (take n (drop from w))) (pos 0) = search rules in
    part_put w (replicate n (pos 0)) _ from n (filled ∙ ap (λ k. replicate k (pos 0)) size) (omega (arith, length-replicate n (pos 0))) (omega arith)
