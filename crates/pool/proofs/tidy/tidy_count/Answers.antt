-- A count from 0 to 8 is read as it is.
use Rattle.std.proofs.Common.{◌≡◌, rules, ◌&&◌, pos, ◌∙◌}
use Rattle.std.specs.Int.Signed.{le_z}
use Rattle.rules.specs.Numbers.{most}
use Rattle.rules.specs.Layout.{word_at}
use Rattle.pool.proofs.Stand.{count_same}
use Rattle.pool.proofs.tidy.tidy_count.Goals as goal

pub returns : goal.returns
unfolding word_at
returns c =
    let z = word_at c.args.pool.now c.args.at in
    let inside : c.contains.result ≡ (le_z (pos 0) z && le_z z (pos most)) = search rules in
    inside ∙ count_same most z
