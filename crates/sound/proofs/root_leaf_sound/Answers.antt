use mathlib.Core.Path.{sym}
use native.Mathlib.Omega.{arith}
use Rattle.rules.specs.Pool.{entries_at}
use Rattle.rules.specs.Layout.{read}
use Rattle.sound.proofs.Everies.{every_none}
use Rattle.sound.specs.Walked.{plain_entry}
use Rattle.sound.proofs.root_leaf_sound.Goals as goal

pub returns-then-count-eq0 : goal.returns-then-count-eq0
returns-then-count-eq0 c =
    sym (every_none plain_entry (entries_at (read c.args.node.now.words.now) c.args.node.now.slot) 0 (omega (arith, c.count.ensures.is, c.if-count-eq0.true)))
