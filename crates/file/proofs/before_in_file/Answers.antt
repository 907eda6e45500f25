use mathlib.Core.Path.{ap₂, ◌∙◌}
use mir.Syntax.{w32}
use mir.Facts.{to_z-of_z}
use borrow.Author.Rules.{sfits_of}
use Rattle.rules.specs.Search.{before}
use Rattle.rules.specs.File.{before_in_file}
use Rattle.rules_laws.proofs.Rules.{by_rule}
use Rattle.file.proofs.before_in_file.Goals as goal

pub returns : goal.returns
unfolding before_in_file
returns c =
    let p = to_z-of_z {w = w32} {z = c.args.a.owner.0} (sfits_of c.struct_told-1.given.0.1) in
    let q = to_z-of_z {w = w32} {z = c.args.b.owner.0} (sfits_of c.struct_told-2-1.given.0.1) in
    by_rule p q c.less_then.ensures (c.record_before-next.ensures ∙ ap₂ before c.as_found.ensures c.as_found-2.ensures)
