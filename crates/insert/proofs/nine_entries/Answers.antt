-- The entries stand in the first eight places of the array, and the new one goes into the ninth.
use borrow.Author.Rules.{rules}
use Rattle.pool.specs.Reading.{entries_of}
use Rattle.insert.proofs.Nines.{nine_are}
use Rattle.insert.proofs.nine_entries.Goals as goal

pub returns : goal.returns
returns c =
    nine_are c.entries-es.result (entries_of c.args.node.now) c.args.e (search rules) c.requires
    c.entries-es.ensures.is
