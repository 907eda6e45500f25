use Rattle.rules.specs.File.{record_kind}
use Rattle.file.specs.Items.{first_owner}
use Rattle.file.proofs.FileForm.of.Goals as goal

pub returns-in-One-clause-kind : goal.returns-in-One-clause-kind
unfolding record_kind
returns-in-One-clause-kind c = rw c.in-One.is

pub returns-in-One-clause-first : goal.returns-in-One-clause-first
unfolding first_owner
returns-in-One-clause-first c = rw c.in-One.is

pub returns-in-Two-clause-kind : goal.returns-in-Two-clause-kind
unfolding record_kind
returns-in-Two-clause-kind c = rw c.in-Two.is

pub returns-in-Two-clause-first : goal.returns-in-Two-clause-first
unfolding first_owner
returns-in-Two-clause-first c = rw c.in-Two.is
