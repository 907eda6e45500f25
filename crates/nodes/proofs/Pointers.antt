-- An entry's record number and its owner are those of its pointer, since the definitions look at nothing else of it.
use mathlib.Core.Path.{◌≡◌, refl}
use Rattle.rules.specs.declared.Entry.{Entry}
use Rattle.rules.specs.Pool.{number_of, owner_of}
use Rattle.nodes.specs.Reading.{pointed_number, pointed_owner}

pub number_is : (e : Entry) → pointed_number e.pointer ≡ number_of e
unfolding number_of
number_is e = refl

pub owner_is : (e : Entry) → pointed_owner e.pointer ≡ owner_of e
unfolding owner_of
owner_is e = refl
