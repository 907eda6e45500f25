-- A whole pool with records of its edition's owners, written and read, is itself, since each of its slots can be written and read.
use mathlib.Core.Path.{◌≡◌}
use mathlib.Core.Bool.{true}
use mathlib.Core.List.{List}
use Rattle.rules.specs.declared.Record.{Record}
use Rattle.rules.specs.Pool.{Pool}
use Rattle.rules.specs.Layout.{words, read}
use Rattle.rules.specs.Sound.{owners_sound}
use Rattle.sound_laws.specs.Tree.{Whole}
use Rattle.layout_laws.proofs.Written.{read_words}
use Rattle.in_force_laws.specs.Shows.{HoldsRecords}
use Rattle.in_force_laws.proofs.Owned.{holds_owners}
use Rattle.in_force_laws.proofs.Pointers.{whole_fine}

pub whole_reads : (p : Pool) → Whole p → owners_sound p ≡ true → read (words p) ≡ p
whole_reads p w h = read_words p (whole_fine p h w)

pub holds_reads : (p : Pool) (rs : List Record) → HoldsRecords p rs → read (words p) ≡ p
holds_reads p rs k = whole_reads p k.whole (holds_owners p rs k)
