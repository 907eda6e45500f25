-- The node check and the entry check call each other: 10 for each level, and between two levels the entries that are left.
use Rattle.std.proofs.Common.{◌+◌, ◌-◌, ◌*◌}
use Rattle.sound.proofs.+entries_sound_node_sound.Given as goal

abbrev pub decreases-entries_sound : goal.decreases-entries_sound
decreases-entries_sound l = 10 * l.below + 1 + (l.n - l.i)

abbrev pub decreases-node_sound : goal.decreases-node_sound
decreases-node_sound l = 10 * l.level
