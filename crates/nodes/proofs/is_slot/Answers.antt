-- The slots are counted from 1, and the pool that is read has as many as the words.
use Rattle.std.proofs.Common.{◌≡◌, rules, ◌&&◌, nat_le}
use Rattle.rules.specs.Sound.{is_slot}
use Rattle.layout_laws.proofs.Written.{read_slots}
use Rattle.nodes.proofs.is_slot.Goals as goal

pub returns : goal.returns
unfolding is_slot
returns c =
    let within : c.contains.result ≡ (nat_le 1 c.args.s.0 && nat_le c.args.s.0 c.slot_count.result) = search rules in
    rw (c.slot_count.ensures, ← (read_slots c.args.pool.now)) at within
