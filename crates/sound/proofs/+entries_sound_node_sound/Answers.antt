-- The node check and the entry check call each other.
use Rattle.std.proofs.Common.{true, arith, refl, sym, ◌∙◌, ◌<◌, ◌≤◌, length}
use Rattle.rules.specs.Pool.{entries_at}
use Rattle.rules.specs.Layout.{read}
use Rattle.rules_laws.proofs.Bools.{not_true, not_false}
use Rattle.layout_laws.proofs.Written.{read_slots}
use Rattle.sound.proofs.Nodes.{refused_part, entries_end, entry_rect, entry_no_slot, entry_refused, entry_goes, not_met}
use Rattle.sound.proofs.Nodes.{leaf_answers, inner_answers, not_plain, not_tight, as_node, no_leaf}
use Rattle.sound.proofs.+entries_sound_node_sound.Goals as goal

pub entries_sound-returns-then-n-i : goal.entries_sound-returns-then-n-i
entries_sound-returns-then-n-i t c =
    entries_end c.args.pool.words.now c.args.below c.args.s c.args.i c.args.seen.now
    (omega (arith, c.requires.n_value, c.if-n-i.true))

pub entries_sound-returns-then-k-lt1 : goal.entries_sound-returns-then-k-lt1
entries_sound-returns-then-k-lt1 t c =
    let w = c.args.pool.words.now in
    let s = c.args.s in
    let i = c.args.i in
    let here : i < length (entries_at (read w) s) = omega (arith, c.requires.n_value, c.if-n-i.false) in
    entry_no_slot w c.args.below s i here c.child-c.result c.child-c.ensures (λ k. omega (arith, k.low, c.if-k-lt1.true))
    c.args.seen.now

pub entries_sound-returns-then-slots-k : goal.entries_sound-returns-then-slots-k
entries_sound-returns-then-slots-k t c =
    let w = c.args.pool.words.now in
    let s = c.args.s in
    let i = c.args.i in
    let here : i < length (entries_at (read w) s) = omega (arith, c.requires.n_value, c.if-n-i.false) in
    entry_no_slot w c.args.below s i here c.child-c.result c.child-c.ensures
    (λ k. omega (arith, k.high, read_slots w, c.requires.slots_value, c.if-slots-k.true)) c.args.seen.now

pub entries_sound-returns-then-not-node_sound : goal.entries_sound-returns-then-not-node_sound
entries_sound-returns-then-not-node_sound t c =
    let w = c.args.pool.words.now in
    let s = c.args.s in
    let i = c.args.i in
    let here : i < length (entries_at (read w) s) = omega (arith, c.requires.n_value, c.if-n-i.false) in
    entry_refused w c.args.below s i here c.child-c.result c.child-c.ensures c.rect-want.result
    (c.rect-want.ensures ∙ entry_rect (read w) s i) c.node_sound.ensures c.if-not-node_sound.true

pub entries_sound-returns : goal.entries_sound-returns
entries_sound-returns t c =
    let w = c.args.pool.words.now in
    let s = c.args.s in
    let i = c.args.i in
    let here : i < length (entries_at (read w) s) = omega (arith, c.requires.n_value, c.if-n-i.false) in
    entry_goes w c.args.below s i here c.child-c.result c.child-c.ensures c.rect-want.result
    (c.rect-want.ensures ∙ entry_rect (read w) s i) c.node_sound.ensures c.if-not-node_sound.false c.entries_sound.ensures

pub node_sound-returns-then-not-meet : goal.node_sound-returns-then-not-meet
node_sound-returns-then-not-meet t c =
    refused_part refl (λ n. n.below)
    (not_met c.requires.in_pool c.args.level c.requires.le_level c.if-not-meet.true c.meet.ensures)

pub node_sound-returns-then-not-same_rect : goal.node_sound-returns-then-not-same_rect
node_sound-returns-then-not-same_rect t c =
    not_tight c.look-looked.result.cover c.look-looked.ensures.cover (sym c.same_rect.ensures ∙ c.if-not-same_rect.true)

pub node_sound-returns-then-not-looked : goal.node_sound-returns-then-not-looked
node_sound-returns-then-not-looked t c = not_plain (sym c.look-looked.ensures.plain ∙ not_true _ c.if-not-looked.true)

pub node_sound-returns-then-level-eq1 : goal.node_sound-returns-then-level-eq1
node_sound-returns-then-level-eq1 t c =
    as_node c.look-looked.result.cover c.look-looked.ensures.cover (omega (arith, c.count-n.ensures.is, c.if-n-lt-LEAST.false))
    (sym c.same_rect.ensures ∙ c.if-not-same_rect.false)
    (rw c.if-level-eq1.true
    (leaf_answers c.requires.in_pool c.if-not-meet.false (rw c.if-level-eq1.true at c.meet.ensures) true
    (sym (not_false _ c.if-not-looked.false) ∙ c.look-looked.ensures.plain)))

pub node_sound-entries_sound-requires : goal.node_sound-entries_sound-requires
node_sound-entries_sound-requires t c =
    let met = c.meet.ensures in
    let count = c.count-n.ensures.is in
    let two : 2 ≤ c.args.level = omega (arith, c.if-level-eq1.false, c.requires.le_level) in (
      omega (arith, c.decreases, c.requires.le_level, c.count-n.ensures.most),
      (
        c.requires.in_pool,
        (
          c.requires.edition_value,
          (
            c.requires.slots_value,
            (
              (met.marked c.if-not-meet.false).size ∙ c.requires.seen_len,
              (omega arith, (no_leaf _ c.args.level (met.yes c.if-not-meet.false).level two, count)),
            ),
          ),
        ),
      ),
    )

pub node_sound-returns : goal.node_sound-returns
node_sound-returns t c =
    let two : 2 ≤ c.args.level = omega (arith, c.if-level-eq1.false, c.requires.le_level) in
    as_node c.look-looked.result.cover c.look-looked.ensures.cover (omega (arith, c.count-n.ensures.is, c.if-n-lt-LEAST.false))
    (sym c.same_rect.ensures ∙ c.if-not-same_rect.false)
    (inner_answers c.requires.in_pool c.args.level two c.if-not-meet.false c.meet.ensures c.entries_sound.ensures)
