use mathlib.Core.Path.{◌≡◌, ap, ◌∙◌}
use Prim.Native.Nat.{ℕ, ◌+◌}
use native.Mathlib.Omega.{arith}
use lib.ListN.{set}
use lib.Seq.{sets}
use lib.IntN.{pos}
use mir.Syntax.{w32}
use mir.ValLaws.{to_z_pos}
use Rattle.rules.specs.Layout.{edition_of, count_place, entry_place, entry_words}
use Rattle.layout_laws.proofs.Parts.{room}
use Rattle.pool.proofs.Lengths.{start_most}
use Rattle.pool.proofs.Stores.{spot_inside, more_stored}
use Rattle.pool.proofs.add_entry.Goals as goal

pub at-node-requires : goal.at-node-requires
at-node-requires c = c.requires.in_pool

pub spot-spot-requires : goal.spot-spot-requires
spot-spot-requires c =
    let many = rw (c.at-node.ensures.words, c.at-node.ensures.slot) at c.count-n.ensures.is in
    omega (arith, many, c.requires.s_len_bound)

pub put_entry-requires : goal.put_entry-requires
put_entry-requires c =
    let many = rw (c.at-node.ensures.words, c.at-node.ensures.slot) at c.count-n.ensures.is in
    let spot = rw (c.at-node.ensures.words, c.at-node.ensures.slot) at c.spot-spot.ensures in
    let told : c.at-node.result.edition ≡ edition_of c.args.pool.now = rw c.at-node.ensures.words at c.at-node.result.told in
    let inside = spot_inside c.requires.in_pool c.count-n.result (omega (arith, many, c.requires.s_len_bound)) in
    record { edition_in_bounds = rw (told, spot) inside; small = c.requires.small }

pub offset_bounds-pool-at : goal.offset_bounds-pool-at
offset_bounds-pool-at c =
    let at = rw (c.at-node.ensures.words, c.at-node.ensures.slot) at c.count_place-at.ensures in
    record { fits = omega (arith, at, start_most c.requires.in_pool) }

pub bounds-pool-at : goal.bounds-pool-at
bounds-pool-at c =
    let at = rw (c.at-node.ensures.words, c.at-node.ensures.slot) at c.count_place-at.ensures in
    omega (arith, at, c.put_entry.auto.pool, room c.requires.in_pool)

pub returns : goal.returns
returns c =
    let w = c.args.pool.now in
    let e = c.args.e in
    let slot = c.args.s in
    let ed = edition_of w in
    let n = c.count-n.result in
    let told : c.at-node.result.edition ≡ ed = rw c.at-node.ensures.words at c.at-node.result.told in
    let many = rw (c.at-node.ensures.words, c.at-node.ensures.slot) at c.count-n.ensures.is in
    let spot : c.spot-spot.result ≡ entry_place ed slot n =
    rw (c.at-node.ensures.words, c.at-node.ensures.slot) at c.spot-spot.ensures in
    let at : c.count_place-at.result ≡ count_place ed slot =
    rw (c.at-node.ensures.words, c.at-node.ensures.slot) at c.count_place-at.ensures in
    let z = to_z_pos w32 (n + 1) (omega (arith, c.count-n.ensures.most)) in
    let both = more_stored c.requires.fit_2 c.requires.in_pool e c.requires.s_len_bound c.requires.kind_of _
    ((λ j. set (c.put_entry.ensures j) (at j) (z j))
    ∙ (λ j. set (sets w (spot j) (entry_words (told j) e)) (count_place ed slot) (pos (n + 1)))
    ∙ ap (λ (k : ℕ). set (sets w (entry_place ed slot k) (entry_words ed e)) (count_place ed slot) (pos (k + 1))) many) in
    record { is = both.0; fit = both.1 }
