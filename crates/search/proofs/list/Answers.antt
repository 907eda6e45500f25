-- What a search of the mode lists, and of it the owner's records: in edition 1 these are all.
use Rattle.std.proofs.Common.{◌≡◌, ◌∙◌, arith, drop, refl, rules, sym}
use Rattle.std.specs.Ordering.{int_eq}
use Rattle.rules.proofs.Derived.{number_same}
use Rattle.rules.specs.Owners.{owned_by}
use Rattle.rules.specs.Layout.{edition_of, owner_at, read}
use Rattle.found_items.specs.Items.{spot_at}
use Rattle.search.proofs.Keeping.{owned_item}
use Rattle.pool.proofs.Lengths.{some_word}
use Rattle.search.proofs.Listing.{listed_room, lists_kept, lists_nobodys, wanted_fewer}
use Rattle.search.proofs.list.Goals as goal

pub edition_of-requires : goal.edition_of-requires
edition_of-requires c =
    some_word c.args.pool.words.now c.args.pool.right

pub keep-next-requires-clause-n_in_bounds : goal.keep-next-requires-clause-n_in_bounds
keep-next-requires-clause-n_in_bounds c =
    let fewer = wanted_fewer (read c.args.pool.words.now) c.args.mode c.args.window in
    listed_room c.list_wanted-all.ensures (omega (arith, fewer, c.requires.window_in_bounds))

pub returns-in-One : goal.returns-in-One
returns-in-One c =
    lists_nobodys c.list_wanted-all.ensures c.args.owner
    (sym c.edition_of.ensures ∙ c.in-One.is) c.requires.owner_value

pub returns-in-Two : goal.returns-in-Two
returns-in-Two c =
    let pool = c.args.pool.words.now in
    let o = c.args.owner in
    let items = c.list_wanted-all.new.items in
    lists_kept c.list_wanted-all.ensures
    (c.keep-next.ensures pool (owned_by o) c.list_wanted-all.ensures.pointing (λ k b h q.
    let z = owner_at (edition_of pool) (drop (spot_at items k) pool) in
    let is : b ≡ int_eq z o.0 = search rules in
    is ∙ number_same z o.0 ∙ owned_item pool items k o (spot_at items k) z refl refl))
