-- The walk in mode meeting, and of what it lists the records that the mode wants.
use Rattle.std.proofs.Common.{◌≡◌, ◌∙◌, drop, refl, rules}
use Rattle.rules.specs.Compare.{compared, wanted}
use Rattle.rules.specs.Layout.{rect_of}
use Rattle.found_items.specs.Items.{spot_at}
use Rattle.search.proofs.Keeping.{wanted_item}
use Rattle.search_laws.specs.Window.{record_wanted}
use Rattle.search.proofs.Listing.{finds_wanted}
use Rattle.search.proofs.list_wanted.Goals as goal

pub returns-in-OnlyInside : goal.returns-in-OnlyInside
returns-in-OnlyInside c =
    let pool = c.args.pool.words.now in
    let mode = c.args.mode in
    let window = c.args.window in
    let items = c.list_meeting-w.new.items in
    let listed = c.list_meeting-w.ensures in
    finds_wanted mode listed
    (c.keep-next.ensures pool (record_wanted mode window) listed.pointing (λ k b h q.
    let r = rect_of (drop (spot_at items k) pool) in
    let is : b ≡ wanted mode (compared r window) = search rules in
    is ∙ wanted_item pool items k mode window (spot_at items k) r refl refl))
