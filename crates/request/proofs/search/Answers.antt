use mathlib.Core.Path.{sym, ◌∙◌}
use native.Mathlib.Omega.{arith}
use Rattle.rules_laws.proofs.Bools.{not_true, not_false}
use Rattle.request.proofs.Turns.{ready_whole}
use Rattle.request.proofs.Listing.{walk_room, own_room, own_small, owner_in_pool, search_bad, search_full, search_done}
use Rattle.rules.specs.declared.Mode.TheVariants.{Meeting}
use Rattle.request.proofs.search.Goals as goal

pub returns-then-not-valid : goal.returns-then-not-valid
returns-then-not-valid c =
    rw c.told.ensures
    (search_bad c.args.pool.words.now c.args.free c.requires.ready c.args.mode c.args.window c.args.owner
    c.args.filled c.args.room _ c.requires.work_len (sym c.valid.ensures ∙ not_true _ c.if-not-valid.true-raw))

pub list-w-requires : goal.list-w-requires
list-w-requires c =
    let w = c.args.pool.words.now in record {
      whole = ready_whole w c.args.free c.requires.ready;
      owner_value = owner_in_pool w c.args.owner c.requires.owner_value;
      window_in_bounds = omega (arith, walk_room w c.args.free c.requires.ready Meeting c.args.window, c.requires.work_len);
    }

pub overflow_cast-found : goal.overflow_cast-found
overflow_cast-found c =
    record {
      fits = omega (
        arith,
        own_small c.args.pool.words.now c.args.free c.requires.ready c.args.mode c.args.window c.args.owner,
        c.list-w.ensures.found,
      );
    }

pub reported-opened-requires : goal.reported-opened-requires
reported-opened-requires c = c.list-w.ensures.most

pub returns-then-room-w : goal.returns-then-room-w
returns-then-room-w c =
    rw c.told-then-room-w.ensures
    (search_full c.args.pool.words.now c.args.free c.requires.ready c.args.mode c.args.window c.args.owner
    c.args.filled c.args.room _ (c.list-w.ensures.long ∙ c.requires.work_len) (sym c.valid.ensures ∙ not_false _ c.if-not-valid.false-raw)
    _ _ c.list-w.ensures.found c.list-w.ensures.opened _ c.reported-opened.ensures c.if-room-w.true)

pub sort-requires : goal.sort-requires
sort-requires c =
    record {
      n_in_bounds = omega (
        arith,
        own_room c.args.pool.words.now c.args.free c.requires.ready c.args.mode c.args.window c.args.owner,
        c.list-w.ensures.found,
        c.list-w.ensures.long,
        c.requires.work_len,
      );
      pointing_2 = c.list-w.ensures.pointing;
    }

pub returns : goal.returns
returns c =
    search_done c.args.pool.words.now c.args.free c.requires.ready c.args.mode c.args.window c.args.owner
    c.args.filled c.args.room _ (c.sort.ensures.long ∙ c.list-w.ensures.long ∙ c.requires.work_len)
    (sym c.valid.ensures ∙ not_false _ c.if-not-valid.false-raw) _ _ c.list-w.ensures.found c.list-w.ensures.opened _ c.reported-opened.ensures
    c.if-room-w.false _ c.list-w.ensures.listed c.sort.ensures.sorted c.sort.ensures.pointing _ c.answer_of.ensures
