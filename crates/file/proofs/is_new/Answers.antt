use mathlib.Core.Path.{◌∙◌}
use Prim.Native.Nat.{◌-◌, ◌<◌}
use native.Mathlib.Omega.{arith}
use Rattle.file.proofs.News.{new_first, new_later, item_words_lem, item_spot}
use Rattle.file.proofs.is_new.Goals as goal

pub returns-then-k-eq0 : goal.returns-then-k-eq0
returns-then-k-eq0 c = new_first c.args.pool.now c.args.items.now c.args.k c.if-k-eq0.true

pub item_before-requires : goal.item_before-requires
item_before-requires c =
    let p = c.args.pool.now in
    let i = c.args.items.now in
    let n = c.args.n in
    let l : c.args.k - 1 < n = omega (arith, c.requires.k_lt_n) in record {
      a_in_bounds = item_words_lem p i n (c.args.k - 1) c.requires.listed l;
      b_in_bounds = item_words_lem p i n c.args.k c.requires.listed c.requires.k_lt_n;
      a_in_bounds_2 = item_spot p i n (c.args.k - 1) c.requires.listed l;
      b_in_bounds_2 = item_spot p i n c.args.k c.requires.listed c.requires.k_lt_n;
    }

pub returns : goal.returns
returns c =
    c.item_before.ensures ∙ new_later c.args.pool.now c.args.items.now c.args.k c.if-k-eq0.false
