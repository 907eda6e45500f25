use mathlib.Core.Path.{sym, ap, ◌∙◌}
use native.Mathlib.Omega.{arith}
use lib.ListN.{length}
use lib.IntN.{pos}
use Rattle.rules.specs.Owners.{owner}
use Rattle.rules.specs.Layout.{edition_of, read}
use Rattle.pool.proofs.Lengths.{some_word}
use Rattle.file.proofs.Listing.{any_in, none_second, second_count}
use Rattle.file.proofs.News.{new_carried}
use Rattle.file.proofs.count_second.Goals as goal

pub edition_of-requires : goal.edition_of-requires
edition_of-requires c = some_word c.args.pool.words.now c.args.pool.right

pub list_all-n-requires : goal.list_all-n-requires
list_all-n-requires c =
    record {
      whole = c.requires.whole;
      owner_value = any_in (edition_of c.args.pool.words.now) (sym c.edition_of.ensures ∙ c.in-Two.is) _;
      len = c.requires.len;
    }

pub count_new-requires : goal.count_new-requires
count_new-requires c = c.list_all-n.ensures.listed

pub returns-in-One : goal.returns-in-One
returns-in-One c =
    record {
      is = sym (ap length
          (none_second (edition_of c.args.pool.words.now) (read c.args.pool.words.now) (sym c.edition_of.ensures ∙ c.in-One.is)));
      most = omega arith;
    }

pub returns-in-Two : goal.returns-in-Two
returns-in-Two c =
    record {
      is = c.count_new.ensures.is
          ∙ second_count (edition_of c.args.pool.words.now) (read c.args.pool.words.now) (sym c.edition_of.ensures ∙ c.in-Two.is)
          (new_carried c.args.pool.words.now _ (owner (pos 2)) _ c.list_all-n.ensures);
      most = omega (arith, c.count_new.ensures.most, c.list_all-n.ensures.listed.few);
    }
