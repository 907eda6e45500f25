use mathlib.Core.Path.{sym, ap, ◌∙◌}
use mathlib.Core.List.{List, map}
use native.Mathlib.Omega.{arith}
use lib.ListN.{length}
use lib.IntN.{pos}
use Rattle.rules.specs.declared.Record.{Record}
use Rattle.rules.specs.Lists.{joined}
use Rattle.rules.specs.Owners.{owner}
use Rattle.rules.specs.Layout.{edition_of, read}
use Rattle.rules.specs.File.{record_frame}
use Rattle.rules_laws.proofs.Joins.{joined_none}
use Rattle.pool.proofs.Lengths.{some_word}
use Rattle.frames.proofs.Texts.{nothing_wrote, wrote_as}
use Rattle.file.proofs.Listing.{any_in, none_second, second_text}
use Rattle.file.proofs.News.{new_carried}
use Rattle.file.proofs.put_second.Goals as goal

pub edition_of-requires : goal.edition_of-requires
edition_of-requires c = some_word c.args.pool.words.now c.args.pool.right

pub list_all-n-requires : goal.list_all-n-requires
list_all-n-requires c =
    record {
      whole = c.requires.whole;
      owner_value = any_in (edition_of c.args.pool.words.now) (sym c.edition_of.ensures ∙ c.in-Two.is) _;
      len = c.requires.len;
    }

pub put_records-requires : goal.put_records-requires
put_records-requires c =
    record {
      listed = c.list_all-n.ensures.listed;
      n_in_bounds = omega (
        arith,
        c.requires.pool_in_bounds,
        ap length
            (second_text (edition_of c.args.pool.words.now) (read c.args.pool.words.now) (sym c.edition_of.ensures ∙ c.in-Two.is)
            (new_carried c.args.pool.words.now _ (owner (pos 2)) _ c.list_all-n.ensures)),
      );
    }

pub returns-in-One : goal.returns-in-One
returns-in-One c =
    wrote_as (sym (ap (λ (l : List Record). joined (map (record_frame (edition_of c.args.pool.words.now)) l))
    (none_second (edition_of c.args.pool.words.now) (read c.args.pool.words.now) (sym c.edition_of.ensures ∙ c.in-One.is))
    ∙ joined_none (record_frame (edition_of c.args.pool.words.now)))) (nothing_wrote c.args.file.now c.args.at)

pub returns-in-Two : goal.returns-in-Two
returns-in-Two c =
    wrote_as (second_text (edition_of c.args.pool.words.now) (read c.args.pool.words.now)
    (sym c.edition_of.ensures ∙ c.in-Two.is) (new_carried c.args.pool.words.now _ (owner (pos 2)) _ c.list_all-n.ensures))
    c.put_records.ensures
