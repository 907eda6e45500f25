use mathlib.Core.Path.{ap, ◌∙◌}
use native.Mathlib.Omega.{arith}
use Rattle.rules.specs.Layout.{edition_of}
use Rattle.pool.proofs.Lengths.{some_word}
use Rattle.file.specs.Items.{first_owner}
use Rattle.file.proofs.Listing.{first_told}
use Rattle.file.proofs.News.{counts_file}
use Rattle.file.proofs.count_file.Goals as goal

pub edition_of-requires : goal.edition_of-requires
edition_of-requires c =
    some_word c.args.pool.words.now c.args.pool.right

pub list_all-n-requires : goal.list_all-n-requires
list_all-n-requires c =
    record {
      whole = c.requires.whole;
      owner_value = first_told (edition_of c.args.pool.words.now) c.edition_of.ensures c.of.ensures.first;
      len = c.count_second-others.auto.items ∙ c.requires.len;
    }

pub count_new-requires : goal.count_new-requires
count_new-requires c = c.list_all-n.ensures.listed

pub overflow_add-count : goal.overflow_add-count
overflow_add-count c =
    omega (arith, c.count_new.ensures.most, c.list_all-n.ensures.listed.few, c.count_second-others.ensures.most)

pub returns : goal.returns
returns c =
    counts_file c.args.pool.words.now _ (c.of.ensures.first ∙ ap first_owner c.edition_of.ensures) c.list_all-n.ensures
    c.count_new.ensures.is c.count_new.ensures.most c.count_second-others.ensures.is c.count_second-others.ensures.most
