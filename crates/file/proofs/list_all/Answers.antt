use mathlib.Core.Path.{ap, ◌∙◌}
use mathlib.Core.List.{List, map}
use native.Mathlib.Omega.{arith}
use Rattle.rules.specs.declared.Record.{Record}
use Rattle.rules.specs.Owners.{as_found}
use Rattle.rules.specs.Search.{ordered}
use Rattle.found_items.proofs.Words.{shown_items}
use Rattle.file.proofs.Listing.{few_found, few_own, all_ordered}
use Rattle.file.proofs.list_all.Goals as goal

pub list-w-requires : goal.list-w-requires
list-w-requires c =
    let few = few_found c.args.pool.words.now c.args.pool.right c.requires.whole c.whole_site-site.result in
    record {
      whole = c.requires.whole;
      owner_value = c.requires.owner_value;
      window_in_bounds = omega (arith, few, c.requires.len);
    }

pub sort-requires : goal.sort-requires
sort-requires c =
    let few = few_own c.args.pool.words.now c.args.pool.right c.requires.whole c.args.owner c.whole_site-site.result in
    record {
      n_in_bounds = omega (arith, few, c.requires.len, c.list-w.ensures.found, c.list-w.ensures.long);
      pointing_2 = c.list-w.ensures.pointing;
    }

pub returns : goal.returns
returns c =
    let w = c.args.pool.words.now in
    let o = c.args.owner in
    record {
      listed = record {
        few = omega (arith, few_own w c.args.pool.right c.requires.whole o c.whole_site-site.result, c.list-w.ensures.found);
        long = c.sort.ensures.long ∙ c.list-w.ensures.long ∙ c.requires.len;
        pointing = c.sort.ensures.pointing;
      };
      is = c.sort.ensures.sorted
          ∙ ap ordered (shown_items w _ 0 _ ∙ ap (λ (rs : List Record). map as_found rs) c.list-w.ensures.listed)
          ∙ all_ordered w c.args.pool.right c.requires.whole o c.whole_site-site.result c.whole_site-site.ensures;
    }
