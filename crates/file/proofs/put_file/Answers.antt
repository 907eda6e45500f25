use mathlib.Core.Path.{ap, ◌∙◌}
use native.Mathlib.Omega.{arith}
use Rattle.pool.proofs.Lengths.{some_word}
use Rattle.frames.proofs.Texts.{wrote_then, wrote_as, wrote_length}
use Rattle.file.specs.Items.{first_owner}
use Rattle.file.proofs.Sizes.{head_next}
use Rattle.file.proofs.News.{first_carried}
use Rattle.file.proofs.Frames.{file_text, file_parts}
use Rattle.file.proofs.put_file.Goals as goal

pub edition_of-edition-requires : goal.edition_of-edition-requires
edition_of-edition-requires c = some_word c.args.pool.words.now c.args.pool.right

pub put_head-first-requires : goal.put_head-first-requires
put_head-first-requires c =
    record {
      in_bounds = omega (
        arith,
        c.requires.pool_in_bounds,
        file_parts c.args.pool.words.now c.edition_of-edition.ensures (c.of.ensures.first ∙ ap first_owner c.edition_of-edition.ensures)
            (first_carried c.args.pool.words.now c.args.items.now (c.of.ensures.first ∙ ap first_owner c.edition_of-edition.ensures)
            c.requires.counts_file) c.requires.counts_file.is,
      );
      count_bound = omega (arith, c.requires.counts_file.few);
    }

pub put_records-second-requires : goal.put_records-second-requires
put_records-second-requires c =
    record {
      listed = c.requires.counts_file.first.listed;
      n_in_bounds = omega (
        arith,
        c.requires.pool_in_bounds,
        file_parts c.args.pool.words.now c.edition_of-edition.ensures (c.of.ensures.first ∙ ap first_owner c.edition_of-edition.ensures)
            (first_carried c.args.pool.words.now c.args.items.now (c.of.ensures.first ∙ ap first_owner c.edition_of-edition.ensures)
            c.requires.counts_file) c.requires.counts_file.is,
        head_next _ _ c.put_head-first.ensures,
        c.put_head-first.auto.file,
      );
    }

pub put_second-end-requires : goal.put_second-end-requires
put_second-end-requires c =
    record {
      whole = c.requires.whole;
      len = c.requires.counts_file.first.listed.long;
      pool_in_bounds = omega (
        arith,
        c.requires.pool_in_bounds,
        file_parts c.args.pool.words.now c.edition_of-edition.ensures (c.of.ensures.first ∙ ap first_owner c.edition_of-edition.ensures)
            (first_carried c.args.pool.words.now c.args.items.now (c.of.ensures.first ∙ ap first_owner c.edition_of-edition.ensures)
            c.requires.counts_file) c.requires.counts_file.is,
        head_next _ _ c.put_head-first.ensures,
        c.put_head-first.auto.file,
        c.put_records-second.ensures.place,
        wrote_length c.put_records-second.ensures,
      );
    }

pub put_start-requires : goal.put_start-requires
put_start-requires c =
    record {
      at_in_bounds = omega (
        arith,
        c.requires.pool_in_bounds,
        file_parts c.args.pool.words.now c.edition_of-edition.ensures (c.of.ensures.first ∙ ap first_owner c.edition_of-edition.ensures)
            (first_carried c.args.pool.words.now c.args.items.now (c.of.ensures.first ∙ ap first_owner c.edition_of-edition.ensures)
            c.requires.counts_file) c.requires.counts_file.is,
        head_next _ _ c.put_head-first.ensures,
        c.put_head-first.auto.file,
        c.put_records-second.ensures.place,
        wrote_length c.put_records-second.ensures,
        c.put_second-end.ensures.place,
        wrote_length c.put_second-end.ensures,
      );
      words_bound = omega arith;
    }

pub returns : goal.returns
returns c =
    (wrote_as (file_text c.args.pool.words.now c.edition_of-edition.ensures (c.of.ensures.first ∙ ap first_owner c.edition_of-edition.ensures)
    (first_carried c.args.pool.words.now c.args.items.now (c.of.ensures.first ∙ ap first_owner c.edition_of-edition.ensures)
    c.requires.counts_file) c.requires.counts_file.is)
    (wrote_then (wrote_then (wrote_then c.put_head-first.ensures c.put_records-second.ensures) c.put_second-end.ensures) c.put_start.ensures)).bytes
