use mathlib.Core.Path.{ap, ap₂, ◌∙◌}
use mathlib.Core.Bool.{◌&&◌, and_assoc}
use lib.IntN.{pos}
use native.Mathlib.Omega.{arith}
use borrow.Author.Rules.{sfits_of}
use Rattle.rules.specs.Owners.{edition_number}
use Rattle.layout_laws.proofs.Parts.{right_size}
use Rattle.pool.proofs.Lengths.{some_word}
use Rattle.pool.proofs.Naturals.{word_read}
use Rattle.pool.proofs.Tidied.{head_stands}
use Rattle.pool.proofs.node.Pool.tidy_head.Goals as goal

pub edition_of-requires : goal.edition_of-requires
edition_of-requires c = some_word c.args.self.now.words.now c.args.self.now.right

pub is_word-edition-requires : goal.is_word-edition-requires
is_word-edition-requires c = some_word c.args.self.now.words.now c.args.self.now.right

pub tidy_numbers-numbers-requires : goal.tidy_numbers-numbers-requires
tidy_numbers-numbers-requires c = omega (arith, right_size c.args.self.now.words.now c.args.self.now.right)

pub zeros-rest-requires : goal.zeros-rest-requires
zeros-rest-requires c = record {
  from_le_to = omega arith;
  to_in_bounds = omega (arith, right_size c.args.self.now.words.now c.args.self.now.right);
}

pub returns : goal.returns
returns c =
    let w = c.args.self.now.words.now in
    let told = word_read (sfits_of c.number.type_inv) (c.number.ensures ∙ ap (λ e. pos (edition_number e)) c.edition_of.ensures) in
    and_assoc c.is_word-edition.result c.tidy_numbers-numbers.result c.zeros-rest.result
    ∙ ap₂ ◌&&◌ (rw told at c.is_word-edition.ensures) (ap₂ ◌&&◌ c.tidy_numbers-numbers.ensures c.zeros-rest.ensures)
    ∙ head_stands w (omega (arith, right_size w c.args.self.now.right))
