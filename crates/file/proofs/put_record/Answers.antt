use mathlib.Core.Path.{ap₂, ◌∙◌}
use mathlib.Core.List.{◌++◌, map}
use Prim.Native.Nat.{ℕ}
use native.Mathlib.Omega.{arith}
use Rattle.rules.specs.Lists.{joined}
use Rattle.rules.specs.File.{word_bytes, pair_words}
use Rattle.frames.proofs.Texts.{wrote_then, wrote_as}
use Rattle.file.specs.Filling.{owner_bytes}
use Rattle.file.proofs.Sizes.{owner_long}
use Rattle.file.proofs.Frames.{start, start_next, record_text}
use Rattle.file.proofs.put_record.Goals as goal

pub put_owner-pair-requires : goal.put_owner-pair-requires
put_owner-pair-requires c =
    omega (
      arith,
      c.requires,
      start_next _ _ c.put_start-start.ensures,
      c.put_start-start.auto.file,
      owner_long c.args.edition c.args.r.owner,
    )

pub put_pair_words-requires : goal.put_pair_words-requires
put_pair_words-requires c =
    omega (
      arith,
      c.requires,
      start_next _ _ c.put_start-start.ensures,
      c.put_start-start.auto.file,
      owner_long c.args.edition c.args.r.owner,
      c.put_owner-pair.ensures.place,
      c.put_owner-pair.auto.file,
    )

pub returns : goal.returns
returns c =
    let ed = c.args.edition in
    let r = c.args.r in
    wrote_as (ap₂ (λ (k n : ℕ). start k n ++ owner_bytes ed r.owner ++ joined (map word_bytes (pair_words r))) c.of-form.ensures.kind
    c.of-form.ensures.words
    ∙ record_text ed r) (wrote_then (wrote_then c.put_start-start.ensures c.put_owner-pair.ensures) c.put_pair_words.ensures)
