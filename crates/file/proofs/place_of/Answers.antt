-- A record's frame has as many bytes as its words say, at most 28.
use Rattle.file.proofs.Sizes.{place_told}
use Rattle.file.proofs.place_of.Goals as goal

pub returns : goal.returns
returns c =
    let t = place_told c.args.edition c.args.k (rw c.from.ensures c.of.ensures.words) in
    record { is = t.0; most = t.1 }
