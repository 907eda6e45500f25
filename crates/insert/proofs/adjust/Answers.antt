-- `insert::adjust` meets its contract: by what became of the child: the entry is made tight, and a partner comes to the node itself.
use Rattle.insert.proofs.Steps.{back_one, two_ready, two_here, back_two}
use Rattle.insert.proofs.adjust.Goals as goal

pub install-requires : goal.install-requires
install-requires c =
    let w = c.args.pool.now in
    record {
      fitted = two_ready w c.args.s c.args.i c.args.new c.args.grown c.requires c.in-Some.partner c.in-Some.is c.tighten.new.pool
          c.tighten.ensures.fit c.tighten.ensures.is;
      here = two_here w c.args.s c.args.i c.args.new c.args.grown c.requires c.in-Some.partner c.in-Some.is c.tighten.new.pool
          c.tighten.ensures.fit c.tighten.ensures.is;
    }

pub returns-in_default : goal.returns-in_default
returns-in_default c =
    back_one c.args.pool.now c.args.s c.args.i c.args.new c.args.grown c.requires c.in_default.is c.widen.new.pool c.widen.ensures.fit
    c.widen.ensures.is

pub returns : goal.returns
returns c =
    back_two c.args.pool.now c.args.s c.args.i c.args.new c.args.grown c.requires c.in-Some.partner c.in-Some.is c.tighten.new.pool
    c.tighten.ensures.fit c.tighten.ensures.is c.install.result c.install.new.pool c.install.ensures
