-- `load_records`: a turn puts one record in; the last frame decides.
use mathlib.Core.Path.{◌≡◌, ap}
use native.Mathlib.Omega.{arith}
use Rattle.std.proofs.lemmas.Result.{err_from_is_err_and}
use Rattle.file.specs.Loading.{place_of}
use Rattle.file.proofs.Takes.{starts, next, stopped, ended}
use Rattle.file.proofs.load_records.Goals as goal

pub over-requires : goal.over-requires
over-requires c = c.requires.fit.0.right

pub loop-k-init : goal.loop-k-init
loop-k-init c =
    starts c.args.edition c.args.pool.now c.args.file.now c.args.count _ c.requires.fit.0
    c.requires.pool_value c.requires.fit.1 (rw c.over.ensures at c.free_slots-free.ensures) c.requires.in_bounds

pub take_record-requires : goal.take_record-requires
take_record-requires c =
    record {
      fit = (c.loop-k.invariant.fit, c.loop-k.invariant.whole, c.loop-k.invariant.known);
      pool_value = c.loop-k.invariant.edition;
      k_in_bounds = c.loop-k.invariant.here;
      k_bound = omega (arith, c.loop-k-test.true, c.requires.count_bound);
    }

pub returns-in_err-free : goal.returns-in_err-free
returns-in_err-free c =
    let p = err_from_is_err_and c.from_residual.result c.from_residual.ensures.1 in
    rw (p.1, p.2) (stopped c.args.edition c.args.pool.now c.args.file.now c.args.count c.loop-k.pool c.loop-k.k _
    c.loop-k.invariant c.loop-k-test.true c.in_err-free.field-0.0 c.take_record.new.pool c.in_err-free.ensures c.take_record.new.pool)

pub loop-k-preserved : goal.loop-k-preserved
loop-k-preserved c =
    next c.args.edition c.args.pool.now c.args.file.now c.args.count c.loop-k.pool c.loop-k.k _ c.loop-k.invariant
    c.loop-k-test.true c.in_ok-free.free c.take_record.new.pool c.in_ok-free.ensures c.take_record.auto.pool

pub place_of-requires : goal.place_of-requires
place_of-requires c = c.requires.count_bound

pub check_end-requires : goal.check_end-requires
check_end-requires c =
    let at : c.args.count ≡ c.loop-k.k = omega (arith, c.loop-k.invariant.left, c.loop-k-test.false) in
    omega (arith, c.place_of.ensures.is, ap (place_of c.args.edition) at, c.loop-k.invariant.here)

pub returns : goal.returns
returns c =
    let at : c.args.count ≡ c.loop-k.k = omega (arith, c.loop-k.invariant.left, c.loop-k-test.false) in
    rw (c.check_end.ensures, c.place_of.ensures.is, ap (place_of c.args.edition) at)
    (ended c.args.edition c.args.pool.now c.args.file.now c.args.count c.loop-k.pool c.loop-k.k _ c.loop-k.invariant
    c.loop-k-test.false)
