-- `reply_lines`: a turn writes the line of one record more.
use Rattle.frames.proofs.Fields.{lines_none, lines_more, lines_all}
use native.Mathlib.Omega.{arith}
use borrow.Author.Rules.{rules}
use mathlib.Core.Path.{sym}
use Prim.Native.Nat.{suc}
use Rattle.frames.proofs.reply_lines.Goals as goal

pub loop-record-init : goal.loop-record-init
loop-record-init c = lines_none c.args.found.now

pub loop-record-preserved : goal.loop-record-preserved
loop-record-preserved c =
    lines_more _ c.loop-record.record-index _ (omega arith) c.loop-record.invariant c.record.ensures

pub returns : goal.returns
returns c =
    let a = lines_all (suc c.args.before) c.args.answer c.args.found.now (search rules)
    c.listed_of-listed.ensures (omega arith) c.loop-record.auto.record-index-end c.answer.ensures
    c.loop-record.invariant in
    let w = a.wrote in
    let same = sym a.same in
    record { wrote = search rules; short = omega (arith, a.short) }
