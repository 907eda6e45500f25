use Rattle.frames.proofs.Fields.{Listed}
use Rattle.frames.proofs.reply_lines.Given as goal

-- the lines of so many records are written
abbrev pub invariant-loop-record : goal.invariant-loop-record
invariant-loop-record l = Listed l.record-index l.initial.lines l.record-items l.lines
