use Rattle.pages.specs.Written.{written}
use Rattle.pages.proofs.Listed.{Listed}
use Rattle.pages.proofs.report.list_pages.Given as goal

abbrev pub invariant-loop-p : goal.invariant-loop-p
invariant-loop-p l = Listed l.layout l.limit l.p l.lines.used (written l.lines)
