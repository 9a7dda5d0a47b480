use Rattle.std.proofs.Common.{◌∙◌, arith}
use Rattle.pages.proofs.Lent.{report_is}
use Rattle.pages.proofs.report.report.Goals as goal

pub returns : goal.returns
returns c = c.report_plan.ensures ∙ report_is c.args.table.now 65535 _ c.node_count-nodes.ensures (omega arith)
