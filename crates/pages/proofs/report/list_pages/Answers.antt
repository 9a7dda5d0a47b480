use Rattle.std.proofs.Common.{arith}
use Rattle.pages.specs.Listing.{line_of}
use Rattle.pages.proofs.Listed.{listed_start, listed_turn, listed_end}
use Rattle.pages.proofs.report.list_pages.Goals as goal

pub loop-p-init : goal.loop-p-init
loop-p-init c = listed_start _ _ (rw c.requires.empty at c.put_head.ensures.written) (omega arith)

pub loop-p-preserved : goal.loop-p-preserved
unfolding line_of
loop-p-preserved c =
    listed_turn _ _ c.loop-p.invariant (omega arith) c.put_page.ensures.written c.put_page.ensures.upper_bound

-- no page
pub returns : goal.returns
returns c = listed_end _ _ c.loop-p.invariant (omega arith)

-- after the last one
pub returns-2 : goal.returns-2
unfolding line_of
returns-2 c =
    listed_end _ _
    (listed_turn _ _ c.loop-p.invariant (omega arith) c.put_page.ensures.written c.put_page.ensures.upper_bound)
    (omega arith)
