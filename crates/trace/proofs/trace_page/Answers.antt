-- `trace_page` meets its contract. Assumes nothing.
use mathlib.Core.Path.{sym, ◌∙◌, ap, subst}
use lib.ListN.{length}
use Rattle.page.specs.Outcomes.{PageSaid, page_number}
use Rattle.trace.specs.Numbers.{SmallPage}
use Rattle.trace.proofs.Paging.{small-page, page-numbered}
use Rattle.trace.proofs.trace_page.Goals as goal

pub outcome_number-requires : goal.outcome_number-requires
outcome_number-requires c = subst (λ (x : PageSaid). SmallPage x) (sym c.read_page.ensures.answer) (small-page _ _ _ _ _)

pub returns : goal.returns
returns c = let said = c.outcome_number.ensures ∙ ap page_number c.read_page.ensures.answer in record { answer = said; buffer = c.read_page.ensures.buffer; scratch = c.read_page.ensures.scratch; rivals = page-numbered (record { table = c.args.linetable.now; start = c.args.linestart }) (record { table = c.args.pagetable.now; start = c.args.pagestart }) c.args.page.now (record { work = length c.args.work.now; reading = length c.args.reading.now; first = length c.args.first.now; second = length c.args.second.now }) c.args.out.now _ _ said c.read_page.ensures.buffer }
