use Rattle.do_interrupt.proofs.Laws.{brkv_is}
use borrow.Author.Rules.{rules}
use Rattle.do_interrupt.proofs.brkv.Goals as goal

pub returns : goal.returns
returns c = search (brkv_is, rules)
