use Rattle.do_interrupt.proofs.Laws.{brk_is}
use borrow.Author.Rules.{rules}
use Rattle.do_interrupt.proofs.brk.Goals as goal

pub returns : goal.returns
returns c = search (brk_is, rules)
