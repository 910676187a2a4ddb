use Rattle.do_mode.proofs.Laws.{reti_is}
use borrow.Author.Rules.{rules}
use Rattle.do_mode.proofs.reti.Goals as goal

pub returns : goal.returns
returns c = search (reti_is, rules)
