use Rattle.do_conditional.proofs.Laws.{dbnz_while_is}
use borrow.Author.Rules.{rules}
use Rattle.do_conditional.proofs.dbnz_while.Goals as goal

pub returns : goal.returns
returns c = search (dbnz_while_is, rules)
