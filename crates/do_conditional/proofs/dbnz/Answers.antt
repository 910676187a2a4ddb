use Rattle.do_conditional.proofs.Laws.{dbnz_is}
use borrow.Author.Rules.{rules}
use Rattle.do_conditional.proofs.dbnz.Goals as goal

pub returns : goal.returns
returns c = search (dbnz_is, rules)
