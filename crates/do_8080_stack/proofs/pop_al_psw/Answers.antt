use Rattle.do_8080_stack.proofs.Laws.{pop_psw_is}
use borrow.Author.Rules.{rules}
use Rattle.do_8080_stack.proofs.pop_al_psw.Goals as goal

pub returns : goal.returns
returns c = search (pop_psw_is, rules)
