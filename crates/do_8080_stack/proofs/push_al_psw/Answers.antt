use Rattle.do_8080_stack.proofs.Laws.{push_psw_is}
use borrow.Author.Rules.{rules}
use Rattle.do_8080_stack.proofs.push_al_psw.Goals as goal

pub returns : goal.returns
returns c = search (push_psw_is, rules)
