use Rattle.do_stack.proofs.Laws.{push_register_is}
use borrow.Author.Rules.{rules}
use Rattle.do_stack.proofs.push_register.Goals as goal

pub returns : goal.returns
returns c = search (push_register_is, rules)
