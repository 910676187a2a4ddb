use Rattle.do_8080_stack.proofs.Laws.{push_is}
use borrow.Author.Rules.{rules}
use Rattle.do_8080_stack.proofs.push.Goals as goal

pub returns : goal.returns
returns c = search (push_is, rules)
