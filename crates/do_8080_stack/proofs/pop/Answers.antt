use Rattle.do_8080_stack.proofs.Laws.{pop_is}
use borrow.Author.Rules.{rules}
use Rattle.do_8080_stack.proofs.pop.Goals as goal

pub returns : goal.returns
returns c = search (pop_is, rules)
