use Rattle.do_8080_stack.proofs.Laws.{pop_pair_is}
use borrow.Author.Rules.{rules}
use Rattle.do_8080_stack.proofs.pop_pair.Goals as goal

pub returns : goal.returns
returns c = search (pop_pair_is, rules)
