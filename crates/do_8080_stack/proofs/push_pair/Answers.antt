use Rattle.do_8080_stack.proofs.Laws.{push_pair_is}
use borrow.Author.Rules.{rules}
use Rattle.do_8080_stack.proofs.push_pair.Goals as goal

pub returns : goal.returns
returns c = search (push_pair_is, rules)
