use Rattle.do_branch.proofs.Laws.{ret_far_pop_is}
use borrow.Author.Rules.{rules}
use Rattle.do_branch.proofs.ret_far_pop.Goals as goal

pub returns : goal.returns
returns c = search (ret_far_pop_is, rules)
