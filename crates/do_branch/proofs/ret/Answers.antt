use Rattle.do_branch.proofs.Laws.{ret_is}
use borrow.Author.Rules.{rules}
use Rattle.do_branch.proofs.ret.Goals as goal

pub returns : goal.returns
returns c = search (ret_is, rules)
