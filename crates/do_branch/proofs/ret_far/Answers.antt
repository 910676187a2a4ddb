use Rattle.mach_tally.proofs.Laws.{sums}
use Rattle.do_branch.proofs.Laws.{ret_far_is}
use borrow.Author.Rules.{rules}
use Rattle.do_branch.proofs.ret_far.Goals as goal

pub returns : goal.returns
returns c = search (ret_far_is, sums, rules)
