use Rattle.mach_tally.proofs.Laws.{sums}
use Rattle.do_branch.proofs.Laws.{br_far_at_is}
use borrow.Author.Rules.{rules}
use Rattle.do_branch.proofs.br_far_at.Goals as goal

pub returns : goal.returns
returns c = search (br_far_at_is, sums, rules)
