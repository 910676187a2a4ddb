use Rattle.do_8080_branch.proofs.Laws.{pchl_is}
use Rattle.mach_tally.proofs.Laws.{sums}
use borrow.Author.Rules.{rules}
use Rattle.do_8080_branch.proofs.pchl.Goals as goal

pub returns : goal.returns
returns c = search (pchl_is, sums, rules)
