use Rattle.do_8080_branch.proofs.Laws.{provided_not, provided_so}
use Rattle.mach_tally.proofs.Laws.{sums}
use borrow.Author.Rules.{rules}
use Rattle.do_8080_branch.proofs.call_if.Goals as goal

pub returns-then-b : goal.returns-then-b
returns-then-b c = search (provided_so, rules)

pub returns : goal.returns
returns c = search (provided_not, sums, rules)
