use Rattle.mach_tally.proofs.Laws.{sums}
use Rattle.do_push_r.proofs.Laws.{two_are}
use borrow.Author.Rules.{rules}
use Rattle.do_push_r.proofs.push_two.Goals as goal

pub returns : goal.returns
returns c = search (two_are, sums, rules)
