use Rattle.mach_tally.proofs.Laws.{sums}
use Rattle.do_push_r.proofs.Laws.{four_are}
use borrow.Author.Rules.{rules}
use Rattle.do_push_r.proofs.push_four.Goals as goal

pub returns : goal.returns
returns c = search (four_are, sums, rules)
