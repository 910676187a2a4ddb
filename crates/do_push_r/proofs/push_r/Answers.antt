use Rattle.mach_tally.proofs.Laws.{sums}
use Rattle.do_push_r.proofs.Laws.{push_r_is}
use borrow.Author.Rules.{rules}
use Rattle.do_push_r.proofs.push_r.Goals as goal

pub returns : goal.returns
returns c = search (push_r_is, sums, rules)
