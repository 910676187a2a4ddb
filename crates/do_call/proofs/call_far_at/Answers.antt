use Rattle.mach_tally.proofs.Laws.{sums}
use Rattle.do_call.proofs.Laws.{call_far_at_is}
use borrow.Author.Rules.{rules}
use Rattle.do_call.proofs.call_far_at.Goals as goal

pub returns : goal.returns
returns c = search (call_far_at_is, sums, rules)
