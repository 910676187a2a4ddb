use Rattle.mach_tally.proofs.Laws.{sums}
use Rattle.do_call.proofs.Laws.{call_held_is}
use borrow.Author.Rules.{rules}
use Rattle.do_call.proofs.call_held.Goals as goal

pub returns : goal.returns
returns c = search (call_held_is, sums, rules)
