use Rattle.mach_tally.proofs.Laws.{memory_sums_four}
use Rattle.do_push_r.proofs.Laws.{general_are}
use borrow.Author.Rules.{rules}
use Rattle.do_push_r.proofs.pop_general.Goals as goal

pub returns : goal.returns
returns c = search (general_are, memory_sums_four, rules)
