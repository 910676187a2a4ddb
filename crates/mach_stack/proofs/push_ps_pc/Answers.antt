use Rattle.mach_tally.proofs.Laws.{sums}
use Rattle.mach_stack.proofs.Laws.{ps_pc_are}
use borrow.Author.Rules.{rules}
use Rattle.mach_stack.proofs.push_ps_pc.Goals as goal

pub returns : goal.returns
returns c = search (ps_pc_are, sums, rules)
