use Rattle.do_8080_branch.proofs.Laws.{jmp_is}
use Rattle.mach_tally.proofs.Laws.{sums}
use borrow.Author.Rules.{rules}
use Rattle.do_8080_branch.proofs.jmp.Goals as goal

pub returns : goal.returns
returns c = search (jmp_is, sums, rules)
