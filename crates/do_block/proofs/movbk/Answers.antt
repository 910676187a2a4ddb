use Rattle.mach_tally.proofs.Laws.{sums}
use Rattle.do_block.proofs.Laws.{movbk_is}
use borrow.Author.Rules.{rules}
use Rattle.do_block.proofs.movbk.Goals as goal

pub returns : goal.returns
returns c = search (movbk_is, sums, rules)
