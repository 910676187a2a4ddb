use Rattle.mach_tally.proofs.Laws.{sums}
use Rattle.do_block.proofs.Laws.{cmpbk_is}
use borrow.Author.Rules.{rules}
use Rattle.do_block.proofs.cmpbk.Goals as goal

pub returns : goal.returns
returns c = search (cmpbk_is, sums, rules)
