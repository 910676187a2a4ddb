use Rattle.do_block.proofs.Laws.{stm_is}
use borrow.Author.Rules.{rules}
use Rattle.do_block.proofs.stm.Goals as goal

pub returns : goal.returns
returns c = search (stm_is, rules)
