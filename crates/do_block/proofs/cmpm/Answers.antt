use Rattle.do_block.proofs.Laws.{cmpm_is}
use borrow.Author.Rules.{rules}
use Rattle.do_block.proofs.cmpm.Goals as goal

pub returns : goal.returns
returns c = search (cmpm_is, rules)
