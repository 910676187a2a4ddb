use Rattle.do_block.proofs.Laws.{ldm_is}
use borrow.Author.Rules.{rules}
use Rattle.do_block.proofs.ldm.Goals as goal

pub returns : goal.returns
returns c = search (ldm_is, rules)
