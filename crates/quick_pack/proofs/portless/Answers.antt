use Rattle.quick_pack.proofs.Laws.{block_is}
use borrow.Author.Rules.{rules}
use Rattle.quick_pack.proofs.portless.Goals as goal

pub returns : goal.returns
returns c = search (block_is, rules)
