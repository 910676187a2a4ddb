use Rattle.quick_perform.proofs.SharedLaws.{block_is}
use borrow.Author.Rules.{rules}
use Rattle.quick_perform.proofs.shared.block.Goals as goal

pub returns : goal.returns
returns c = search (block_is, rules)
