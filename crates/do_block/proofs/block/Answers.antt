use Rattle.do_block.proofs.Laws.{block_none, block_single, block_element}
use borrow.Author.Rules.{rules}
use Rattle.do_block.proofs.block.Goals as goal

pub returns-in-Nothing : goal.returns-in-Nothing
returns-in-Nothing c = search (block_none, rules)

pub returns-in-Element : goal.returns-in-Element
returns-in-Element c = search (block_element, rules)

pub returns-in_default-due : goal.returns-in_default-due
returns-in_default-due c = search (block_single, rules)
