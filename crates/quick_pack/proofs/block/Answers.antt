use Rattle.quick_pack.proofs.Laws.{block_of, inm_is, outm_is}
use borrow.Author.Rules.{rules}
use Rattle.quick_pack.proofs.block.Goals as goal

pub returns-in-Movbk : goal.returns-in-Movbk
returns-in-Movbk c = search (block_of, rules)

pub returns-in-Cmpbk : goal.returns-in-Cmpbk
returns-in-Cmpbk c = search (block_of, rules)

pub returns-in-Cmpm : goal.returns-in-Cmpm
returns-in-Cmpm c = search (block_of, rules)

pub returns-in-Ldm : goal.returns-in-Ldm
returns-in-Ldm c = search (block_of, rules)

pub returns-in-Stm : goal.returns-in-Stm
returns-in-Stm c = search (block_of, rules)

pub returns-in-Inm : goal.returns-in-Inm
returns-in-Inm c = search (inm_is, rules)

pub returns-in-Outm : goal.returns-in-Outm
returns-in-Outm c = search (outm_is, rules)
