use Rattle.do_block.proofs.Laws.{kind_known}
use borrow.Author.Rules.{rules}
use Rattle.do_block.proofs.primitive.Goals as goal

pub returns-in-Movbk : goal.returns-in-Movbk
returns-in-Movbk c = search (kind_known, rules)

pub returns-in-Cmpbk : goal.returns-in-Cmpbk
returns-in-Cmpbk c = search (kind_known, rules)

pub returns-in-Cmpm : goal.returns-in-Cmpm
returns-in-Cmpm c = search (kind_known, rules)

pub returns-in-Ldm : goal.returns-in-Ldm
returns-in-Ldm c = search (kind_known, rules)

pub returns-in-Stm : goal.returns-in-Stm
returns-in-Stm c = search (kind_known, rules)
