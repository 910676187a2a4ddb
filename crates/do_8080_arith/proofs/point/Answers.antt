use Rattle.sheet.proofs.Lifted.{memory_known}
use Rattle.sheet.specs.CardPoint.{point}
use borrow.Author.Rules.{rules}
use Rattle.do_8080_arith.proofs.point.Goals as goal

pub returns-in-Ldax : goal.returns-in-Ldax
unfolding point
returns-in-Ldax c = search (memory_known point, rules)

pub returns-in-Stax : goal.returns-in-Stax
unfolding point
returns-in-Stax c = search (memory_known point, rules)
