use Rattle.code_8080_00.proofs.Laws.{dad_is, lxi_is}
use borrow.Author.Rules.{rules}
use Rattle.code_8080_00.proofs.lxi_or_dad.Goals as goal

pub returns-then-d-eq1 : goal.returns-then-d-eq1
returns-then-d-eq1 c = search (dad_is, rules)

pub returns : goal.returns
returns c = search (lxi_is, rules)
