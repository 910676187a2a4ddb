use Rattle.code_8080_00.proofs.Laws.{dcx_is, inx_is}
use borrow.Author.Rules.{rules}
use Rattle.code_8080_00.proofs.inx_or_dcx.Goals as goal

pub returns-then-d-eq1 : goal.returns-then-d-eq1
returns-then-d-eq1 c = search (dcx_is, rules)

pub returns-else-d-eq1 : goal.returns-else-d-eq1
returns-else-d-eq1 c = search (inx_is, rules)
