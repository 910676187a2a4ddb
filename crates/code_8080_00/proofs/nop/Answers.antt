use Rattle.code_8080_00.proofs.Laws.{no_nop, nop_is}
use borrow.Author.Rules.{rules}
use Rattle.code_8080_00.proofs.nop.Goals as goal

pub returns-then-d-eq0 : goal.returns-then-d-eq0
returns-then-d-eq0 c = search (nop_is, rules)

pub returns-else-d-eq0 : goal.returns-else-d-eq0
returns-else-d-eq0 c = search (no_nop, rules)
