use Rattle.quick_do.proofs.Laws.{dbnz_goes, dbnz_ends}
use borrow.Author.Rules.{rules}
use Rattle.quick_do.proofs.dbnz.Goals as goal

pub returns-then-cw-ne0 : goal.returns-then-cw-ne0
returns-then-cw-ne0 c = search (dbnz_goes, dbnz_ends, rules)

pub returns-else-cw-ne0 : goal.returns-else-cw-ne0
returns-else-cw-ne0 c = search (dbnz_goes, dbnz_ends, rules)
