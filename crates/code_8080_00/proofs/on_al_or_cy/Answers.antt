use native.Mathlib.Omega.{arith}
use Rattle.code_8080_00.proofs.Laws.{cma, cmc, daa, ral, rar, rlc, rrc, stc}
use borrow.Author.Rules.{rules}
use Rattle.code_8080_00.proofs.on_al_or_cy.Goals as goal

pub returns-in-0 : goal.returns-in-0
returns-in-0 c = search (rlc, rules)

pub returns-in-1 : goal.returns-in-1
returns-in-1 c = search (rrc, rules)

pub returns-in-2 : goal.returns-in-2
returns-in-2 c = search (ral, rules)

pub returns-in-3 : goal.returns-in-3
returns-in-3 c = search (rar, rules)

pub returns-in-4 : goal.returns-in-4
returns-in-4 c = search (daa, rules)

pub returns-in-5 : goal.returns-in-5
returns-in-5 c = search (cma, rules)

pub returns-in-6 : goal.returns-in-6
returns-in-6 c = search (stc, rules)

pub returns-in_default : goal.returns-in_default
returns-in_default c = cmc _ (omega arith) (search rules)
