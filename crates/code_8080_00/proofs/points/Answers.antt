use native.Mathlib.Omega.{arith}
use Rattle.code_8080_00.proofs.Laws.{ldax_b, ldax_d, stax_b, stax_d}
use borrow.Author.Rules.{rules}
use Rattle.code_8080_00.proofs.points.Goals as goal

pub returns-in-0 : goal.returns-in-0
returns-in-0 c = search (stax_b, rules)

pub returns-in-1 : goal.returns-in-1
returns-in-1 c = search (ldax_b, rules)

pub returns-in-2 : goal.returns-in-2
returns-in-2 c = search (stax_d, rules)

pub returns-in_default : goal.returns-in_default
returns-in_default c = ldax_d _ (omega arith) (search rules)
