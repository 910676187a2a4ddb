use native.Mathlib.Omega.{arith}
use Rattle.code_8080.proofs.Laws.{quarter_0, quarter_1, quarter_2, quarter_3}
use borrow.Author.Rules.{rules}
use Rattle.code_8080.proofs.card_of.Goals as goal

pub returns-in-0 : goal.returns-in-0
returns-in-0 c = search (quarter_0, rules)

pub returns-in-1 : goal.returns-in-1
returns-in-1 c = search (quarter_1, rules)

pub returns-in-2 : goal.returns-in-2
returns-in-2 c = search (quarter_2, rules)

pub returns-in_default : goal.returns-in_default
returns-in_default c = quarter_3 _ (omega arith) (search rules)
