use Rattle.quick_pack.proofs.Laws.{known}
use borrow.Author.Rules.{rules}
use Rattle.quick_pack.proofs.pack.Goals as goal

pub returns-in-Computes : goal.returns-in-Computes
returns-in-Computes c = search (known (λ i. i), rules)

pub returns-in-Moves : goal.returns-in-Moves
returns-in-Moves c = search (known (λ i. i), rules)

pub returns-in-Multiplies : goal.returns-in-Multiplies
returns-in-Multiplies c = search (known (λ i. i), rules)

pub returns-in-Blocks : goal.returns-in-Blocks
returns-in-Blocks c = search (known (λ i. i), rules)

pub returns-in-Ports : goal.returns-in-Ports
returns-in-Ports c = search (known (λ i. i), rules)
