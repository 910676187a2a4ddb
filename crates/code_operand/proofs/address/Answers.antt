use Rattle.code_operand.proofs.Laws.{address_direct, address_formed}
use borrow.Author.Rules.{rules}
use Rattle.code_operand.proofs.address.Goals as goal
use Rattle.code_operand.proofs.address.Goals.{else-m-eq0-via-then-m-eq0+else-m-eq6, else-m-eq0-via-else-m-eq0}

pub returns-then-m-eq6 : goal.returns-then-m-eq6
returns-then-m-eq6 c = search (address_direct, rules)

pub returns : goal.returns
returns c = address_formed _ _ _ _ _ (λ k l. elim c.else-m-eq0.branch [ else-m-eq0-via-then-m-eq0+else-m-eq6 w ↦ w.if-m-eq6.false l | else-m-eq0-via-else-m-eq0 w ↦ w.if-m-eq0.false k ]) c.displacement-d.ensures c.formed.ensures
