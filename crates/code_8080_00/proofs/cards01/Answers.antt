use Rattle.code_8080_00.proofs.Laws.{hlt, mov_is}
use borrow.Author.Rules.{rules}
use Rattle.code_8080_00.proofs.cards01.Goals.{else-d-eq6-via-then-d-eq6+else-s-eq6, else-d-eq6-via-else-d-eq6}
use Rattle.code_8080_00.proofs.cards01.Goals as goal

pub returns-then-s-eq6 : goal.returns-then-s-eq6
returns-then-s-eq6 c = search (hlt, rules)

pub returns : goal.returns
returns c = mov_is _ _ (λ k l. elim c.else-d-eq6.branch [ else-d-eq6-via-then-d-eq6+else-s-eq6 w ↦ w.if-s-eq6.false l | else-d-eq6-via-else-d-eq6 w ↦ w.if-d-eq6.false k ]) c.operand_at.ensures c.operand_at-2.ensures c.known-2.ensures
