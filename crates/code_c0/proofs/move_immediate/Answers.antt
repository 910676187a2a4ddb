use Rattle.code_answer.proofs.CodeLaws.{at_row}
use Rattle.code_operand.proofs.OperandsLaws.{not_plain_first}
use Rattle.code_c0.proofs.Laws.{move_immediate_lem}
use mathlib.Core.Path.{refl}
use borrow.Author.Rules.{rules}
use Rattle.code_c0.proofs.move_immediate.Goals as goal

pub returns-in_err-to : goal.returns-in_err-to
returns-in_err-to c = at_row 0xc6 refl (search rules) (search rules) (not_plain_first c.operands-o.ensures _ _ c.in_err-to.ensures c.from_residual.ensures.1)

pub returns : goal.returns
returns c = at_row 0xc6 refl (search rules) (search rules) (move_immediate_lem c.operands-o.ensures _ c.in_ok-to.ensures c.immediate-v.ensures c.known.ensures)
