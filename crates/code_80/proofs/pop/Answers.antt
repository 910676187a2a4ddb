use Rattle.code_operand.proofs.OperandsLaws.{not_plain, of_plain}
use Rattle.code_80.proofs.pop.Goals as goal

pub returns-in_err-to : goal.returns-in_err-to
returns-in_err-to c = not_plain c.operands-o.ensures _ _ c.in_err-to.ensures c.from_residual.ensures.1

pub returns : goal.returns
returns c = of_plain c.operands-o.ensures _ _ c.in_ok-to.ensures c.known.ensures
