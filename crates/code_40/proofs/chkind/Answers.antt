use Rattle.code_operand.proofs.OperandsLaws.{not_memory, with_memory_lem}
use Rattle.code_40.proofs.chkind.Goals as goal

pub returns-in_err-from : goal.returns-in_err-from
returns-in_err-from c = not_memory c.operands-o.ensures _ _ c.in_err-from.ensures c.from_residual.ensures.1

pub returns : goal.returns
returns c = with_memory_lem c.operands-o.ensures _ _ c.in_ok-from.ensures c.known.ensures
