use Rattle.code_operand.proofs.ShiftLaws.{no_shift, shift_group_lem}
use Rattle.sheet.proofs.ReadingLaws.{reads_got}
use Rattle.code_d0.proofs.shift_fixed.Goals as goal

pub returns-in_err-kind : goal.returns-in_err-kind
returns-in_err-kind c = no_shift c.operands-o.ensures _ _ _ c.in_err-kind.ensures c.from_residual.ensures.1

pub returns : goal.returns
returns c = shift_group_lem c.operands-o.ensures _ _ c.in_ok-kind.ensures reads_got c.known.ensures
