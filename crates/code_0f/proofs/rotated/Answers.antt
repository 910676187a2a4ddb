use mathlib.Core.Path.{◌∙◌}
use Rattle.code_operand.proofs.OperandsLaws.{not_plain, of_plain}
use Rattle.code_0f.proofs.rotated.Goals as goal
use Rattle.code_0f.proofs.rotated.Goals.{else-left, then-left}

pub returns-in_err-to : goal.returns-in_err-to
returns-in_err-to c = not_plain c.operands-o.ensures _ _ c.in_err-to.ensures c.from_residual.ensures.1

pub returns : goal.returns
returns c = of_plain c.operands-o.ensures _ _ c.in_ok-to.ensures (c.known.ensures ∙ (elim c.if-left.branch [ then-left w ↦ rw (w.group-is, w.if-left.true) | else-left w ↦ rw (w.group-is, w.if-left.false) ]))
