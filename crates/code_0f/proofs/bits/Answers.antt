use mathlib.Core.Path.{◌∙◌}
use Rattle.code_0f.proofs.Laws.{last_bit, in_cl, given, no_bit}
use borrow.Author.Rules.{rules}
use Rattle.code_0f.proofs.bits.Goals as goal
use Rattle.code_0f.proofs.bits.Goals.{in-0, in-1, in-2, in_default}

pub returns-in_err-to : goal.returns-in_err-to
returns-in_err-to c = no_bit c.operands-o.ensures (search rules) (search rules) _ c.in_err-to.ensures c.from_residual.ensures.1

pub returns-then-b-lt24 : goal.returns-then-b-lt24
returns-then-b-lt24 c = in_cl c.operands-o.ensures (search rules) (search rules) c.in_ok-to.ensures (elim c.match-b-rem4.branch [ in-0 w ↦ w.op-is ∙ rw w.in-0.is | in-1 w ↦ w.op-is ∙ rw w.in-1.is | in-2 w ↦ w.op-is ∙ rw w.in-2.is | in_default w ↦ w.op-is ∙ last_bit _ (search rules) ]) (search rules) c.known.ensures

pub returns : goal.returns
returns c = given c.operands-o.ensures (search rules) (search rules) c.in_ok-to.ensures (elim c.match-b-rem4.branch [ in-0 w ↦ w.op-is ∙ rw w.in-0.is | in-1 w ↦ w.op-is ∙ rw w.in-1.is | in-2 w ↦ w.op-is ∙ rw w.in-2.is | in_default w ↦ w.op-is ∙ last_bit _ (search rules) ]) (search rules) c.byte.ensures c.known-2.ensures
