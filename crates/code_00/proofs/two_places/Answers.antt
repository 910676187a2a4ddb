use Rattle.code_00.proofs.Laws.{to_place, to_register}
use Rattle.code_00.proofs.two_places.Goals as goal
use Rattle.code_00.proofs.two_places.Goals.{else-b-eq1, then-b-eq1}

pub returns : goal.returns
returns c = elim c.if-b-eq1.branch [ then-b-eq1 w ↦ to_register c.operands-o.ensures _ c.args.b w.if-b-eq1.true (rw w.group-is at c.known.ensures) | else-b-eq1 w ↦ to_place c.operands-o.ensures _ c.args.b w.if-b-eq1.false (rw w.group-is at c.known.ensures) ]
