use native.Mathlib.Omega.{arith}
use Rattle.code_answer.proofs.CodeLaws.{at_row}
use Rattle.code_answer.proofs.DecodesLaws.{decodes_known}
use mathlib.Core.Path.{refl}
use Rattle.code_operand.proofs.OperandsLaws.{with_place_lem}
use borrow.Author.Rules.{rules}
use Rattle.code_80.proofs.two_places.Goals as goal
use Rattle.code_80.proofs.two_places.Goals.{in-67, in-68, in_default}

pub returns-then-b-lt134 : goal.returns-then-b-lt134
returns-then-b-lt134 c = at_row 0x84 refl (search rules) (search rules) (with_place_lem c.operands-o.ensures _ (decodes_known c.known.ensures))

pub returns : goal.returns
returns c = elim c.match-b-div2.branch [ in-67 w ↦ at_row 0x86 refl (omega arith) (omega arith) (with_place_lem c.operands-o.ensures _ (decodes_known (rw w.group-is at c.known-2.ensures))) | in-68 w ↦ at_row 0x88 refl (omega arith) (omega arith) (with_place_lem c.operands-o.ensures _ (decodes_known (rw w.group-is at c.known-2.ensures))) | in_default w ↦ at_row 0x8a refl (omega arith) (omega arith) (with_place_lem c.operands-o.ensures _ (decodes_known (rw w.group-is at c.known-2.ensures))) ]
