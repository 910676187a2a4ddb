use mathlib.Core.List.{[]}
use mathlib.Core.Path.{refl}
use native.Mathlib.Omega.{arith}
use Rattle.code_answer.proofs.CodeLaws.{at_one, at_rest}
use Rattle.code_operand.proofs.OperandsLaws.{by_field, field_below, of_place}
use Rattle.sheet.specs.FirstByte.{group_f6}
use Rattle.code_f0.proofs.Laws.{of_immediate}
use Rattle.code_f0.proofs.group_f6.Goals as goal
use Rattle.code_f0.proofs.group_f6.Goals.{else-o-eq2, in-4, in-5, in-6, in_default, then-o-eq2}

pub returns-then-o-eq0 : goal.returns-then-o-eq0
unfolding group_f6
returns-then-o-eq0 c = by_field c.operands-o.ensures _ (at_one 0 refl refl c.if-o-eq0.true (of_immediate c.operands-o.ensures _ _ c.immediate-v.ensures c.known.ensures))

pub returns-then-o-eq1 : goal.returns-then-o-eq1
unfolding group_f6
returns-then-o-eq1 c = by_field c.operands-o.ensures _ (at_rest 1 1 [] refl tt (omega arith) (omega arith))

pub returns-then-o-lt4 : goal.returns-then-o-lt4
unfolding group_f6
returns-then-o-lt4 c =
    elim c.if-o-eq2.branch [ then-o-eq2 w ↦ by_field c.operands-o.ensures _ (at_one 2 refl refl w.if-o-eq2.true (of_place c.operands-o.ensures _ (rw w.op-is at c.known-then-o-lt4.ensures))) | else-o-eq2 w ↦ by_field c.operands-o.ensures _ (at_one 3 refl refl (omega arith) (of_place c.operands-o.ensures _ (rw w.op-is at c.known-then-o-lt4.ensures))) ]

pub returns : goal.returns
unfolding group_f6
returns c =
    elim c.match-o.branch [ in-4 w ↦ by_field c.operands-o.ensures _ (at_one 4 refl refl w.in-4.is (of_place c.operands-o.ensures _ (rw w.group-is at c.known-2.ensures))) | in-5 w ↦ by_field c.operands-o.ensures _ (at_one 5 refl refl w.in-5.is (of_place c.operands-o.ensures _ (rw w.group-is at c.known-2.ensures))) | in-6 w ↦ by_field c.operands-o.ensures _ (at_one 6 refl refl w.in-6.is (of_place c.operands-o.ensures _ (rw w.group-is at c.known-2.ensures))) | in_default w ↦ by_field c.operands-o.ensures _ (at_one 7 refl refl (omega (arith, field_below c.operands-o.ensures)) (of_place c.operands-o.ensures _ (rw w.group-is at c.known-2.ensures))) ]
