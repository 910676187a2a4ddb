use mathlib.Core.List.{[], ◌∷◌}
use native.Mathlib.Omega.{arith}
use Rattle.code_answer.proofs.CodeLaws.{at_one, at_rest}
use Rattle.code_operand.proofs.OperandsLaws.{by_field, field_below, of_place}
use Rattle.code_f0.proofs.Laws.{branch_far, call_far, counts_down, counts_up, for_words, no_byte, no_far}
use Rattle.sheet.specs.FirstByte.{group_ff}
use mathlib.Core.Path.{refl}
use mathlib.Core.Logic.{inl, inr}
use borrow.Author.Rules.{rules}
use Rattle.code_f0.proofs.group_fe.Goals as goal
use Rattle.code_f0.proofs.group_fe.Goals.{else-o-eq0, in-2, in-3+in_ok-memory-in-3, in-4, in-5+in_ok-memory-in-5, then-o-eq0}

pub returns-then-o-lt2 : goal.returns-then-o-lt2
unfolding group_ff
returns-then-o-lt2 c = elim c.if-o-eq0.branch [ then-o-eq0 w ↦ counts_up c.operands-o.ensures _ w.if-o-eq0.true (rw w.op-is at c.known.ensures) | else-o-eq0 w ↦ counts_down c.operands-o.ensures _ (omega arith) (rw w.op-is at c.known.ensures) ]

pub returns-then-not-word : goal.returns-then-not-word
unfolding group_ff
returns-then-not-word c = no_byte c.operands-o.ensures c.args.word c.if-not-word.true (search rules)

pub returns-in-6 : goal.returns-in-6
unfolding group_ff
returns-in-6 c = for_words c.operands-o.ensures c.args.word c.if-not-word.false (by_field c.operands-o.ensures _ (at_one 6 refl refl c.in-6.is (of_place c.operands-o.ensures _ c.known-in-6.ensures)))

pub returns-in_default : goal.returns-in_default
unfolding group_ff
returns-in_default c = for_words c.operands-o.ensures c.args.word c.if-not-word.false (by_field c.operands-o.ensures _ (at_rest 2 6 ((2 ∷ []) ∷ (3 ∷ []) ∷ (4 ∷ []) ∷ (5 ∷ []) ∷ (6 ∷ []) ∷ []) refl (search rules) (search rules) (field_below c.operands-o.ensures)))

pub returns-in_err-memory-in-3 : goal.returns-in_err-memory-in-3
returns-in_err-memory-in-3 c = for_words c.operands-o.ensures c.args.word c.if-not-word.false (no_far c.operands-o.ensures _ (inl c.in-3.is) c.in_err-memory-in-3.ensures c.from_residual.ensures.1)

pub returns-in_err-memory-in-5 : goal.returns-in_err-memory-in-5
returns-in_err-memory-in-5 c = for_words c.operands-o.ensures c.args.word c.if-not-word.false (no_far c.operands-o.ensures _ (inr c.in-5.is) c.in_err-memory-in-5.ensures c.from_residual-in_err-memory-in-5.ensures.1)

pub returns : goal.returns
unfolding group_ff
returns c = for_words c.operands-o.ensures c.args.word c.if-not-word.false (elim c.match-o.branch [
  | in-2 w ↦ by_field c.operands-o.ensures _ (at_one 2 refl refl w.in-2.is (of_place c.operands-o.ensures _ (rw w.group-is at c.known-2.ensures)))
  | in-3+in_ok-memory-in-3 w ↦ call_far c.operands-o.ensures _ w.in-3.is w.in_ok-memory-in-3.ensures (rw w.group-is at c.known-2.ensures)
  | in-4 w ↦ by_field c.operands-o.ensures _ (at_one 4 refl refl w.in-4.is (of_place c.operands-o.ensures _ (rw w.group-is at c.known-2.ensures)))
  | in-5+in_ok-memory-in-5 w ↦ branch_far c.operands-o.ensures _ w.in-5.is w.in_ok-memory-in-5.ensures (rw w.group-is at c.known-2.ensures)
])
