use mathlib.Core.List.{[], ◌∷◌}
use native.Mathlib.Omega.{arith}
use Rattle.code_answer.proofs.CodeLaws.{at_one, at_rest, at_row}
use Rattle.code_answer.proofs.DecodesLaws.{decodes_known}
use Rattle.code_operand.proofs.Laws.{seg_given}
use mathlib.Core.Path.{refl}
use borrow.Author.Rules.{rules}
use Rattle.code_d0.proofs.codesd0.Goals as goal

pub returns-in-208 : goal.returns-in-208
returns-in-208 c = at_row 0xd0 refl (omega arith) (omega arith) c.shift_fixed.ensures

pub returns-in-210 : goal.returns-in-210
returns-in-210 c = at_row 0xd2 refl (omega arith) (omega arith) c.shift_fixed-in-210.ensures

pub returns-in-212 : goal.returns-in-212
returns-in-212 c = at_one 0xd4 refl refl c.in-212.is c.after_ten.ensures

pub returns-in-213 : goal.returns-in-213
returns-in-213 c = at_one 0xd5 refl refl c.in-213.is c.after_ten-in-213.ensures

pub returns-in-215 : goal.returns-in-215
returns-in-215 c = at_one 0xd7 refl refl c.in-215.is (decodes_known (rw (c.unwrap_or-seg.ensures, seg_given) at c.known.ensures))

pub returns-in_default : goal.returns-in_default
returns-in_default c = at_rest 0xd0 16 ((0xd0 ∷ 0xd1 ∷ []) ∷ (0xd2 ∷ 0xd3 ∷ []) ∷ (0xd4 ∷ []) ∷ (0xd5 ∷ []) ∷ (0xd7 ∷ []) ∷ []) refl (search rules) (search rules) (search rules)

pub returns-in_default-2 : goal.returns-in_default-2
returns-in_default-2 c = at_rest 0xd0 16 ((0xd0 ∷ 0xd1 ∷ []) ∷ (0xd2 ∷ 0xd3 ∷ []) ∷ (0xd4 ∷ []) ∷ (0xd5 ∷ []) ∷ (0xd7 ∷ []) ∷ []) refl (search rules) (search rules) (search rules)
