use mathlib.Core.List.{[], ◌∷◌}
use Rattle.code_answer.proofs.CodeLaws.{at_one, at_rest}
use Rattle.code_answer.proofs.DecodesLaws.{decodes_known}
use mathlib.Core.Path.{refl}
use Prim.Native.Nat.{zero-le}
use mathlib.Core.Logic.{⊎_elim}
use borrow.Author.Rules.{rules}
use Rattle.code_operand.proofs.Laws.{seg_given}
use Rattle.code_0f.proofs.codes0f.Goals as goal
use Rattle.code_0f.proofs.codes0f.Goals.{in-32, in-34, in-38}

pub returns-then-b-lt16 : goal.returns-then-b-lt16
returns-then-b-lt16 c = at_rest 0 16 [] refl tt zero-le (search rules)

pub returns-in-40 : goal.returns-in-40
returns-in-40 c = ⊎_elim (λ e. at_one 0x28 refl refl e (rw e at c.rotated.ensures)) (λ e. at_one 0x2a refl refl e (rw e at c.rotated.ensures)) c.in-40.is

pub returns-in-49 : goal.returns-in-49
returns-in-49 c = ⊎_elim (λ e. at_one 0x31 refl refl e (rw e at c.field.ensures)) (λ e. at_one 0x33 refl refl e (rw (e, c.unwrap_or-seg.ensures, seg_given) at c.field.ensures)) c.in-49.is

pub returns-in-57 : goal.returns-in-57
returns-in-57 c = ⊎_elim (λ e. at_one 0x39 refl refl e (rw e at c.field-in-57.ensures)) (λ e. at_one 0x3b refl refl e (rw (e, c.unwrap_or-seg.ensures, seg_given) at c.field-in-57.ensures)) c.in-57.is

pub returns-in-255 : goal.returns-in-255
returns-in-255 c = at_one 0xff refl refl c.in-255.is c.emulation.ensures

pub returns-in_default : goal.returns-in_default
returns-in_default c = at_rest 0x20 224 ((0x20 ∷ []) ∷ (0x22 ∷ []) ∷ (0x26 ∷ []) ∷ (0x28 ∷ 0x2a ∷ []) ∷ (0x31 ∷ 0x33 ∷ []) ∷ (0x39 ∷ 0x3b ∷ []) ∷ (0xff ∷ []) ∷ []) refl (search rules) (search rules) (search rules)

pub returns : goal.returns
returns c = elim c.match-b.branch [ in-32 w ↦ at_one 0x20 refl refl w.in-32.is (decodes_known (rw (w.group-is, c.unwrap_or-seg.ensures, seg_given) at c.known.ensures)) | in-34 w ↦ at_one 0x22 refl refl w.in-34.is (decodes_known (rw (w.group-is, c.unwrap_or-seg.ensures, seg_given) at c.known.ensures)) | in-38 w ↦ at_one 0x26 refl refl w.in-38.is (decodes_known (rw (w.group-is, c.unwrap_or-seg.ensures, seg_given) at c.known.ensures)) ]
