use mathlib.Core.List.{[], ◌∷◌}
use mathlib.Core.Path.{refl}
use native.Mathlib.Omega.{arith}
use Rattle.code_answer.proofs.CodeLaws.{at_one, at_rest, at_row}
use Rattle.code_answer.proofs.DecodesLaws.{decodes_known}
use Rattle.code_f0.proofs.Laws.{at_fe}
use borrow.Author.Rules.{rules}
use Rattle.code_f0.proofs.codesf0.Goals as goal
use Rattle.code_f0.proofs.codesf0.Goals.{in-244, in-245, in-248, in-249, in-250, in-251, in-252, in-253}

pub returns-in-246 : goal.returns-in-246
returns-in-246 c = at_row 0xf6 refl (omega arith) (omega arith) c.group_f6.ensures

pub returns-in-254 : goal.returns-in-254
returns-in-254 c = at_fe _ (omega arith) (search rules) c.group_fe.ensures

pub returns-in_default : goal.returns-in_default
returns-in_default c = at_rest 0xf0 16 ((0xf4 ∷ []) ∷ (0xf5 ∷ []) ∷ (0xf6 ∷ 0xf7 ∷ []) ∷ (0xf8 ∷ []) ∷ (0xf9 ∷ []) ∷ (0xfa ∷ []) ∷ (0xfb ∷ []) ∷ (0xfc ∷ []) ∷ (0xfd ∷ []) ∷ (0xfe ∷ 0xff ∷ []) ∷ []) refl (search rules) (search rules) (search rules)

pub returns : goal.returns
returns c =
    elim c.match-b.branch [ in-244 w ↦ at_one 0xf4 refl refl w.in-244.is (decodes_known (rw w.group-is at c.known.ensures)) | in-245 w ↦ at_one 0xf5 refl refl w.in-245.is (decodes_known (rw w.group-is at c.known.ensures)) | in-248 w ↦ at_one 0xf8 refl refl w.in-248.is (decodes_known (rw w.group-is at c.known.ensures)) | in-249 w ↦ at_one 0xf9 refl refl w.in-249.is (decodes_known (rw w.group-is at c.known.ensures)) | in-250 w ↦ at_one 0xfa refl refl w.in-250.is (decodes_known (rw w.group-is at c.known.ensures)) | in-251 w ↦ at_one 0xfb refl refl w.in-251.is (decodes_known (rw w.group-is at c.known.ensures)) | in-252 w ↦ at_one 0xfc refl refl w.in-252.is (decodes_known (rw w.group-is at c.known.ensures)) | in-253 w ↦ at_one 0xfd refl refl w.in-253.is (decodes_known (rw w.group-is at c.known.ensures)) ]
