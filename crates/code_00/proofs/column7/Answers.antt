use native.Mathlib.Omega.{arith}
use Rattle.code_answer.proofs.CodeLaws.{at_one, at_row}
use Rattle.code_00.proofs.Laws.{at_pop}
use Rattle.code_answer.proofs.DecodesLaws.{decodes_known, decodes_seq}
use mathlib.Core.Path.{refl}
use borrow.Author.Rules.{rules}
use Rattle.code_00.proofs.column7.Goals as goal
use Rattle.code_00.proofs.column7.Goals.{in-39, in-47, in-55, in_default}

pub returns-then-b-eq15 : goal.returns-then-b-eq15
returns-then-b-eq15 c = at_row 0x0f refl (omega arith) (omega arith) (decodes_seq _ c.byte-second.ensures c.codes0f.ensures.is)

pub returns-then-b-lt32 : goal.returns-then-b-lt32
returns-then-b-lt32 c = at_pop _ (search rules) (search rules) (search rules) (search rules) c.known.ensures

pub returns : goal.returns
returns c = elim c.match-b.branch [ in-39 w ↦ at_one 0x27 refl refl w.in-39.is (decodes_known (rw w.group-is at c.known-2.ensures)) | in-47 w ↦ at_one 0x2f refl refl w.in-47.is (decodes_known (rw w.group-is at c.known-2.ensures)) | in-55 w ↦ at_one 0x37 refl refl w.in-55.is (decodes_known (rw w.group-is at c.known-2.ensures)) | in_default w ↦ at_one 0x3f refl refl (omega arith) (decodes_known (rw w.group-is at c.known-2.ensures)) ]
