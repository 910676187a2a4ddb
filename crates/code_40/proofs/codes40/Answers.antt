use native.Mathlib.Omega.{arith}
use Rattle.code_answer.proofs.CodeLaws.{at_row}
use Rattle.code_answer.proofs.DecodesLaws.{decodes_known}
use Rattle.code_answer.proofs.FollowLaws.{with_short_lem}
use mathlib.Core.Path.{refl}
use borrow.Author.Rules.{rules}
use Rattle.code_40.proofs.codes40.Goals as goal
use Rattle.code_40.proofs.codes40.Goals.{else-b-lt72, else-b-lt88, then-b-lt72, then-b-lt88}

pub returns-then-b-lt80 : goal.returns-then-b-lt80
returns-then-b-lt80 c = elim c.if-b-lt72.branch [ then-b-lt72 w ↦ at_row 0x40 refl (search rules) (omega arith) (decodes_known (rw w.op-is at c.known.ensures)) | else-b-lt72 w ↦ at_row 0x48 refl (omega arith) (omega arith) (decodes_known (rw w.op-is at c.known.ensures)) ]

pub returns-then-b-lt96 : goal.returns-then-b-lt96
returns-then-b-lt96 c = elim c.if-b-lt88.branch [ then-b-lt88 w ↦ at_row 0x50 refl (search rules) (omega arith) (decodes_known (rw w.group-is at c.known-then-b-lt96.ensures)) | else-b-lt88 w ↦ at_row 0x58 refl (omega arith) (omega arith) (decodes_known (rw w.group-is at c.known-then-b-lt96.ensures)) ]

pub returns : goal.returns
returns c = at_row 0x70 refl (search rules) (search rules) (with_short_lem _ c.short.ensures c.known-2.ensures)
