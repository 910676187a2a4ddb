use native.Mathlib.Omega.{arith}
use Rattle.code_answer.proofs.CodeLaws.{at_row}
use Rattle.code_answer.proofs.DecodesLaws.{decodes_known}
use mathlib.Core.Path.{refl}
use borrow.Author.Rules.{rules}
use Rattle.code_e0.proofs.codese0.Goals as goal
use Rattle.code_e0.proofs.codese0.Goals.{else-b-lt238, then-b-lt238}

pub returns : goal.returns
returns c = elim c.if-b-lt238.branch [ then-b-lt238 w ↦ at_row 0xec refl (search rules) (omega arith) (decodes_known (rw w.group-is at c.known.ensures)) | else-b-lt238 w ↦ at_row 0xee refl (omega arith) (omega arith) (decodes_known (rw w.group-is at c.known.ensures)) ]
