use Rattle.code_answer.proofs.CodeLaws.{at_row}
use Rattle.code_answer.proofs.DecodesLaws.{decodes_known}
use Rattle.code_90.proofs.Laws.{exchange}
use mathlib.Core.Path.{refl}
use native.Mathlib.Omega.{arith}
use borrow.Author.Rules.{rules}
use Rattle.code_90.proofs.codes90.Goals as goal

pub returns-then-b-eq144 : goal.returns-then-b-eq144
returns-then-b-eq144 c = at_row 0x90 refl (search rules) (search rules) (decodes_known c.known.ensures)

pub returns-then-b-lt152 : goal.returns-then-b-lt152
returns-then-b-lt152 c = exchange _ (omega arith) (search rules) c.known-then-b-lt152.ensures
