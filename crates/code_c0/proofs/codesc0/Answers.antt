use Rattle.code_answer.proofs.CodeLaws.{at_row}
use mathlib.Core.Path.{refl}
use borrow.Author.Rules.{rules}
use Rattle.code_c0.proofs.codesc0.Goals as goal

pub returns-then-b-lt194 : goal.returns-then-b-lt194
returns-then-b-lt194 c = at_row 0xc0 refl (search rules) (search rules) c.shift_given.ensures
