use Rattle.code_answer.proofs.CodeLaws.{at_one, at_row}
use Rattle.code_80.proofs.Laws.{at_segment}
use mathlib.Core.Path.{refl}
use borrow.Author.Rules.{rules}
use Rattle.code_80.proofs.codes80.Goals as goal

pub returns-then-b-lt132 : goal.returns-then-b-lt132
returns-then-b-lt132 c = at_row 0x80 refl (search rules) (search rules) c.with_immediate.ensures

pub returns-in-141 : goal.returns-in-141
returns-in-141 c = at_one 0x8d refl refl c.in-141.is c.ldea.ensures

pub returns-in-143 : goal.returns-in-143
returns-in-143 c = at_one 0x8f refl refl c.in-143.is c.pop.ensures

pub returns-in_default : goal.returns-in_default
returns-in_default c = at_segment _ (search rules) (search rules) (search rules) (search rules) c.with_segment.ensures
