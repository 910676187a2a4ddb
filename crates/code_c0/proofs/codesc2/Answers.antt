use native.Mathlib.Omega.{arith}
use Rattle.code_answer.proofs.CodeLaws.{at_one}
use Rattle.code_answer.proofs.DecodesLaws.{decodes_known}
use Rattle.code_answer.proofs.FollowLaws.{with_word_lem}
use mathlib.Core.Path.{refl}
use Rattle.code_c0.proofs.codesc2.Goals as goal

pub returns-in-194 : goal.returns-in-194
returns-in-194 c = at_one 0xc2 refl refl c.in-194.is (with_word_lem _ c.word.ensures c.known.ensures)

pub returns-in-195 : goal.returns-in-195
returns-in-195 c = at_one 0xc3 refl refl c.in-195.is (decodes_known c.known-in-195.ensures)

pub returns-in-196 : goal.returns-in-196
returns-in-196 c = at_one 0xc4 refl refl c.in-196.is c.load_pointer.ensures

pub returns-in_default : goal.returns-in_default
returns-in_default c = at_one 0xc5 refl refl (omega arith) c.load_pointer-in_default.ensures
