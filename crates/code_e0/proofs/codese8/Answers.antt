use native.Mathlib.Omega.{arith}
use Rattle.code_answer.proofs.CodeLaws.{at_one}
use Rattle.code_answer.proofs.FollowLaws.{with_far_lem, with_short_lem, with_word_lem}
use mathlib.Core.Path.{refl}
use Rattle.code_e0.proofs.codese8.Goals as goal

pub returns-in-232 : goal.returns-in-232
returns-in-232 c = at_one 0xe8 refl refl c.in-232.is (with_word_lem _ c.word.ensures c.known.ensures)

pub returns-in-233 : goal.returns-in-233
returns-in-233 c = at_one 0xe9 refl refl c.in-233.is (with_word_lem _ c.word-in-233.ensures c.known-in-233.ensures)

pub returns-in-234 : goal.returns-in-234
returns-in-234 c = at_one 0xea refl refl c.in-234.is (with_far_lem _ c.far-to.ensures.0 c.far-to.ensures.1 c.known-in-234.ensures)

pub returns-in_default : goal.returns-in_default
returns-in_default c = at_one 0xeb refl refl (omega arith) (with_short_lem _ c.short.ensures c.known-in_default.ensures)
