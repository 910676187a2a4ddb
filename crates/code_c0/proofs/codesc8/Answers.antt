use native.Mathlib.Omega.{arith}
use Rattle.code_answer.proofs.CodeLaws.{at_one}
use Rattle.code_answer.proofs.DecodesLaws.{decodes_known, decodes_seq}
use Rattle.code_answer.proofs.FollowLaws.{with_byte_lem, with_word_lem}
use mathlib.Core.Path.{refl}
use Rattle.code_c0.proofs.codesc8.Goals as goal

pub returns-in-200 : goal.returns-in-200
returns-in-200 c = at_one 0xc8 refl refl c.in-200.is (decodes_seq _ c.word-size.ensures (decodes_seq _ c.byte-level.ensures (decodes_known c.known.ensures)))

pub returns-in-201 : goal.returns-in-201
returns-in-201 c = at_one 0xc9 refl refl c.in-201.is (decodes_known c.known-in-201.ensures)

pub returns-in-202 : goal.returns-in-202
returns-in-202 c = at_one 0xca refl refl c.in-202.is (with_word_lem _ c.word.ensures c.known-in-202.ensures)

pub returns-in-203 : goal.returns-in-203
returns-in-203 c = at_one 0xcb refl refl c.in-203.is (decodes_known c.known-in-203.ensures)

pub returns-in-204 : goal.returns-in-204
returns-in-204 c = at_one 0xcc refl refl c.in-204.is (decodes_known c.known-in-204.ensures)

pub returns-in-205 : goal.returns-in-205
returns-in-205 c = at_one 0xcd refl refl c.in-205.is (with_byte_lem _ c.byte.ensures c.known-in-205.ensures)

pub returns-in-206 : goal.returns-in-206
returns-in-206 c = at_one 0xce refl refl c.in-206.is (decodes_known c.known-in-206.ensures)

pub returns-in_default : goal.returns-in_default
returns-in_default c = at_one 0xcf refl refl (omega arith) (decodes_known c.known-in_default.ensures)
