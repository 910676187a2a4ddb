use mathlib.Core.List.{[], ◌∷◌}
use Rattle.code_answer.proofs.CodeLaws.{at_one, at_row, at_rest}
use Rattle.code_answer.proofs.DecodesLaws.{decodes_known}
use Rattle.code_answer.proofs.FollowLaws.{with_short_lem, with_word_lem}
use native.Mathlib.Omega.{arith}
use mathlib.Core.Path.{refl}
use borrow.Author.Rules.{rules}
use Rattle.code_40.proofs.codes60.Goals as goal

pub returns-in-96 : goal.returns-in-96
returns-in-96 c = at_one 0x60 refl refl c.in-96.is (decodes_known c.known.ensures)

pub returns-in-97 : goal.returns-in-97
returns-in-97 c = at_one 0x61 refl refl c.in-97.is (decodes_known c.known-in-97.ensures)

pub returns-in-98 : goal.returns-in-98
returns-in-98 c = at_one 0x62 refl refl c.in-98.is c.chkind.ensures

pub returns-in-104 : goal.returns-in-104
returns-in-104 c = at_one 0x68 refl refl c.in-104.is (with_word_lem _ c.word.ensures c.known-in-104.ensures)

pub returns-in-105 : goal.returns-in-105
returns-in-105 c = at_one 0x69 refl refl c.in-105.is c.multiply.ensures

pub returns-in-106 : goal.returns-in-106
returns-in-106 c = at_one 0x6a refl refl c.in-106.is (with_short_lem _ c.short.ensures c.known-in-106.ensures)

pub returns-in-107 : goal.returns-in-107
returns-in-107 c = at_one 0x6b refl refl c.in-107.is c.multiply-in-107.ensures

pub returns-in-108 : goal.returns-in-108
returns-in-108 c = at_row 0x6c refl (omega arith) (omega arith) (decodes_known c.block.ensures)

pub returns-in-110 : goal.returns-in-110
returns-in-110 c = at_row 0x6e refl (omega arith) (omega arith) (decodes_known c.block-in-110.ensures)

pub returns-in_default : goal.returns-in_default
returns-in_default c = at_rest 0x60 16 ((0x60 ∷ []) ∷ (0x61 ∷ []) ∷ (0x62 ∷ []) ∷ (0x68 ∷ []) ∷ (0x69 ∷ []) ∷ (0x6a ∷ []) ∷ (0x6b ∷ []) ∷ (0x6c ∷ 0x6d ∷ []) ∷ (0x6e ∷ 0x6f ∷ []) ∷ []) refl (search rules) (search rules) (search rules)
