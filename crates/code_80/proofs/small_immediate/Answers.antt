use Rattle.code_80.proofs.Laws.{small_byte, small_signed, small_word}
use borrow.Author.Rules.{rules}
use Rattle.code_80.proofs.small_immediate.Goals as goal

pub returns-in-129 : goal.returns-in-129
returns-in-129 c = search (small_word, rules)

pub returns-in-131 : goal.returns-in-131
returns-in-131 c = search (small_signed, rules)

pub returns-in_default : goal.returns-in_default
returns-in_default c = search (small_byte, rules)
