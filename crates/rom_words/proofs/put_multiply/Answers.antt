use Rattle.base_line.proofs.Laws.{adds_known}
use Rattle.rom_mnemonic.specs.Mnemonics.{multiply_text}
use borrow.Author.Rules.{rules}
use Rattle.rom_words.proofs.put_multiply.Goals as goal

pub returns-in-Mulu : goal.returns-in-Mulu
unfolding multiply_text
returns-in-Mulu c = search (adds_known multiply_text, rules)

pub returns-in-Mul : goal.returns-in-Mul
unfolding multiply_text
returns-in-Mul c = search (adds_known multiply_text, rules)

pub returns-in-MulByte : goal.returns-in-MulByte
unfolding multiply_text
returns-in-MulByte c = search (adds_known multiply_text, rules)

pub returns-in-MulWord : goal.returns-in-MulWord
unfolding multiply_text
returns-in-MulWord c = search (adds_known multiply_text, rules)

pub returns-in-Divu : goal.returns-in-Divu
unfolding multiply_text
returns-in-Divu c = search (adds_known multiply_text, rules)

pub returns-in-Div : goal.returns-in-Div
unfolding multiply_text
returns-in-Div c = search (adds_known multiply_text, rules)
