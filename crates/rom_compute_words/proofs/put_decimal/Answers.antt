use Rattle.base_line.proofs.Laws.{adds_known}
use Rattle.rom_mnemonic.specs.Mnemonics.{decimal_text}
use borrow.Author.Rules.{rules}
use Rattle.rom_compute_words.proofs.put_decimal.Goals as goal

pub returns-in-Add4s : goal.returns-in-Add4s
unfolding decimal_text
returns-in-Add4s c = search (adds_known decimal_text, rules)

pub returns-in-Sub4s : goal.returns-in-Sub4s
unfolding decimal_text
returns-in-Sub4s c = search (adds_known decimal_text, rules)

pub returns-in-Cmp4s : goal.returns-in-Cmp4s
unfolding decimal_text
returns-in-Cmp4s c = search (adds_known decimal_text, rules)

pub returns-in-Rol4 : goal.returns-in-Rol4
unfolding decimal_text
returns-in-Rol4 c = search (adds_known decimal_text, rules)

pub returns-in-Ror4 : goal.returns-in-Ror4
unfolding decimal_text
returns-in-Ror4 c = search (adds_known decimal_text, rules)
