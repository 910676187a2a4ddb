use Rattle.base_line.proofs.Laws.{adds_known}
use Rattle.rom_mnemonic.specs.Mnemonics.{port_text}
use Rattle.rom_mnemonic.proofs.Laws.{two_known}
use borrow.Author.Rules.{rules}
use Rattle.rom_words.proofs.put_port.Goals as goal

pub returns-in-In : goal.returns-in-In
unfolding port_text
returns-in-In c = search (adds_known port_text, two_known, rules)

pub returns-in-Out : goal.returns-in-Out
unfolding port_text
returns-in-Out c = search (adds_known port_text, two_known, rules)
