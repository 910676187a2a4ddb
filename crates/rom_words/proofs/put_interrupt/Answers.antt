use Rattle.base_line.proofs.Laws.{adds_known}
use Rattle.rom_mnemonic.specs.Mnemonics.{interrupt_text}
use borrow.Author.Rules.{rules}
use Rattle.rom_words.proofs.put_interrupt.Goals as goal

pub returns-in-Brk3 : goal.returns-in-Brk3
unfolding interrupt_text
returns-in-Brk3 c = search (adds_known interrupt_text, rules)

pub returns-in-Brk : goal.returns-in-Brk
unfolding interrupt_text
returns-in-Brk c = search (adds_known interrupt_text, rules)

pub returns-in-Brkv : goal.returns-in-Brkv
unfolding interrupt_text
returns-in-Brkv c = search (adds_known interrupt_text, rules)

pub returns-in-Chkind : goal.returns-in-Chkind
unfolding interrupt_text
returns-in-Chkind c = search (adds_known interrupt_text, rules)
