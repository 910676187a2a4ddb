use Rattle.base_line.proofs.Laws.{adds_known}
use Rattle.rom_mnemonic.specs.Mnemonics.{mode_text}
use borrow.Author.Rules.{rules}
use Rattle.rom_words.proofs.put_mode.Goals as goal

pub returns-in-PopPsw : goal.returns-in-PopPsw
unfolding mode_text
returns-in-PopPsw c = search (adds_known mode_text, rules)

pub returns-in-Reti : goal.returns-in-Reti
unfolding mode_text
returns-in-Reti c = search (adds_known mode_text, rules)

pub returns-in-Brkem : goal.returns-in-Brkem
unfolding mode_text
returns-in-Brkem c = search (adds_known mode_text, rules)
