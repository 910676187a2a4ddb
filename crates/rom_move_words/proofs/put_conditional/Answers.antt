use Rattle.base_line.proofs.Laws.{adds_known_at}
use Rattle.rom_mnemonic.specs.Mnemonics.{conditional_text}
use borrow.Author.Rules.{rules}
use Rattle.rom_move_words.proofs.put_conditional.Goals as goal

pub returns-in-If : goal.returns-in-If
unfolding conditional_text
returns-in-If c = search (adds_known_at conditional_text, rules)

pub returns-in-Dbnzne : goal.returns-in-Dbnzne
unfolding conditional_text
returns-in-Dbnzne c = search (adds_known_at conditional_text, rules)

pub returns-in-Dbnze : goal.returns-in-Dbnze
unfolding conditional_text
returns-in-Dbnze c = search (adds_known_at conditional_text, rules)

pub returns-in-Dbnz : goal.returns-in-Dbnz
unfolding conditional_text
returns-in-Dbnz c = search (adds_known_at conditional_text, rules)

pub returns-in-Bcwz : goal.returns-in-Bcwz
unfolding conditional_text
returns-in-Bcwz c = search (adds_known_at conditional_text, rules)
