use Rattle.base_line.proofs.Laws.{adds_known_at}
use Rattle.rom_mnemonic.specs.Mnemonics.{instr_text}
use borrow.Author.Rules.{rules}
use Rattle.rom_words.proofs.put_words.Goals as goal

pub returns-in-Computes : goal.returns-in-Computes
unfolding instr_text
returns-in-Computes c = search (adds_known_at instr_text, rules)

pub returns-in-Moves : goal.returns-in-Moves
unfolding instr_text
returns-in-Moves c = search (adds_known_at instr_text, rules)

pub returns-in-Multiplies : goal.returns-in-Multiplies
unfolding instr_text
returns-in-Multiplies c = search (adds_known_at instr_text, rules)

pub returns-in-Interrupts : goal.returns-in-Interrupts
unfolding instr_text
returns-in-Interrupts c = search (adds_known_at instr_text, rules)

pub returns-in-Blocks : goal.returns-in-Blocks
unfolding instr_text
returns-in-Blocks c = search (adds_known_at instr_text, rules)

pub returns-in-Ports : goal.returns-in-Ports
unfolding instr_text
returns-in-Ports c = search (adds_known_at instr_text, rules)

pub returns-in-Controls : goal.returns-in-Controls
unfolding instr_text
returns-in-Controls c = search (adds_known_at instr_text, rules)

pub returns-in-Modes : goal.returns-in-Modes
unfolding instr_text
returns-in-Modes c = search (adds_known_at instr_text, rules)

pub returns-in-Cards : goal.returns-in-Cards
unfolding instr_text
returns-in-Cards c = search (adds_known_at instr_text, rules)
