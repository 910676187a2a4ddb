use Rattle.base_line.proofs.Laws.{adds_known_at}
use Rattle.rom_mnemonic.specs.Mnemonics.{move_text}
use borrow.Author.Rules.{rules}
use Rattle.rom_move_words.proofs.put_move.Goals as goal

pub returns-in-Transfers : goal.returns-in-Transfers
unfolding move_text
returns-in-Transfers c = search (adds_known_at move_text, rules)

pub returns-in-Stacks : goal.returns-in-Stacks
unfolding move_text
returns-in-Stacks c = search (adds_known_at move_text, rules)

pub returns-in-Branches : goal.returns-in-Branches
unfolding move_text
returns-in-Branches c = search (adds_known_at move_text, rules)

pub returns-in-Tests : goal.returns-in-Tests
unfolding move_text
returns-in-Tests c = search (adds_known_at move_text, rules)
