use Rattle.rom_mnemonic.specs.Mnemonics.{condition_letter}
use Rattle.rom_move_words.proofs.Laws.{long_name, short_name}
use borrow.Author.Rules.{rules}
use Rattle.rom_move_words.proofs.put_condition.Goals as goal

pub returns-then-last-ne32 : goal.returns-then-last-ne32
unfolding condition_letter
returns-then-last-ne32 c = search (long_name, rules)

pub returns-else-last-ne32 : goal.returns-else-last-ne32
unfolding condition_letter
returns-else-last-ne32 c = search (short_name, rules)
