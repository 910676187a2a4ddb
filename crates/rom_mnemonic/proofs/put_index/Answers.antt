use Rattle.rom_mnemonic.proofs.Laws.{index_added, no_index}
use borrow.Author.Rules.{rules}
use Rattle.rom_mnemonic.proofs.put_index.Goals as goal

pub returns-in-Some : goal.returns-in-Some
returns-in-Some c = search (index_added, rules)

pub returns-in_default : goal.returns-in_default
returns-in_default c = search (no_index, rules)
