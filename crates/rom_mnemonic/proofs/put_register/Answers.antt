use Rattle.rom_mnemonic.proofs.Laws.{register_added}
use borrow.Author.Rules.{rules}
use Rattle.rom_mnemonic.proofs.put_register.Goals as goal

pub returns : goal.returns
returns c = search (register_added, rules)
