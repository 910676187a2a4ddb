use Rattle.rom_mnemonic.proofs.Laws.{direct_address, formed_address}
use borrow.Author.Rules.{rules}
use Rattle.rom_mnemonic.proofs.put_address.Goals as goal

pub returns-in-Formed : goal.returns-in-Formed
returns-in-Formed c = search (formed_address, rules)

pub returns-in-Direct : goal.returns-in-Direct
returns-in-Direct c = search (direct_address, rules)
