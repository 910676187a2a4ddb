use Rattle.rom_mnemonic.proofs.Laws.{formed_added}
use borrow.Author.Rules.{rules}
use Rattle.rom_mnemonic.proofs.put_formed.Goals as goal

pub returns : goal.returns
returns c = search (formed_added, rules)
