use Rattle.rom_mnemonic.proofs.Laws.{opening_added}
use borrow.Author.Rules.{rules}
use Rattle.rom_mnemonic.proofs.put_within.Goals as goal

pub returns : goal.returns
returns c = search (opening_added, rules)
