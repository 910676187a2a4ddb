use Rattle.rom_mnemonic.proofs.Laws.{after_added}
use borrow.Author.Rules.{rules}
use Rattle.rom_mnemonic.proofs.put_after.Goals as goal

pub returns : goal.returns
returns c = search (after_added, rules)
