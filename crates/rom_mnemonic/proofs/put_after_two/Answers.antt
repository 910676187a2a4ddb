use Rattle.rom_mnemonic.proofs.Laws.{after_two_added}
use borrow.Author.Rules.{rules}
use Rattle.rom_mnemonic.proofs.put_after_two.Goals as goal

pub returns : goal.returns
returns c = search (after_two_added, rules)
