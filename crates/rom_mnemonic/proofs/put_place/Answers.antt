use Rattle.rom_mnemonic.proofs.Laws.{one_added}
use borrow.Author.Rules.{rules}
use Rattle.rom_mnemonic.proofs.put_place.Goals as goal

pub returns : goal.returns
returns c = search (one_added, rules)
