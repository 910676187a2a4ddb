use Rattle.rom_mnemonic.proofs.Laws.{two_added}
use borrow.Author.Rules.{rules}
use Rattle.rom_mnemonic.proofs.put_place_source.Goals as goal

pub returns : goal.returns
returns c = search (two_added, rules)
