use Rattle.rom_mnemonic.proofs.Laws.{three_added}
use borrow.Author.Rules.{rules}
use Rattle.rom_mnemonic.proofs.put_three.Goals as goal

pub returns : goal.returns
returns c = search (three_added, rules)
