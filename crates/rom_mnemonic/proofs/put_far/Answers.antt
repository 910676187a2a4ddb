use Rattle.rom_mnemonic.proofs.Laws.{far_added}
use borrow.Author.Rules.{rules}
use Rattle.rom_mnemonic.proofs.put_far.Goals as goal

pub returns : goal.returns
returns c = search (far_added, rules)
