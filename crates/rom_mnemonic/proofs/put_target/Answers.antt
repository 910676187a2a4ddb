use Rattle.rom_mnemonic.proofs.Laws.{one_known}
use borrow.Author.Rules.{rules}
use Rattle.rom_mnemonic.proofs.put_target.Goals as goal

pub returns : goal.returns
returns c = search (one_known, rules)
