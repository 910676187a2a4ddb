use Rattle.rom_mnemonic.proofs.Laws.{block_added}
use borrow.Author.Rules.{rules}
use Rattle.rom_mnemonic.proofs.put_block.Goals as goal

pub returns : goal.returns
returns c = search (block_added, rules)
