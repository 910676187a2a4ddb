use Rattle.rom_mnemonic.proofs.Laws.{after_known, one_added}
use borrow.Author.Rules.{rules}
use Rattle.rom_move_words.proofs.put_if.Goals as goal

pub returns : goal.returns
returns c = search (one_added, after_known, rules)
