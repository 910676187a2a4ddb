use Rattle.rom_mnemonic.proofs.Laws.{two_known}
use borrow.Author.Rules.{rules}
use Rattle.rom_compute_words.proofs.put_shift.Goals as goal

pub returns : goal.returns
returns c = search (two_known, rules)
