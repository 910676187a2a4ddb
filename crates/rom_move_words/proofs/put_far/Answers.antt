use Rattle.rom_mnemonic.specs.Mnemonics.{far_text}
use borrow.Author.Rules.{rules}
use Rattle.rom_move_words.proofs.put_far.Goals as goal

pub returns : goal.returns
unfolding far_text
returns c = search rules
