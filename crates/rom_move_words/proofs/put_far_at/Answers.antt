use Rattle.rom_mnemonic.specs.Mnemonics.{far_at_text}
use borrow.Author.Rules.{rules}
use Rattle.rom_move_words.proofs.put_far_at.Goals as goal

pub returns : goal.returns
unfolding far_at_text
returns c = search rules
