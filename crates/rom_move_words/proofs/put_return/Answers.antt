use Rattle.rom_mnemonic.specs.Mnemonics.{return_text}
use borrow.Author.Rules.{rules}
use Rattle.rom_move_words.proofs.put_return.Goals as goal

pub returns : goal.returns
unfolding return_text
returns c = search rules
