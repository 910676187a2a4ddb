use Rattle.rom_mnemonic.specs.Mnemonics.{push_text}
use borrow.Author.Rules.{rules}
use Rattle.rom_move_words.proofs.put_push.Goals as goal

pub returns : goal.returns
unfolding push_text
returns c = search rules
