use Rattle.rom_mnemonic.specs.Mnemonics.{product_text}
use Rattle.rom_mnemonic.proofs.Laws.{three_known}
use borrow.Author.Rules.{rules}
use Rattle.rom_words.proofs.put_product.Goals as goal

pub returns : goal.returns
unfolding product_text
returns c = search (three_known, rules)
