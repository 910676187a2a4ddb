use Rattle.base_line.proofs.Laws.{adds_known}
use Rattle.rom_mnemonic.specs.Mnemonics.{arithmetic_text}
use Rattle.rom_mnemonic.proofs.Laws.{one_known, two_known}
use borrow.Author.Rules.{rules}
use Rattle.rom_compute_words.proofs.put_arithmetic.Goals as goal

pub returns-in-Two : goal.returns-in-Two
unfolding arithmetic_text
returns-in-Two c = search (adds_known arithmetic_text, one_known, two_known, rules)

pub returns-in-One : goal.returns-in-One
unfolding arithmetic_text
returns-in-One c = search (adds_known arithmetic_text, one_known, two_known, rules)

pub returns-in-Test : goal.returns-in-Test
unfolding arithmetic_text
returns-in-Test c = search (adds_known arithmetic_text, one_known, two_known, rules)
