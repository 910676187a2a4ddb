use Rattle.base_line.proofs.Laws.{adds_known}
use Rattle.rom_mnemonic.specs.Mnemonics.{compute_text}
use borrow.Author.Rules.{rules}
use Rattle.rom_compute_words.proofs.put_compute.Goals as goal

pub returns-in-Calculates : goal.returns-in-Calculates
unfolding compute_text
returns-in-Calculates c = search (adds_known compute_text, rules)

pub returns-in-Converts : goal.returns-in-Converts
unfolding compute_text
returns-in-Converts c = search (adds_known compute_text, rules)

pub returns-in-Shifts : goal.returns-in-Shifts
unfolding compute_text
returns-in-Shifts c = search (adds_known compute_text, rules)

pub returns-in-Bits : goal.returns-in-Bits
unfolding compute_text
returns-in-Bits c = search (adds_known compute_text, rules)

pub returns-in-Decimals : goal.returns-in-Decimals
unfolding compute_text
returns-in-Decimals c = search (adds_known compute_text, rules)

pub returns-in-Fields : goal.returns-in-Fields
unfolding compute_text
returns-in-Fields c = search (adds_known compute_text, rules)
