use Rattle.base_line.proofs.Laws.{adds_known}
use Rattle.rom_mnemonic.specs.Mnemonics.{field_text}
use Rattle.rom_mnemonic.proofs.Laws.{three_known}
use borrow.Author.Rules.{rules}
use Rattle.rom_compute_words.proofs.put_field.Goals as goal

pub returns-in-Ins : goal.returns-in-Ins
unfolding field_text
returns-in-Ins c = search (adds_known field_text, three_known, rules)

pub returns-in-Ext : goal.returns-in-Ext
unfolding field_text
returns-in-Ext c = search (adds_known field_text, three_known, rules)
