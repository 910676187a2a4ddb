use Rattle.rom_mnemonic.proofs.Laws.{one_known, two_known}
use Rattle.rom_words.proofs.Laws.{primitive_known}
use Rattle.rom_mnemonic.specs.Mnemonics.{primitive_text}
use borrow.Author.Rules.{rules}
use Rattle.rom_words.proofs.put_primitive.Goals as goal

pub returns-in-Movbk : goal.returns-in-Movbk
unfolding primitive_text
returns-in-Movbk c = search (primitive_known, one_known, two_known, rules)

pub returns-in-Cmpbk : goal.returns-in-Cmpbk
unfolding primitive_text
returns-in-Cmpbk c = search (primitive_known, one_known, two_known, rules)

pub returns-in-Cmpm : goal.returns-in-Cmpm
unfolding primitive_text
returns-in-Cmpm c = search (primitive_known, one_known, two_known, rules)

pub returns-in-Ldm : goal.returns-in-Ldm
unfolding primitive_text
returns-in-Ldm c = search (primitive_known, one_known, two_known, rules)

pub returns-in-Stm : goal.returns-in-Stm
unfolding primitive_text
returns-in-Stm c = search (primitive_known, one_known, two_known, rules)

pub returns-in-Inm : goal.returns-in-Inm
unfolding primitive_text
returns-in-Inm c = search (primitive_known, one_known, two_known, rules)

pub returns-in-Outm : goal.returns-in-Outm
unfolding primitive_text
returns-in-Outm c = search (primitive_known, one_known, two_known, rules)
