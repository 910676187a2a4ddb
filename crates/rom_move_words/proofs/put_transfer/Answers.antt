use Rattle.base_line.proofs.Laws.{adds_known}
use Rattle.rom_mnemonic.specs.Mnemonics.{transfer_text}
use borrow.Author.Rules.{rules}
use Rattle.rom_move_words.proofs.put_transfer.Goals as goal

pub returns-in-Mov : goal.returns-in-Mov
unfolding transfer_text
returns-in-Mov c = search (adds_known transfer_text, rules)

pub returns-in-LoadAcc : goal.returns-in-LoadAcc
unfolding transfer_text
returns-in-LoadAcc c = search (adds_known transfer_text, rules)

pub returns-in-StoreAcc : goal.returns-in-StoreAcc
unfolding transfer_text
returns-in-StoreAcc c = search (adds_known transfer_text, rules)

pub returns-in-ToSegment : goal.returns-in-ToSegment
unfolding transfer_text
returns-in-ToSegment c = search (adds_known transfer_text, rules)

pub returns-in-FromSegment : goal.returns-in-FromSegment
unfolding transfer_text
returns-in-FromSegment c = search (adds_known transfer_text, rules)

pub returns-in-LoadPointer : goal.returns-in-LoadPointer
unfolding transfer_text
returns-in-LoadPointer c = search (adds_known transfer_text, rules)

pub returns-in-AhFromPsw : goal.returns-in-AhFromPsw
unfolding transfer_text
returns-in-AhFromPsw c = search (adds_known transfer_text, rules)

pub returns-in-PswFromAh : goal.returns-in-PswFromAh
unfolding transfer_text
returns-in-PswFromAh c = search (adds_known transfer_text, rules)

pub returns-in-Ldea : goal.returns-in-Ldea
unfolding transfer_text
returns-in-Ldea c = search (adds_known transfer_text, rules)

pub returns-in-Trans : goal.returns-in-Trans
unfolding transfer_text
returns-in-Trans c = search (adds_known transfer_text, rules)

pub returns-in-Xch : goal.returns-in-Xch
unfolding transfer_text
returns-in-Xch c = search (adds_known transfer_text, rules)
