use Rattle.sheet.specs.Transfer.{transfer}
use Rattle.sheet.proofs.Lifted.{memory_known}
use borrow.Author.Rules.{rules}
use Rattle.do_transfer.proofs.transfer.Goals as goal

pub returns-in-Mov : goal.returns-in-Mov
unfolding transfer
returns-in-Mov c = search (memory_known transfer, rules)

pub returns-in-LoadAcc : goal.returns-in-LoadAcc
unfolding transfer
returns-in-LoadAcc c = search (memory_known transfer, rules)

pub returns-in-StoreAcc : goal.returns-in-StoreAcc
unfolding transfer
returns-in-StoreAcc c = search (memory_known transfer, rules)

pub returns-in-ToSegment : goal.returns-in-ToSegment
unfolding transfer
returns-in-ToSegment c = search (memory_known transfer, rules)

pub returns-in-FromSegment : goal.returns-in-FromSegment
unfolding transfer
returns-in-FromSegment c = search (memory_known transfer, rules)

pub returns-in-LoadPointer : goal.returns-in-LoadPointer
unfolding transfer
returns-in-LoadPointer c = search (memory_known transfer, rules)

pub returns-in-AhFromPsw : goal.returns-in-AhFromPsw
unfolding transfer
returns-in-AhFromPsw c = search (memory_known transfer, rules)

pub returns-in-PswFromAh : goal.returns-in-PswFromAh
unfolding transfer
returns-in-PswFromAh c = search (memory_known transfer, rules)

pub returns-in-Ldea : goal.returns-in-Ldea
unfolding transfer
returns-in-Ldea c = search (memory_known transfer, rules)

pub returns-in-Trans : goal.returns-in-Trans
unfolding transfer
returns-in-Trans c = search (memory_known transfer, rules)

pub returns-in-Xch : goal.returns-in-Xch
unfolding transfer
returns-in-Xch c = search (memory_known transfer, rules)
