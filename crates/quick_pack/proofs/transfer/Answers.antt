use Rattle.quick_pack.proofs.Laws.{known, load_acc, store_acc, from_segment_is, ldea_is, xch_is}
use Rattle.sheet.specs.Groups.{Transfers}
use borrow.Author.Rules.{rules}
use Rattle.quick_pack.proofs.transfer.Goals as goal

pub returns-in-Mov : goal.returns-in-Mov
returns-in-Mov c = search (known Transfers, rules)

pub returns-in-LoadAcc : goal.returns-in-LoadAcc
returns-in-LoadAcc c = search (load_acc, rules)

pub returns-in-StoreAcc : goal.returns-in-StoreAcc
returns-in-StoreAcc c = search (store_acc, rules)

pub returns-in-Register : goal.returns-in-Register
returns-in-Register c = search (from_segment_is, rules)

pub returns-in-Ldea : goal.returns-in-Ldea
returns-in-Ldea c = search (ldea_is, rules)

pub returns-in-Register-with : goal.returns-in-Register-with
returns-in-Register-with c = search (xch_is, rules)
