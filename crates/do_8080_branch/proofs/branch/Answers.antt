use Rattle.sheet.specs.CardBranch.{card_branch}
use Rattle.sheet.proofs.Lifted.{memory_known}
use borrow.Author.Rules.{rules}
use Rattle.do_8080_branch.proofs.branch.Goals as goal

pub returns-in-Jmp : goal.returns-in-Jmp
unfolding card_branch
returns-in-Jmp c = search (memory_known card_branch, rules)

pub returns-in-JumpIf : goal.returns-in-JumpIf
unfolding card_branch
returns-in-JumpIf c = search (memory_known card_branch, rules)

pub returns-in-Call : goal.returns-in-Call
unfolding card_branch
returns-in-Call c = search (memory_known card_branch, rules)

pub returns-in-CallIf : goal.returns-in-CallIf
unfolding card_branch
returns-in-CallIf c = search (memory_known card_branch, rules)

pub returns-in-Ret : goal.returns-in-Ret
unfolding card_branch
returns-in-Ret c = search (memory_known card_branch, rules)

pub returns-in-RetIf : goal.returns-in-RetIf
unfolding card_branch
returns-in-RetIf c = search (memory_known card_branch, rules)

pub returns-in-Rst : goal.returns-in-Rst
unfolding card_branch
returns-in-Rst c = search (memory_known card_branch, rules)

pub returns-in-Pchl : goal.returns-in-Pchl
unfolding card_branch
returns-in-Pchl c = search (memory_known card_branch, rules)
