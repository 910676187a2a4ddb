use Rattle.quick_pack.proofs.Laws.{branch_if, dbnzne, dbnze, dbnz, bcwz}
use borrow.Author.Rules.{rules}
use Rattle.quick_pack.proofs.conditional.Goals as goal

pub returns-in-If : goal.returns-in-If
returns-in-If c = search (branch_if, rules)

pub returns-in-Dbnzne : goal.returns-in-Dbnzne
returns-in-Dbnzne c = search (dbnzne, rules)

pub returns-in-Dbnze : goal.returns-in-Dbnze
returns-in-Dbnze c = search (dbnze, rules)

pub returns-in-Dbnz : goal.returns-in-Dbnz
returns-in-Dbnz c = search (dbnz, rules)

pub returns-in-Bcwz : goal.returns-in-Bcwz
returns-in-Bcwz c = search (bcwz, rules)
