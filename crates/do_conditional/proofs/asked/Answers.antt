use Rattle.sheet.proofs.Lifted.{file_flag}
use Rattle.do_conditional.proofs.Laws.{asks, asks_3, asks_6, asks_7}
use borrow.Author.Rules.{rules}
use Rattle.do_conditional.proofs.asked.Goals as goal

pub returns-in-3 : goal.returns-in-3
returns-in-3 c = search (asks_3, rules)

pub returns-in-6 : goal.returns-in-6
returns-in-6 c = search (asks_6, rules)

pub returns-in_default : goal.returns-in_default
returns-in_default c = search (asks_7, rules)

pub returns-in-0 : goal.returns-in-0
returns-in-0 c = search (asks, file_flag, rules)

pub returns-in-1 : goal.returns-in-1
returns-in-1 c = search (asks, file_flag, rules)

pub returns-in-2 : goal.returns-in-2
returns-in-2 c = search (asks, file_flag, rules)

pub returns-in-4 : goal.returns-in-4
returns-in-4 c = search (asks, file_flag, rules)

pub returns-in-5 : goal.returns-in-5
returns-in-5 c = search (asks, file_flag, rules)
