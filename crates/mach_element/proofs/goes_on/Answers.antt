use Rattle.sheet.specs.Block.{goes_on}
use Rattle.sheet.proofs.Lifted.{file_flag, file_known, file_pure}
use Rattle.mach_element.proofs.Laws.{denied}
use borrow.Author.Rules.{rules}
use Rattle.mach_element.proofs.goes_on.Goals as goal

pub returns-in-Once : goal.returns-in-Once
unfolding goes_on
returns-in-Once c = search (file_known goes_on, file_pure, rules)

pub returns-in-WhileZ : goal.returns-in-WhileZ
unfolding goes_on
returns-in-WhileZ c = search (file_known goes_on, file_flag, rules)

pub returns-in-WhileNotZ : goal.returns-in-WhileNotZ
unfolding goes_on
returns-in-WhileNotZ c = search (file_known goes_on, denied, rules)

pub returns-in-WhileCy : goal.returns-in-WhileCy
unfolding goes_on
returns-in-WhileCy c = search (file_known goes_on, file_flag, rules)

pub returns-in-WhileNotCy : goal.returns-in-WhileNotCy
unfolding goes_on
returns-in-WhileNotCy c = search (file_known goes_on, denied, rules)
