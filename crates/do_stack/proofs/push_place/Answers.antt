use Rattle.sheet.specs.Stack.{push_place}
use Rattle.sheet.proofs.Lifted.{memory_known}
use borrow.Author.Rules.{rules}
use Rattle.do_stack.proofs.push_place.Goals as goal

pub returns-in-Register : goal.returns-in-Register
unfolding push_place
returns-in-Register c = search (memory_known push_place, rules)

pub returns-in-Memory : goal.returns-in-Memory
unfolding push_place
returns-in-Memory c = search (memory_known push_place, rules)
