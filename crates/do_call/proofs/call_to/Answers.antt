use Rattle.sheet.specs.Branch.{call_to}
use Rattle.sheet.proofs.Lifted.{memory_known}
use borrow.Author.Rules.{rules}
use Rattle.do_call.proofs.call_to.Goals as goal

pub returns-in-Register : goal.returns-in-Register
returns-in-Register c = search (memory_known call_to, rules)

pub returns-in-Memory : goal.returns-in-Memory
returns-in-Memory c = search (memory_known call_to, rules)
