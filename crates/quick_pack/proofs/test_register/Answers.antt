use Rattle.quick_pack.proofs.Laws.{test_registers, test_immediate}
use borrow.Author.Rules.{rules}
use Rattle.quick_pack.proofs.test_register.Goals as goal

pub returns-in-Register : goal.returns-in-Register
returns-in-Register c = search (test_registers, rules)

pub returns-in-Immediate : goal.returns-in-Immediate
returns-in-Immediate c = search (test_immediate, rules)
