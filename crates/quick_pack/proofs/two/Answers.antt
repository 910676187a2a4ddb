use Rattle.quick_pack.proofs.Laws.{two_held, two_immediate}
use borrow.Author.Rules.{rules}
use Rattle.quick_pack.proofs.two.Goals as goal

pub returns-in-Held : goal.returns-in-Held
returns-in-Held c = search (two_held, rules)

pub returns-in-Immediate : goal.returns-in-Immediate
returns-in-Immediate c = search (two_immediate, rules)
