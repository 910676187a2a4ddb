use Rattle.quick_pack.proofs.Laws.{mov_held, mov_immediate}
use borrow.Author.Rules.{rules}
use Rattle.quick_pack.proofs.mov.Goals as goal

pub returns-in-Held : goal.returns-in-Held
returns-in-Held c = search (mov_held, rules)

pub returns-in-Immediate : goal.returns-in-Immediate
returns-in-Immediate c = search (mov_immediate, rules)
