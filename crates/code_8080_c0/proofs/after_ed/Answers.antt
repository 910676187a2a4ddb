use Rattle.code_8080_c0.proofs.Laws.{calln_is, no_ed, retem_is}
use borrow.Author.Rules.{rules}
use Rattle.code_8080_c0.proofs.after_ed.Goals as goal

pub returns-in-237 : goal.returns-in-237
returns-in-237 c = search (calln_is, rules)

pub returns-in-253 : goal.returns-in-253
returns-in-253 c = search (retem_is, rules)

pub returns-in_default : goal.returns-in_default
returns-in_default c = search (no_ed, rules)
