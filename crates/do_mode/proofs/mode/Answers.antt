use Rattle.sheet.specs.Mode.{modes}
use Rattle.do_mode.proofs.Laws.{marks_known}
use borrow.Author.Rules.{rules}
use Rattle.do_mode.proofs.mode.Goals as goal

pub returns-in-PopPsw : goal.returns-in-PopPsw
unfolding modes
returns-in-PopPsw c = search (marks_known modes, rules)

pub returns-in-Reti : goal.returns-in-Reti
unfolding modes
returns-in-Reti c = search (marks_known modes, rules)

pub returns-in-Brkem : goal.returns-in-Brkem
unfolding modes
returns-in-Brkem c = search (marks_known modes, rules)
