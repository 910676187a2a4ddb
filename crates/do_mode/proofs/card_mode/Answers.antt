use Rattle.sheet.specs.Mode.{card_modes}
use Rattle.do_mode.proofs.Laws.{marks_known}
use borrow.Author.Rules.{rules}
use Rattle.do_mode.proofs.card_mode.Goals as goal

pub returns-in-Calln : goal.returns-in-Calln
unfolding card_modes
returns-in-Calln c = search (marks_known card_modes, rules)

pub returns-in-Retem : goal.returns-in-Retem
unfolding card_modes
returns-in-Retem c = search (marks_known card_modes, rules)
