use Rattle.engine.proofs.Laws.{advances_halted, advances_read, advances_unknown}
use borrow.Author.Rules.{rules}
use Rattle.engine.proofs.advance.Goals as goal

pub returns-then-marks : goal.returns-then-marks
returns-then-marks c = search (advances_halted, rules)

pub returns-in-Ok : goal.returns-in-Ok
returns-in-Ok c = search (advances_read, c.in-Ok.ensures, rules)

pub returns-in-Err : goal.returns-in-Err
returns-in-Err c = search (advances_unknown, c.in-Err.ensures, rules)
