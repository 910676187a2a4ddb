use Rattle.do_control.proofs.Laws.{at_flag, at_halt, at_nop, at_not_cy}
use Rattle.sheet.specs.Control.{control}
use borrow.Author.Rules.{rules}
use Rattle.do_control.proofs.control.Goals as goal

pub returns-in-Nop : goal.returns-in-Nop
unfolding control
returns-in-Nop c = search (at_nop, rules)

pub returns-in-Halt : goal.returns-in-Halt
unfolding control
returns-in-Halt c = search (at_halt, rules)

pub returns-in-Di : goal.returns-in-Di
unfolding control
returns-in-Di c = search (at_flag, rules)

pub returns-in-Ei : goal.returns-in-Ei
unfolding control
returns-in-Ei c = search (at_flag, rules)

pub returns-in-ClrCy : goal.returns-in-ClrCy
unfolding control
returns-in-ClrCy c = search (at_flag, rules)

pub returns-in-SetCy : goal.returns-in-SetCy
unfolding control
returns-in-SetCy c = search (at_flag, rules)

pub returns-in-NotCy : goal.returns-in-NotCy
unfolding control
returns-in-NotCy c = search (at_not_cy, rules)

pub returns-in-ClrDir : goal.returns-in-ClrDir
unfolding control
returns-in-ClrDir c = search (at_flag, rules)

pub returns-in-SetDir : goal.returns-in-SetDir
unfolding control
returns-in-SetDir c = search (at_flag, rules)
