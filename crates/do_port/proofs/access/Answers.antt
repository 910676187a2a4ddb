use Rattle.sheet.specs.Ports.{ports}
use Rattle.mach_ports.proofs.Told.{ports_known}
use borrow.Author.Rules.{rules}
use Rattle.do_port.proofs.access.Goals as goal

pub returns-in-In : goal.returns-in-In
returns-in-In c = search (ports_known ports, rules)

pub returns-in-Out : goal.returns-in-Out
returns-in-Out c = search (ports_known ports, rules)
