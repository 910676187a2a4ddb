use Rattle.quick_port.proofs.Laws.{port_named, port_held}
use borrow.Author.Rules.{rules}
use Rattle.quick_port.proofs.port_of.Goals as goal

pub returns-then-rm-eq-NO_FORM : goal.returns-then-rm-eq-NO_FORM
returns-then-rm-eq-NO_FORM c = search (port_named, rules)

pub returns : goal.returns
returns c = search (port_held, rules)
