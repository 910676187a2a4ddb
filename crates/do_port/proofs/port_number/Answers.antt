use Rattle.do_port.proofs.Laws.{port_in_dw, port_numbered}
use borrow.Author.Rules.{rules}
use Rattle.do_port.proofs.port_number.Goals as goal

pub returns-in-InDw : goal.returns-in-InDw
returns-in-InDw c = search (port_in_dw, rules)

pub returns-in-Numbered : goal.returns-in-Numbered
returns-in-Numbered c = search (port_numbered, rules)
