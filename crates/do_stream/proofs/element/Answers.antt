use Rattle.mach_ports.proofs.Told.{ok_number, err_number}
use Rattle.do_stream.proofs.Laws.{no_element, one_element}
use borrow.Author.Rules.{rules}
use Rattle.do_stream.proofs.element.Goals as goal

pub returns-then-is_ok : goal.returns-then-is_ok
returns-then-is_ok c = search (one_element, ok_number, rules)

pub returns-else-is_ok : goal.returns-else-is_ok
returns-else-is_ok c = search (no_element, err_number, rules)
