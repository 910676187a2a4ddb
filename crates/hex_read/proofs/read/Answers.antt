use Rattle.hex_read.proofs.Storing.{checked, stored_all, left_alone}
use borrow.Author.Rules.{rules}
use Rattle.hex_read.proofs.read.Goals as goal

pub store_lines-requires : goal.store_lines-requires
store_lines-requires c = search (checked, c.in-Ok.ensures, rules)

pub returns-in-Ok : goal.returns-in-Ok
returns-in-Ok c = search (stored_all, c.in-Ok.ensures, rules)

pub returns-in-Err : goal.returns-in-Err
returns-in-Err c = search (left_alone, c.in-Err.ensures, rules)
