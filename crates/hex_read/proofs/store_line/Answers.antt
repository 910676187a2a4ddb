use Rattle.hex_read.proofs.Storing.{data_stored, others_store_none}
use borrow.Author.Rules.{rules}
use Rattle.hex_read.proofs.store_line.Goals as goal

pub returns-then-kind_of-eq0 : goal.returns-then-kind_of-eq0
returns-then-kind_of-eq0 c = search (data_stored, rules)

pub returns-else-kind_of-eq0 : goal.returns-else-kind_of-eq0
returns-else-kind_of-eq0 c = search (others_store_none, rules)
