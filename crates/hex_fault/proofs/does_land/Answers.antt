use Rattle.hex_fault.proofs.Laws.{data_lands, others_land}
use borrow.Author.Rules.{rules}
use Rattle.hex_fault.proofs.does_land.Goals as goal

pub returns-then-kind_of-eq0 : goal.returns-then-kind_of-eq0
returns-then-kind_of-eq0 c = search (data_lands, rules)

pub returns : goal.returns
returns c = search (others_land, rules)
