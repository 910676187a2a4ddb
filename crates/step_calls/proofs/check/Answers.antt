use Rattle.step_calls.proofs.Laws.{both_long, check_bad, check_good, ram_long}
use borrow.Author.Rules.{rules}
use Rattle.step_calls.proofs.check.Goals as goal

pub returns-then-long-gt1048576 : goal.returns-then-long-gt1048576
returns-then-long-gt1048576 c = search (ram_long, rules)

pub returns-then-long-n : goal.returns-then-long-n
returns-then-long-n c = search (both_long, rules)

pub returns-then-fixed-placed : goal.returns-then-fixed-placed
returns-then-fixed-placed c = search (check_good, rules)

pub returns : goal.returns
returns c = search (check_bad, rules)
