use borrow.Author.Rules.{rules}
use Rattle.quick_run.proofs.Laws.{none_yet}
use Rattle.quick_run.proofs.no_readings.Goals as goal

pub returns : goal.returns
returns c = search (none_yet, rules)
