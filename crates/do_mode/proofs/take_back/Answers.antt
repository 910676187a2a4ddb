use Rattle.do_mode.proofs.Laws.{back_kept, back_written}
use borrow.Author.Rules.{rules}
use Rattle.do_mode.proofs.take_back.Goals as goal

pub returns-then-m : goal.returns-then-m
returns-then-m c = search (back_written, rules)

pub returns-else-m : goal.returns-else-m
returns-else-m c = search (back_kept, rules)
