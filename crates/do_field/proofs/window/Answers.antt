use Rattle.mach_tally.proofs.Laws.{sums}
use Rattle.do_field.proofs.Laws.{window_one, window_two}
use borrow.Author.Rules.{rules}
use Rattle.do_field.proofs.window.Goals as goal

pub returns-then-both : goal.returns-then-both
returns-then-both c = search (window_two, sums, rules)

pub returns : goal.returns
returns c = search (window_one, rules)
