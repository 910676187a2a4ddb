use Rattle.mach_tally.proofs.Laws.{sums}
use Rattle.do_field.proofs.Laws.{ins_is}
use borrow.Author.Rules.{rules}
use Rattle.do_field.proofs.ins.Goals as goal

pub returns : goal.returns
returns c = search (ins_is, sums, rules)
