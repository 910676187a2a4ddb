use borrow.Author.Rules.{rules}
use Prim.Native.Nat.{◌-◌}
use Rattle.do_decimal.proofs.Laws.{turns_none, turns_more, turns_end}
use Rattle.do_decimal.proofs.chained.Goals as goal

pub loop-i-init : goal.loop-i-init
loop-i-init c = search (turns_none, rules)

pub loop-i-preserved : goal.loop-i-preserved
loop-i-preserved c = search (turns_more, rules)

pub returns : goal.returns
returns c = search (turns_end, rules)
