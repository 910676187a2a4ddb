use borrow.Author.Rules.{rules}
use Prim.Native.Nat.{◌-◌}
use Rattle.do_frame.proofs.Laws.{copies_none, copies_more, copies_end}
use Rattle.do_frame.proofs.copy_pointers.Goals as goal

pub loop-i-init : goal.loop-i-init
loop-i-init c = search (copies_none, rules)

pub loop-i-preserved : goal.loop-i-preserved
loop-i-preserved c = search (copies_more, rules)

pub returns : goal.returns
returns c = search (copies_end, rules)
