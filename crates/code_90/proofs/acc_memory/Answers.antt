use native.Mathlib.Omega.{arith}
use Rattle.code_90.proofs.Laws.{load_acc, store_acc}
use borrow.Author.Rules.{rules}
use Rattle.code_90.proofs.acc_memory.Goals as goal
use Rattle.code_90.proofs.acc_memory.Goals.{else-b-lt162, then-b-lt162}

pub returns : goal.returns
returns c = elim c.if-b-lt162.branch [ then-b-lt162 w ↦ load_acc _ (search rules) (search rules) c.word.ensures (rw (w.group-is, c.direct-address.ensures) at c.known.ensures) | else-b-lt162 w ↦ store_acc _ (omega arith) (search rules) c.word.ensures (rw (w.group-is, c.direct-address.ensures) at c.known.ensures) ]
