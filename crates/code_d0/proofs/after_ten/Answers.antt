use Rattle.code_d0.proofs.Laws.{no_ten, ten_follows}
use Rattle.code_d0.proofs.after_ten.Goals as goal

pub returns-then-byte-eq10 : goal.returns-then-byte-eq10
returns-then-byte-eq10 c = ten_follows c.byte.ensures _ c.if-byte-eq10.true c.known.ensures

pub returns-else-byte-eq10 : goal.returns-else-byte-eq10
returns-else-byte-eq10 c = no_ten c.byte.ensures _ c.if-byte-eq10.false
