use Rattle.code_80.proofs.Laws.{no_segment, ps_loaded, segment_loaded, segment_stored}
use borrow.Author.Rules.{rules}
use Rattle.code_80.proofs.with_segment.Goals as goal
use Rattle.code_80.proofs.with_segment.Goals.{else-load, then-load+else-seg-eq-PS}

pub returns-then-seg-ge4 : goal.returns-then-seg-ge4
returns-then-seg-ge4 c = no_segment c.operands-o.ensures c.args.load (search rules)

pub returns-then-seg-eq-PS : goal.returns-then-seg-eq-PS
returns-then-seg-eq-PS c = ps_loaded c.operands-o.ensures c.if-load.true (search rules) (search rules)

pub returns : goal.returns
returns c = elim c.if-load.branch [ then-load+else-seg-eq-PS w ↦ segment_loaded c.operands-o.ensures w.if-load.true (search rules) w.if-seg-eq-PS.false (rw w.group-is at c.known.ensures) | else-load w ↦ segment_stored c.operands-o.ensures w.if-load.false (search rules) (rw w.group-is at c.known.ensures) ]
