use native.Mathlib.Omega.{arith}
use Rattle.calc_shift_at_once.proofs.Right.{rorc_room, rorc_cast, rorc_is}
use Rattle.calc_shift_at_once.proofs.rorc.Goals as goal

pub right-requires : goal.right-requires
right-requires c = rorc_room c.args.word c.args.t.cy _ c.args.t.value _ c.width.ensures.0 c.join-whole.ensures (omega arith)

pub part-requires : goal.part-requires
part-requires c = rorc_cast c.args.word c.args.t.cy _ _ c.args.t.value _ _ c.width.ensures.0 c.join-whole.ensures c.right.ensures (omega arith)

pub returns : goal.returns
returns c = rorc_is _ _ _ _ _ _ _ c.width.ensures.0 c.join-whole.ensures c.right.ensures c.part.ensures
