use Rattle.calc_shift_at_once.proofs.Right.{shra_is}
use Rattle.calc_shift_at_once.proofs.shra.Goals as goal

pub returns : goal.returns
returns c = shra_is _ _ _ _ _ _ c.sign.ensures c.above.ensures.0 c.down.ensures
