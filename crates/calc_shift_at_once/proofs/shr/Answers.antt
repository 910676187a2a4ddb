use Rattle.calc_shift_at_once.proofs.Right.{shr_last}
use Rattle.calc_shift_at_once.proofs.shr.Goals as goal

pub returns : goal.returns
returns c = shr_last _ _ _ _ c.down.ensures
