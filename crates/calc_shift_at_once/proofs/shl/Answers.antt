use Rattle.calc_shift_at_once.proofs.Left.{shl_is}
use Rattle.calc_shift_at_once.proofs.shl.Goals as goal

pub returns : goal.returns
returns c = shl_is _ _ _ _ _ _ c.fit.ensures c.up-y.ensures c.wrap.ensures
