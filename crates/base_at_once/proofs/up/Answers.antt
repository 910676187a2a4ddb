use Rattle.base_at_once.proofs.Scaled.{up_is}
use Rattle.base_at_once.proofs.up.Goals as goal

pub returns : goal.returns
returns c = rw c.at_most_16.ensures (up_is _ _)
