use Rattle.calc_8080.proofs.Laws.{counted_is}
use Rattle.calc_8080.proofs.counted.Goals as goal

pub returns : goal.returns
returns c =
    rw (c.concluded.ensures, c.half_carry.ensures, c.plain-d.ensures.0)
    (counted_is _ _ _ _ _)
