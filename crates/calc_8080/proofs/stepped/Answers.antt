use Rattle.calc_8080.proofs.Laws.{stepped_is}
use Rattle.calc_8080.proofs.stepped.Goals as goal

pub returns : goal.returns
returns c =
    rw (c.concluded.ensures, c.half_carry.ensures, c.flag.ensures, c.plain-d.ensures.0)
    (stepped_is _ _ _)
