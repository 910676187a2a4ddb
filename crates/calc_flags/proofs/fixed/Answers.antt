use Rattle.calc_flags.proofs.fixed.Goals as goal

pub returns : goal.returns
returns c = rw (c.pack.ensures, c.from.ensures, c.flag.ensures)
