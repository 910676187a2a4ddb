use Rattle.sheet.specs.Interrupts.{outside}
use Rattle.do_interrupt.proofs.outside.Goals as goal

pub returns : goal.returns
unfolding outside
returns c = cc
