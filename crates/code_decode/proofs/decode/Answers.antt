use Rattle.sheet.specs.FirstByte.{instruction}
use Rattle.code_decode.proofs.decode.Goals as goal

pub returns-in-Ok : goal.returns-in-Ok
unfolding instruction
returns-in-Ok c = c.in-Ok.ensures.is.decided _ c.first.ensures

pub returns-in-Err : goal.returns-in-Err
unfolding instruction
returns-in-Err c = c.in-Err.ensures.is.1
