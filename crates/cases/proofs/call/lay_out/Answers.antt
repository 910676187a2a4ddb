use Rattle.std.proofs.Common.{rules}
use Rattle.cases.specs.Called.{laid}
use Rattle.cases.proofs.call.lay_out.Goals as goal

pub returns : goal.returns
unfolding laid
returns c = search rules
