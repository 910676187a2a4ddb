use Rattle.std.proofs.Common.{rules}
use Rattle.cases.specs.Called.{bytes_of}
use Rattle.cases.proofs.call.bytes_of.Goals as goal

pub returns : goal.returns
unfolding bytes_of
returns c = search rules
