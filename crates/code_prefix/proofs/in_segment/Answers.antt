use Rattle.code_prefix.specs.Found.{found}
use mathlib.Core.Path.{refl}
use Rattle.code_prefix.proofs.in_segment.Goals as goal

pub returns : goal.returns
unfolding found
returns c = refl
