-- The measure is how many prefixes may follow.
use Rattle.std.proofs.Common.{◌-◌}
use Rattle.code_prefix.proofs.+later.Given as goal

abbrev pub decreases-later : goal.decreases-later
decreases-later l = 3 - l.i
