-- Every digit leaves a number up to the largest.
use Rattle.std.proofs.Common.{◌≤◌}
use Rattle.console_schedule.specs.declared.TheConstants.{MOST}
use Rattle.console_schedule.proofs.number.Given as goal

abbrev pub invariant-loop-digit : goal.invariant-loop-digit
invariant-loop-digit l = l.value ≤ MOST
