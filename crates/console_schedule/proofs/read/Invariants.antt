-- There are no more calls than there is room for.
use Rattle.std.proofs.Common.{◌≤◌, length}
use Rattle.console_schedule.proofs.read.Given as goal

abbrev pub invariant-loop-number : goal.invariant-loop-number
invariant-loop-number l =
    (goal.iterator-loop-number).can_next l.number-iterator
    × (goal.iterator-loop-number).is_finite l.number-iterator
    × (l.n ≤ length l.calls)
