use lib.ListN.{replicate}
use Rattle.base_line.specs.Adds.{Adds}
use Rattle.base_line.proofs.Line.push_spaces.Given as goal

abbrev pub invariant-loop : goal.invariant-loop
invariant-loop l = Adds (replicate l.counter 32) l.initial.self l.self
