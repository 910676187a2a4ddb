use lib.ListN.{take}
use Rattle.base_line.specs.Adds.{Adds}
use Rattle.hex_form.specs.Writing.{pairs}
use Rattle.hex_put.proofs.put_pairs.Given as goal

abbrev pub invariant-loop-b : goal.invariant-loop-b
invariant-loop-b l = Adds (pairs (take l.b-index l.bytes)) l.initial.line l.line
