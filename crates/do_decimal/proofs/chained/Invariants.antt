use Rattle.do_decimal.proofs.Laws.{Turns}
use Rattle.do_decimal.proofs.chained.Given as goal

abbrev pub invariant-loop-i : goal.invariant-loop-i
invariant-loop-i l = Turns l.way l.storing l.seg l.last l.file l.initial.ram l.rom l.i l.chain l.ram l.bus
