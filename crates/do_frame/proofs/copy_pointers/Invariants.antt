use Rattle.do_frame.proofs.Laws.{Copies}
use Rattle.do_frame.proofs.copy_pointers.Given as goal

abbrev pub invariant-loop-i : goal.invariant-loop-i
invariant-loop-i l = Copies l.n l.initial.file l.initial.ram l.rom l.i l.file l.ram l.t
