use Rattle.rom_list.proofs.Reading.{Going}
use Rattle.rom_list.proofs.rebuild.restore.Given as goal

abbrev pub invariant-loop-c : goal.invariant-loop-c
invariant-loop-c l = Going l.lines l.initial.image l.image l.column l.high l.len l.c-index
