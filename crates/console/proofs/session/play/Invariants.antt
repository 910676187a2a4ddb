-- So many turns are played.
use Rattle.console.specs.Turns.{Turns}
use Rattle.console.proofs.session.play.Given as goal

abbrev pub invariant-loop-turn : goal.invariant-loop-turn
invariant-loop-turn l = Turns l.set.calls.now l.set.plan l.initial.s l.initial.ram l.set.rom.now l.set.tape.now l.initial.log l._turn l.s l.ram l.log
