-- So many turns are played, which no session uses up.
use Rattle.console.specs.Turns.{Plays}
use Rattle.console.proofs.play.Given as goal

abbrev pub invariant-loop-turn : goal.invariant-loop-turn
invariant-loop-turn l = Plays l._turn l.set.calls.now l.set.plan l.initial.s l.initial.ram l.set.rom.now l.set.tape.now l.initial.log l.s l.ram l.log
