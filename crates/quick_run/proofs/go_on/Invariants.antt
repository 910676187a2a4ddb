use Prim.Native.Nat.{◌≤◌}
use mathlib.Core.Path.{◌≡◌}
use lib.ListN.{length}
use Rattle.sheet.specs.World.{world}
use Rattle.step_answer.proofs.RunLaws.{Continues}
use Rattle.quick_reading.specs.Readings.{Remembers}
use Rattle.quick_run.proofs.go_on.Given as goal

abbrev pub invariant-loop-steps : goal.invariant-loop-steps
invariant-loop-steps l = (l.budget ≤ 65535)
    × (length l.ram ≡ length l.initial.ram)
    × (length l.log ≡ length l.initial.log)
    × Continues (world l.initial.state l.initial.ram l.rom l.tape l.initial.log) (world l.state l.ram l.rom l.tape l.log) l.steps l.bus
    × Remembers l.memo
