use Prim.Native.Nat.{◌≤◌}
use mathlib.Core.Path.{◌≡◌}
use lib.ListN.{length}
use Rattle.sheet.specs.World.{world, state_of}
use Rattle.step_answer.proofs.RunLaws.{Continues}
use Rattle.engine.proofs.go_on.Given as goal

abbrev pub invariant-loop-steps : goal.invariant-loop-steps
invariant-loop-steps l = (l.budget ≤ 65535)
    × (length l.ram ≡ length l.initial.ram)
    × (length l.log ≡ length l.initial.log)
    × Continues (world (state_of l.initial.file l.initial.marks l.initial.progress) l.initial.ram l.rom l.tape l.initial.log) (world (state_of l.file l.marks l.progress) l.ram l.rom l.tape l.log) l.steps l.bus
