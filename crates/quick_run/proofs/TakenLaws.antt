-- What the calls return, as the theorems take them.
use Prim.Native.Nat.{ℕ}
use mathlib.Core.Bool.{Bool}
use mathlib.Core.List.{List}
use Rattle.sheet.specs.declared.Bus.{Bus}
use Rattle.sheet.specs.declared.State.{State}
use Rattle.sheet.specs.World.{world}
use Rattle.step_answer.specs.Calls.{Interrupts}
use Rattle.step_answer.specs.Steps.{Steps}
use Rattle.step_answer.specs.Runs.{Runs}
use Rattle.theorems.specs.RepeatCode.{StepCall, step_call, InterruptCall, interrupt_call}
use Rattle.theorems.specs.LogCode.{RunCall, run_call}

module _ (s s' : State) (ram rom tape log ram' : List ℕ) (number : ℕ) (n : Bus) where
  pub stepped_so : (log' : List ℕ) → Steps s ram rom tape log number s' ram' log' n → StepCall (world s ram rom tape log) number (world s' ram' rom tape log') n
  stepped_so log' h = step_call h

  pub run_so : (log' : List ℕ) (budget k : ℕ) → Runs budget s ram rom tape log number s' ram' log' k n → RunCall budget (world s ram rom tape log) number (world s' ram' rom tape log') k n
  run_so log' budget k h = run_call h

  pub interrupted_so : (vector : ℕ) (maskable : Bool) → Interrupts vector maskable s ram rom tape log number s' ram' n
      → InterruptCall vector maskable (world s ram rom tape log) number (world s' ram' rom tape log) n
  interrupted_so vector maskable h = interrupt_call h
