-- The calls in code, as their contracts tell: one more of the engines that demand 3 is stated of.
use Rattle.std.specs.Prelude.{ℕ, zero, suc, Bool, List, [], ◌∷◌, ◌++◌}
use Rattle.sheet.specs.declared.Bus.{Bus}
use Rattle.sheet.specs.declared.State.{State}
use Rattle.sheet.specs.World.{World, world}
use Rattle.sheet.specs.Handler.{Event, happened, nothing, ◌⊕◌, tally}
use Rattle.step_answer.specs.Calls.{Interrupts}
use Rattle.step_answer.specs.Steps.{Steps}
use Rattle.theorems.specs.Repeat.{Block, single, singles, Engine}

-- `engine::step` was called in w and answered, as its contract has it
pub data StepCall (w : World) : ℕ → World → Bus → Type 0 where
  step_call : {number : ℕ} {s : State} {ram log : List ℕ} {n : Bus} → Steps w.state w.ram w.rom w.tape w.log number s ram log n
      → StepCall w number (world s ram w.rom w.tape log) n

-- `step_calls::interrupt` was called
pub data InterruptCall (vector : ℕ) (maskable : Bool) (w : World) : ℕ → World → Bus → Type 0 where
  interrupt_call : {number : ℕ} {s : State} {ram : List ℕ} {n : Bus} → Interrupts vector maskable w.state w.ram w.rom w.tape w.log number s ram n
      → InterruptCall vector maskable w number (world s ram w.rom w.tape w.log) n

-- it shows bus cycles and dropped bytes
abbrev pub code : Engine
code = record { Shown = Bus; of = tally; Step = StepCall; Interrupt = InterruptCall }

-- those of calls together
unfoldable pub total : List Bus → Bus
total [] = nothing
total (n ∷ l) = n ⊕ total l

-- all that happens in j single primitives
unfoldable pub events_of : Block → World → ℕ → List Event
events_of i w zero = []
events_of i w (suc j) = events_of i w j ++ happened (single i (singles i w j))
