-- Calls of `engine::step`, one after the other, as its contract tells.
use Rattle.std.specs.Prelude.{ℕ, suc, List}
use Rattle.sheet.specs.declared.Bus.{Bus}
use Rattle.sheet.specs.declared.State.{State}
use Rattle.sheet.specs.Handler.{nothing, ◌⊕◌}
use Rattle.step_answer.specs.Steps.{Steps}
use Rattle.theorems.specs.Bounds.{Bytes}

-- k calls that each answer 0: from a state, a RAM of bytes and a log to others, with the sum of what they return as their bus
pub data StepsCalled (rom tape : List ℕ) : State → List ℕ → List ℕ → ℕ → State → List ℕ → List ℕ → Bus → Type 0 where
  no_call : {s : State} {ram log : List ℕ} → StepsCalled rom tape s ram log 0 s ram log nothing
  call_then : {s u v : State} {ram ram₁ ram₂ log log₁ log₂ : List ℕ} {k : ℕ} {b c : Bus}
      → Bytes ram → Steps s ram rom tape log 0 u ram₁ log₁ b → StepsCalled rom tape u ram₁ log₁ k v ram₂ log₂ c
      → StepsCalled rom tape s ram log (suc k) v ram₂ log₂ (b ⊕ c)
