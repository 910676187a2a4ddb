-- Calls in code, one after the other, and the reading of what they left in the log, as the contracts tell.
use Rattle.std.specs.Prelude.{ℕ, ◌<◌, Bool, true, List, [], ◌∷◌, ◌++◌, ◌≡◌}
use Rattle.sheet.specs.declared.Bus.{Bus}
use Rattle.sheet.specs.declared.State.{State}
use Rattle.sheet.specs.declared.Entry.{Entry}
use Rattle.sheet.specs.declared.Entry.TheVariants.{Record, End}
use Rattle.sheet.specs.Log.{rule}
use Rattle.sheet.specs.World.{World, world}
use Rattle.sheet.specs.Run.{FinishedStep}
use Rattle.log_record.specs.Whole.{Row}
use Rattle.log_reader.specs.Answer.{Answers}
use Rattle.step_answer.specs.Runs.{Runs}
use Rattle.sheet.specs.Lendable.{lendable}
use Rattle.theorems.specs.RepeatCode.{StepCall, InterruptCall}
use Rattle.theorems.specs.Rows.{steps_from, world_after}

-- `engine::run` was called in w and answered
pub data RunCall (budget : ℕ) (w : World) : ℕ → World → ℕ → Bus → Type 0 where
  run_call : {number : ℕ} {s : State} {ram log : List ℕ} {k : ℕ} {n : Bus} → Runs budget w.state w.ram w.rom w.tape w.log number s ram log k n
      → RunCall budget w number (world s ram w.rom w.tape log) k n

-- whatever was called, from a world on, and whatever was answered: the finished steps so far, and the world that all led to. A world that
-- is handed on is one that code can be lent, by its types; so is what a run of any smaller budget answers
pub data Called (w : World) : List FinishedStep → World → Type 0 where
  nothing_yet : Called w [] w
  then_step : {l : List FinishedStep} {u v : World} {number : ℕ} {n : Bus} → Called w l u → lendable u ≡ true → StepCall u number v n
      → Called w (l ++ steps_from 1 u) v
  then_run : {l : List FinishedStep} {u v : World} {budget number k : ℕ} {n : Bus} → Called w l u → ((j : ℕ) → j < budget → lendable (world_after j u) ≡ true) → RunCall budget u number v k n
      → Called w (l ++ steps_from budget u) v
  then_interrupt : {l : List FinishedStep} {u v : World} {vector number : ℕ} {maskable : Bool} {n : Bus} → Called w l u → InterruptCall vector maskable u number v n
      → Called w l v

-- whatever `log_reader` answers from a place of a log on, under the rule that the engine writes by: these records, and then the end
pub data ReadBack (log : List ℕ) : ℕ → List Row → Type 0 where
  all_read : {at : ℕ} → ((e : Entry) → Answers rule log at e → e ≡ End) → ReadBack log at []
  read_then : {at next : ℕ} {r : Row} {rs : List Row} → ((e : Entry) → Answers rule log at e → e ≡ Record r.gap r.key r.value next)
      → ReadBack log next rs → ReadBack log at (r ∷ rs)
