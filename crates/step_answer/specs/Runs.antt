-- What a run promises.
use Rattle.std.specs.Prelude.{ℕ, ◌*◌, ◌≤◌, List, ◌≡◌}
use Rattle.sheet.specs.declared.Bus.{Bus}
use Rattle.sheet.specs.declared.State.{State}
use Rattle.sheet.specs.World.{world}
use Rattle.sheet.specs.Run.{runs, run_reported, ran_report}

-- what a run reports is what the definition says; it keeps to its budget, and to 1,028 bus cycles a step
pub record Runs (budget : ℕ) (s : State) (ram rom tape log : List ℕ) (number : ℕ) (s' : State) (ram' log' : List ℕ) (steps : ℕ) (n : Bus) : Type 0 where
  pub within : steps ≤ budget
  pub most : n.cycles ≤ 1028 * steps
  pub is : ran_report (runs budget (world s ram rom tape log)) ≡ run_reported number (world s' ram' rom tape log') steps n
