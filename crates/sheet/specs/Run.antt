-- A run of steps, of a budget up to `budget_top` (Lendable).
-- 01:31, 48; 02 b
use Rattle.std.specs.Prelude.{ℕ, zero, suc, List, [], ◌∷◌, length}
use Rattle.sheet.specs.declared.Bus.{Bus}
use Rattle.sheet.specs.Psw.{Choice}
use Rattle.sheet.specs.Registers.{PS, PC, file_of}
use Rattle.sheet.specs.World.{World}
use Rattle.sheet.specs.Handler.{Event, Outcome, refused, done, kept, nothing, ◌⊕◌, tally}
use Rattle.sheet.specs.Step.{checked, step_by}

-- a finished step: where its instruction stood, and what happened
pub record FinishedStep : Type 0 where
  pub ps : ℕ
  pub pc : ℕ
  pub events : List Event

-- a step that was begun in a world
abbrev pub begun_in : World → List Event → FinishedStep
begun_in w t = record { ps = file_of w.state.file PS; pc = file_of w.state.file PC; events = t }

-- a number, the world, the finished steps, and the events of the step that refused
pub data Ran : Type 0 where
  ran : ℕ → World → List FinishedStep → List Event → Ran

-- one step more in front
abbrev pub more : FinishedStep → Ran → Ran
more s (ran n w l t) = ran n w (s ∷ l) t

-- the step that refuses changes nothing and ends the run; any other is followed by the rest
abbrev pub onward : World → Outcome Unit → (World → Ran) → Ran
onward w (refused n t) rest = ran n w [] t
onward w (done a v t) rest = more (begun_in w t) (rest v)

-- a budget of steps, each with choices of its own
unfoldable pub steps_by : (ℕ → ℕ → Choice) → ℕ → World → Ran
steps_by u zero w = ran 0 w [] []
steps_by u (suc k) w = onward w (step_by (u 0) w) (steps_by (λ i. u (suc i)) k)

-- numbers 1 and 2 are checked even for budget 0
unfoldable pub runs_by : (ℕ → ℕ → Choice) → ℕ → World → Ran
runs_by u budget w = checked w (λ n. ran n w [] []) (steps_by u budget w)

unfoldable pub runs : ℕ → World → Ran
runs budget w = runs_by (λ i. kept) budget w

-- ---- what a run reports

-- what finished steps come to
unfoldable pub tally_all : List FinishedStep → Bus
tally_all [] = nothing
tally_all (s ∷ l) = tally s.events ⊕ tally_all l

-- number, world, steps done and bus
pub data RunReport : Type 0 where
  run_reported : ℕ → World → ℕ → Bus → RunReport

abbrev pub ran_report : Ran → RunReport
ran_report (ran n w l t) = run_reported n w (length l) (tally_all l)
