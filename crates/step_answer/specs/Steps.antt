-- What a step promises.
use Rattle.std.specs.Prelude.{ℕ, ◌≤◌, Bool, true, false, List, ◌≡◌, Result, Ok, Err}
use Rattle.sheet.specs.declared.Bus.{Bus}
use Rattle.sheet.specs.declared.State.{State}
use Rattle.sheet.specs.declared.Marks.{Marks}
use Rattle.sheet.specs.declared.Progress.{Progress}
use Rattle.sheet.specs.declared.Refusal.{Refusal}
use Rattle.sheet.specs.World.{World, world}
use Rattle.sheet.specs.Handler.{kept, nothing}
use Rattle.sheet.specs.Contract.{Seen, stops, ends, seen, report, report_of}
use Rattle.sheet.specs.Step.{awake, step_report}
use Rattle.mach_tally.specs.Bounds.{Within}
use Rattle.step_answer.specs.declared.Answer.{Answer}
use Rattle.step_answer.specs.declared.Advanced.{Advanced}

-- a refusal leaves marks and places as they were, and makes no access
abbrev pub advanced_in : Marks → Progress → Result Advanced Refusal → Advanced
advanced_in m q (Ok a) = a
advanced_in m q (Err e) = record { marks = m; progress = q; bus = nothing }

-- a refusal hands back the state that was given
abbrev pub answer_in : State → Result Answer Refusal → Answer
answer_in s (Ok a) = a
answer_in s (Err e) = record { state = s; bus = nothing }

-- what is seen of a step that is done, or that is refused by a number
abbrev pub seen_by : (done : Bool) (number : ℕ) → World → Bus → Seen Unit
seen_by true number v n = ends tt v n
seen_by false number v n = stops number

-- what comes after the checks 1 and 2, which a run makes once
pub record Advances (s : State) (ram rom tape log : List ℕ) (done : Bool) (number : ℕ) (s' : State) (ram' log' : List ℕ) (n : Bus) : Type 0 where
  pub most : Within n 1028
  pub is : seen (awake kept (world s ram rom tape log)) ≡ seen_by done number (world s' ram' rom tape log') n
  pub zero : done ≡ true → number ≡ 0
  pub same : done ≡ false → (s' ≡ s) × (ram' ≡ ram) × (log' ≡ log) × (n ≡ nothing)

-- the same as a report
pub record Moves (s : State) (ram rom tape log : List ℕ) (number : ℕ) (s' : State) (ram' log' : List ℕ) (n : Bus) : Type 0 where
  pub most : n.cycles ≤ 1028
  pub is : report_of (world s ram rom tape log) (seen (awake kept (world s ram rom tape log))) ≡ report number (world s' ram' rom tape log') n

-- what a step reports is what the definition says, and it takes at most 1,028 bus cycles
pub record Steps (s : State) (ram rom tape log : List ℕ) (number : ℕ) (s' : State) (ram' log' : List ℕ) (n : Bus) : Type 0 where
  pub most : n.cycles ≤ 1028
  pub is : step_report (world s ram rom tape log) ≡ report number (world s' ram' rom tape log') n
