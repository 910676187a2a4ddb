-- A session: runs of the definition and scheduled interrupt calls, one after the other, up to a limit of steps.
use Rattle.std.specs.Prelude.{◌≡◌, ℕ, ◌+◌, true, false, ◌⊎◌, List, ◌==◌, Option, Some, None, is_some, Result}
use Rattle.sheet.specs.declared.Bus.{Bus}
use Rattle.sheet.specs.declared.Refusal.{Refusal}
use Rattle.sheet.specs.declared.State.{State}
use Rattle.sheet.specs.Refusals.{number_in}
use Rattle.sheet.specs.World.{world}
use Rattle.sheet.specs.Contract.{report}
use Rattle.sheet.specs.Step.{interrupt_report}
use Rattle.sheet.specs.Run.{runs, run_reported, ran_report}
use Rattle.console_schedule.specs.declared.Call.{Call}
use Rattle.console_turns.specs.declared.Session.{Session}
use Rattle.console_turns.specs.declared.Next.{Next}
use Rattle.console_turns.specs.declared.Plan.{Plan}
use Rattle.console_turns.specs.Stand.{coming_of, due_of, call_now, budget_of, answered_by, ran_by}

-- an interrupt call
pub data Called (call : Call) (plan : Plan) (s : Session) (ram rom tape log : List ℕ) : Session → List ℕ → Type 0 where
  called : {number : ℕ} {t : State} {ram' : List ℕ} {n : Bus}
      → interrupt_report call.vector call.maskable (world s.state ram rom tape log) ≡ report number (world t ram' rom tape log) n
      → Called call plan s ram rom tape log (answered_by s plan (number == 0) t n) ram'

-- a run
pub data Continued (next : Option Next) (plan : Plan) (s : Session) (ram rom tape log : List ℕ) : Session → List ℕ → List ℕ → Type 0 where
  continued : (end : Result Unit Refusal) {t : State} {ram' log' : List ℕ} {k : ℕ} {n : Bus}
      → ran_report (runs (budget_of s.steps plan.limit (due_of next) plan.single) (world s.state ram rom tape log)) ≡ run_reported (number_in end) (world t ram' rom tape log') k n
      → Continued next plan s ram rom tape log (ran_by s plan end t k n (is_some next)) ram' log'

pub data Turn (calls : List Call) (plan : Plan) (s : Session) (ram rom tape log : List ℕ) : Session → List ℕ → List ℕ → Type 0 where
  by_call : {call : Call} {s' : Session} {ram' : List ℕ}
      → call_now s (coming_of s calls) plan.limit ≡ Some call
      → Called call plan s ram rom tape log s' ram'
      → Turn calls plan s ram rom tape log s' ram' log
  by_run : {s' : Session} {ram' log' : List ℕ}
      → call_now s (coming_of s calls) plan.limit ≡ None
      → Continued (coming_of s calls) plan s ram rom tape log s' ram' log'
      → Turn calls plan s ram rom tape log s' ram' log'

-- so many turns, none of them of a session that was over
pub data Turns (calls : List Call) (plan : Plan) (s : Session) (ram rom tape log : List ℕ) : ℕ → Session → List ℕ → List ℕ → Type 0 where
  none : Turns calls plan s ram rom tape log 0 s ram log
  more : {k : ℕ} {s' s'' : Session} {ram' log' ram'' log'' : List ℕ}
      → Turns calls plan s ram rom tape log k s' ram' log'
      → s'.over ≡ false
      → Turn calls plan s' ram' rom tape log' s'' ram'' log''
      → Turns calls plan s ram rom tape log (k + 1) s'' ram'' log''

-- turns until the session is over or their number is spent
pub record Plays (turns : ℕ) (calls : List Call) (plan : Plan) (s : Session) (ram rom tape log : List ℕ) (s' : Session) (ram' log' : List ℕ) : Type 0 where
  pub done : ℕ
  pub is : Turns calls plan s ram rom tape log done s' ram' log'
  pub ends : (s'.over ≡ true) ⊎ (done ≡ turns)
