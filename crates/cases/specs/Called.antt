-- What answers a case.
use Rattle.std.specs.Prelude.{ℕ, ◌/◌, List, ◌≡◌, eqb, length, replicate, Ok}
use Rattle.sheet.specs.declared.State.{State}
use Rattle.sheet.specs.Refusals.{number_in}
use Rattle.sheet.specs.declared.GapRule.{GapRule}
use Rattle.sheet.specs.declared.Entry.{Entry}
use Rattle.sheet.specs.Width.{pick}
use Rattle.sheet.specs.Handler.{nothing}
use Rattle.sheet.specs.Step as definition
use Rattle.step_answer.specs.Calls.{Interrupts}
use Rattle.step_answer.specs.Steps.{Steps}
use Rattle.step_answer.specs.Runs.{Runs}
use Rattle.log_reader.specs.Answer.{Answers}
use Rattle.case_bytes.specs.Buffers.{sum_of, patched}
use Rattle.case_form.specs.declared.Call.TheVariants.{Step, Run, Interrupt, Reset, Quick}
use Rattle.case_form.specs.declared.Case.{Case}
use Rattle.case_form.specs.Form.{result_of, with_entry}
use Rattle.cases.specs.declared.call.Done.{Done}

-- the steps that a step with this answer did
abbrev pub steps_of : ℕ → ℕ
steps_of number = pick (eqb number 0) 1 0

abbrev pub reset_as : Done
reset_as = record { end = Ok tt; steps = 0; state = definition.reset; bus = nothing }

-- the call of a case, of those on the machine
pub record Called (c : Case) (s : State) (ram rom tape log : List ℕ) (d : Done) (ram' log' : List ℕ) : Type 0 where
  pub step : c.call ≡ Step → (d.steps ≡ steps_of (number_in d.end)) × Steps s ram rom tape log (number_in d.end) d.state ram' log' d.bus
  pub run : c.call ≡ Run → Runs c.budget s ram rom tape log (number_in d.end) d.state ram' log' d.steps d.bus
  pub interrupt : c.call ≡ Interrupt → (d.steps ≡ 0) × (log' ≡ log) × Interrupts c.vector c.maskable s ram rom tape log (number_in d.end) d.state ram' d.bus
  pub quick : c.call ≡ Quick → Runs c.budget s ram rom tape log (number_in d.end) d.state ram' log' d.steps d.bus
  pub reset : c.call ≡ Reset → (d ≡ reset_as) × (ram' ≡ ram) × (log' ≡ log)

-- the bytes for what a call came to, with the sums of RAM and log after it
unfoldable pub bytes_of : Done → List ℕ → List ℕ → List ℕ
bytes_of d ram log =
    result_of (number_in d.end) d.steps d.bus d.state (sum_of 2166136261 ram) (sum_of 2166136261 log)

-- a result: the bytes for what the call comes to
pub record Result (c : Case) (s : State) (ram rom tape log ram' log' out : List ℕ) : Type 0 where
  pub done : Done
  pub called : Called c s ram rom tape log done ram' log'
  pub bytes : out ≡ bytes_of done ram' log'

-- a result of a log reading under a gap rule
pub record Reading (g : GapRule) (log : List ℕ) (at : ℕ) (out : List ℕ) : Type 0 where
  pub entry : Entry
  pub answers : Answers g log at entry
  pub bytes : out ≡ with_entry entry (replicate 17 0)

-- a buffer filled, then patched
unfoldable pub laid : List ℕ → ℕ → ℕ → List ℕ → List ℕ
laid buffer fill kind patches = patched kind patches (length patches / 6) (replicate (length buffer) fill)
