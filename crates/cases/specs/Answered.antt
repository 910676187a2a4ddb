-- What comes of the answers of calls on the machine.
use Rattle.std.specs.Prelude.{ℕ, Result, Ok, Err}
use Rattle.sheet.specs.declared.Refusal.{Refusal}
use Rattle.sheet.specs.declared.State.{State}
use Rattle.step_answer.specs.declared.Answer.{Answer}
use Rattle.step_answer.specs.declared.Ran.{Ran}
use Rattle.step_answer.specs.Steps.{answer_in}
use Rattle.cases.specs.declared.call.Done.{Done}

-- how a call ended, whatever it hands on
abbrev pub end_of : {A : Type 0} → Result A Refusal → Result Unit Refusal
end_of (Ok a) = Ok tt
end_of (Err r) = Err r

abbrev pub answered_as : State → Result Answer Refusal → ℕ → Done
answered_as s a steps = record { end = end_of a; steps = steps; state = (answer_in s a).state; bus = (answer_in s a).bus }

abbrev pub ran_as : Ran → Done
ran_as r = record { end = r.end; steps = r.steps; state = r.state; bus = r.bus }
