-- The calls as the theorems take them, of what they are lent.
use Rattle.std.specs.Prelude.{ℕ, Bool, Result}
use Rattle.sheet.specs.declared.Refusal.{Refusal}
use Rattle.sheet.specs.declared.State.{State}
use Rattle.sheet.specs.Refusals.{number_in}
use Rattle.sheet.specs.World.{World, world}
use Rattle.mach_tally.specs.Lent.{Lent, LentToRead}
use Rattle.step_answer.specs.declared.Answer.{Answer}
use Rattle.step_answer.specs.declared.Ran.{Ran}
use Rattle.step_answer.specs.Steps.{answer_in}
use Rattle.theorems.specs.RepeatCode.{StepCall, InterruptCall}
use Rattle.theorems.specs.LogCode.{RunCall}

abbrev before : State → Lent → LentToRead → LentToRead → Lent → World
before s ram rom tape log = world s ram.entry.now rom.entry.now tape.entry.now log.entry.now

abbrev after : State → Lent → LentToRead → LentToRead → Lent → World
after s ram rom tape log = world s ram.exit.now rom.entry.now tape.entry.now log.exit.now

abbrev pub StepCallOn : State → Lent → LentToRead → LentToRead → Lent → Result Answer Refusal → Type 0
StepCallOn s ram rom tape log r = StepCall (before s ram rom tape log) (number_in r) (after (answer_in s r).state ram rom tape log) (answer_in s r).bus

abbrev pub RunCallOn : ℕ → State → Lent → LentToRead → LentToRead → Lent → Ran → Type 0
RunCallOn budget s ram rom tape log r =
    RunCall budget (before s ram rom tape log) (number_in r.end) (after r.state ram rom tape log) r.steps r.bus

-- the log is only read
abbrev pub InterruptCallOn : ℕ → Bool → State → Lent → LentToRead → LentToRead → LentToRead → Result Answer Refusal → Type 0
InterruptCallOn vector maskable s ram rom tape log r =
    InterruptCall vector maskable (world s ram.entry.now rom.entry.now tape.entry.now log.entry.now)
    (number_in r) (world (answer_in s r).state ram.exit.now rom.entry.now tape.entry.now log.entry.now) (answer_in s r).bus
