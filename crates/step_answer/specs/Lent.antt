-- What the calls do with what they are lent.
use Rattle.std.specs.Prelude.{ℕ, Bool, Result, is_ok}
use Rattle.sheet.specs.declared.Bus.{Bus}
use Rattle.sheet.specs.declared.Marks.{Marks}
use Rattle.sheet.specs.declared.Progress.{Progress}
use Rattle.sheet.specs.declared.Refusal.{Refusal}
use Rattle.sheet.specs.Refusals.{number_in}
use Rattle.sheet.specs.declared.State.{State}
use Rattle.sheet.specs.World.{state_of}
use Rattle.mach_tally.specs.Lent.{Lent, LentToRead}
use Rattle.step_answer.specs.declared.Advanced.{Advanced}
use Rattle.step_answer.specs.Calls.{Accepts, Interrupts}
use Rattle.step_answer.specs.Steps.{advanced_in, Advances, Moves, Steps}
use Rattle.step_answer.specs.Runs.{Runs}

abbrev pub AdvancesOn : Lent → Lent → LentToRead → LentToRead → Lent → Marks → Progress → Result Advanced Refusal → Type 0
AdvancesOn file ram rom tape log m q r =
    Advances (state_of file.entry.now m q) ram.entry.now rom.entry.now tape.entry.now log.entry.now
    (is_ok r) (number_in r) (state_of file.exit.now (advanced_in m q r).marks (advanced_in m q r).progress)
    ram.exit.now log.exit.now (advanced_in m q r).bus

abbrev pub MovesOn : State → Lent → LentToRead → LentToRead → Lent → ℕ → State → Bus → Type 0
MovesOn s ram rom tape log number s' n =
    Moves s ram.entry.now rom.entry.now tape.entry.now log.entry.now number s' ram.exit.now log.exit.now n

abbrev pub StepsOn : State → Lent → LentToRead → LentToRead → Lent → ℕ → State → Bus → Type 0
StepsOn s ram rom tape log number s' n =
    Steps s ram.entry.now rom.entry.now tape.entry.now log.entry.now number s' ram.exit.now log.exit.now n

abbrev pub RunsOn : ℕ → State → Lent → LentToRead → LentToRead → Lent → ℕ → State → ℕ → Bus → Type 0
RunsOn budget s ram rom tape log number s' steps n =
    Runs budget s ram.entry.now rom.entry.now tape.entry.now log.entry.now
    number s' ram.exit.now log.exit.now steps n

abbrev pub AcceptsOn : ℕ → State → Lent → LentToRead → ℕ → State → Bus → Type 0
AcceptsOn vector s ram rom number s' n = Accepts vector s ram.entry.now rom.entry.now number s' ram.exit.now n

abbrev pub InterruptsOn : ℕ → Bool → State → Lent → LentToRead → LentToRead → LentToRead → ℕ → State → Bus → Type 0
InterruptsOn vector maskable s ram rom tape log number s' n =
    Interrupts vector maskable s ram.entry.now rom.entry.now tape.entry.now log.entry.now number s' ram.exit.now n
