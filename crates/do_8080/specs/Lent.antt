-- What an instruction that takes no trap comes to for code that is lent everything.
use Rattle.std.specs.Prelude.{ℕ, List, ◌≡◌, Result}
use Rattle.sheet.specs.declared.Bus.{Bus}
use Rattle.sheet.specs.declared.Marks.{Marks}
use Rattle.sheet.specs.declared.Progress.{Progress}
use Rattle.sheet.specs.declared.Refusal.{Refusal}
use Rattle.sheet.specs.Refusals.{number_in}
use Rattle.sheet.specs.World.{world, state_of}
use Rattle.sheet.specs.Act.{Act}
use Rattle.sheet.specs.Handler.{nothing}
use Rattle.sheet.specs.Contract.{Ends, Stops}
use Rattle.mach_tally.specs.Bounds.{Within}
use Rattle.mach_tally.specs.Lent.{Lent, LentToRead}
use Rattle.step_answer.specs.declared.Advanced.{Advanced}
use Rattle.step_answer.specs.Steps.{advanced_in}

-- it ends and leaves the marks m', within so many bus cycles; or it refuses, and nothing that it was lent has changed
pub record OnAll (p : Act Unit) (f ram rom tape log : List ℕ) (m : Marks) (q : Progress) (number : ℕ) (f' ram' log' : List ℕ) (m' : Marks) (q' : Progress) (n : Bus) (top : ℕ) : Type 0 where
  pub most : Within n top
  pub done : number ≡ 0 → Ends Unit p (world (state_of f m q) ram rom tape log) tt (world (state_of f' m' q') ram' rom tape log') n
  pub stop : (number ≡ 0 → ⊥) → Stops Unit p (world (state_of f m q) ram rom tape log) number
  pub same : (number ≡ 0 → ⊥) → (f' ≡ f) × (ram' ≡ ram) × (log' ≡ log) × (n ≡ nothing)

abbrev pub CardsOn : Act Unit → Lent → Lent → LentToRead → LentToRead → Lent → Marks → Progress → Result Advanced Refusal → ℕ → Type 0
CardsOn p file ram rom tape log m q r top =
    OnAll p file.entry.now ram.entry.now rom.entry.now tape.entry.now log.entry.now m q
    (number_in r) file.exit.now ram.exit.now log.exit.now
    (advanced_in m q r).marks (advanced_in m q r).progress (advanced_in m q r).bus top
