-- What an instruction comes to for code that is lent everything.
use Rattle.std.specs.Prelude.{ℕ, Bool, List, ◌≡◌}
use Rattle.sheet.specs.declared.Bus.{Bus}
use Rattle.sheet.specs.declared.Marks.{Marks}
use Rattle.sheet.specs.declared.Progress.{Progress}
use Rattle.sheet.specs.World.{world, state_of}
use Rattle.sheet.specs.Act.{Act}
use Rattle.sheet.specs.Handler.{nothing}
use Rattle.sheet.specs.Contract.{Ends, Stops}
use Rattle.mach_tally.specs.Bounds.{Within}

-- it ends, hands on whether it took a trap, and leaves the marks m'; or it refuses, and nothing that it was lent has changed
pub record Performs (p : Act Bool) (f ram rom tape log : List ℕ) (m : Marks) (q : Progress) (number : ℕ) (trapped : Bool) (m' : Marks) (f' ram' log' : List ℕ) (q' : Progress) (n : Bus) : Type 0 where
  pub most : Within n 1020
  pub done : number ≡ 0 → Ends Bool p (world (state_of f m q) ram rom tape log) trapped (world (state_of f' m' q') ram' rom tape log') n
  pub stop : (number ≡ 0 → ⊥) → Stops Bool p (world (state_of f m q) ram rom tape log) number
  pub same : (number ≡ 0 → ⊥) → (f' ≡ f) × (ram' ≡ ram) × (log' ≡ log) × (n ≡ nothing)
