-- What an instruction of an awake machine comes to, its single-step trap and its count with it.
use Rattle.std.specs.Prelude.{ℕ, Bool, List, ◌≡◌}
use Rattle.sheet.specs.declared.Bus.{Bus}
use Rattle.sheet.specs.declared.Marks.{Marks}
use Rattle.sheet.specs.declared.Progress.{Progress}
use Rattle.sheet.specs.declared.Instr.{Instr}
use Rattle.sheet.specs.World.{world, state_of}
use Rattle.sheet.specs.Handler.{nothing}
use Rattle.sheet.specs.Contract.{Ends, Stops}
use Rattle.mach_tally.specs.Sums.{Joins}
use Rattle.mach_tally.specs.Bounds.{Within}
use Rattle.sheet.specs.Step.{starting, stepping}
use Rattle.step_end.specs.Finishes.{Finishes}

-- an instruction's end: the trap that may follow
pub record Settles (traced : Bool) (m : Marks) (q : Progress) (n : Bus) (f ram rom : List ℕ) (number : ℕ) (m' : Marks) (q' : Progress) (f' ram' : List ℕ) (r : Bus) : Type 0 where
  pub zero : number ≡ 0
  pub places : q' ≡ q
  pub last : Bus
  pub sum : Joins n last r
  pub finish : Finishes traced f ram rom m f' ram' m' last

pub record Proceeds (i : Instr) (size : ℕ) (f ram rom tape log : List ℕ) (m : Marks) (q : Progress) (number : ℕ) (m' : Marks) (q' : Progress) (f' ram' log' : List ℕ) (n : Bus) : Type 0 where
  pub most : Within n 1028
  pub done : number ≡ 0
      → Ends Unit (stepping i size) (starting i (world (state_of f m q) ram rom tape log)) tt (world (state_of f' m' q') ram' rom tape log') n
  pub stop : (number ≡ 0 → ⊥) → Stops Unit (stepping i size) (starting i (world (state_of f m q) ram rom tape log)) number
  pub same : (number ≡ 0 → ⊥) → (f' ≡ f) × (ram' ≡ ram) × (log' ≡ log) × (q' ≡ q) × (m' ≡ m) × (n ≡ nothing)
