-- The single-step trap, and where the count stands with the step that begins.
use Rattle.std.specs.Prelude.{ℕ, Bool, List}
use Rattle.sheet.specs.declared.Bus.{Bus}
use Rattle.sheet.specs.declared.Marks.{Marks}
use Rattle.sheet.specs.declared.Progress.{Progress}
use Rattle.sheet.specs.World.{world, state_of}
use Rattle.sheet.specs.Log.{rule, risen}
use Rattle.sheet.specs.Contract.{Ends}
use Rattle.sheet.specs.Step.{single_step}
use Rattle.mach_tally.specs.Bounds.{Within}

pub record Finishes (traced : Bool) (f ram rom : List ℕ) (m : Marks) (f' ram' : List ℕ) (m' : Marks) (n : Bus) : Type 0 where
  pub most : Within n 8
  pub at : (q : Progress) (tape log : List ℕ) → Ends Unit (single_step traced) (world (state_of f m q) ram rom tape log) tt (world (state_of f' m' q) ram' rom tape log) n

-- where tape and log stand, and the count with the step that begins
abbrev pub begun_at : Progress → Progress
begun_at q = record { tape = q.tape; log = q.log; count = risen rule q.count }
