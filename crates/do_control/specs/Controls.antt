-- What a control instruction comes to for code that is lent the registers and the marks.
use Rattle.std.specs.Prelude.{List, ℕ}
use Rattle.sheet.specs.declared.Control.{Control}
use Rattle.sheet.specs.declared.Marks.{Marks}
use Rattle.sheet.specs.declared.Progress.{Progress}
use Rattle.sheet.specs.World.{world, state_of}
use Rattle.sheet.specs.Handler.{nothing}
use Rattle.sheet.specs.Control.{control}
use Rattle.sheet.specs.Contract.{Ends}

-- the registers f become f', the marks m become m'
pub record Controls (i : Control) (f : List ℕ) (m : Marks) (f' : List ℕ) (m' : Marks) : Type 0 where
  pub at : (q : Progress) (ram rom tape log : List ℕ)
      → Ends Unit (control i) (world (state_of f m q) ram rom tape log) tt (world (state_of f' m' q) ram rom tape log) nothing
