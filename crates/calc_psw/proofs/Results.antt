-- A result with the PSW that its column makes: the flags are changed as the column says, and the value is the result's.
use mathlib.Core.Path.{◌≡◌}
use mathlib.Core.List.{List}
use Prim.Native.Nat.{ℕ}
use lib.ListN.{get_or, set}
use Rattle.sheet.specs.declared.Flagged.{Flagged}
use Rattle.sheet.specs.Psw.{column}
use Rattle.sheet.specs.Registers.{PSW}
use Rattle.sheet.specs.Act.{affect}
use Rattle.sheet.specs.Arithmetic.{Result}
use Rattle.sheet.specs.Contract.{OnFile, flagged}
use Rattle.sheet.proofs.Lifted.{file_flags}

module _ (r : Result) (f : List ℕ) (y : Flagged) (e : y ≡ flagged r (get_or f PSW 0)) where
  pub file_affect : OnFile Unit (affect r.column) f tt (set f PSW y.psw)
  unfolding flagged
  file_affect = file_flags (column r.column) (rw e)

  pub value_is : y.value ≡ r.value
  unfolding flagged
  value_is = rw e
