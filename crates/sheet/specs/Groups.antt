-- The groups that compute and the groups that move, as instructions.
-- no row of the sheet: the sorting is for the code, which matches on at most 16 cases at a time
use Rattle.std.specs.Prelude.{Bool}
use Rattle.sheet.specs.declared.Place.{Place}
use Rattle.sheet.specs.declared.Places.{Places}
use Rattle.sheet.specs.declared.Amount.{Amount}
use Rattle.sheet.specs.declared.Transfer.{Transfer}
use Rattle.sheet.specs.declared.Arithmetic.{Arithmetic}
use Rattle.sheet.specs.declared.Convert.{Convert}
use Rattle.sheet.specs.declared.Shift.{Shift}
use Rattle.sheet.specs.declared.Bit.{Bit}
use Rattle.sheet.specs.declared.Decimal.{Decimal}
use Rattle.sheet.specs.declared.Field.{Field}
use Rattle.sheet.specs.declared.Stack.{Stack}
use Rattle.sheet.specs.declared.Branch.{Branch}
use Rattle.sheet.specs.declared.Conditional.{Conditional}
use Rattle.sheet.specs.declared.Compute.TheVariants as compute
use Rattle.sheet.specs.declared.Move.TheVariants as move
use Rattle.sheet.specs.declared.Instr.{Instr}
use Rattle.sheet.specs.declared.Instr.TheVariants.{Computes, Moves}

abbrev pub Transfers : Transfer → Instr
Transfers i = Moves (move.Transfers i)

abbrev pub Calculates : Arithmetic → Instr
Calculates i = Computes (compute.Calculates i)

abbrev pub Converts : Convert → Instr
Converts i = Computes (compute.Converts i)

abbrev pub Shifts : Shift → Bool → Place → Places → Instr
Shifts k w to places = Computes (compute.Shifts k w to places)

abbrev pub Bits : Bit → Bool → Place → Amount → Instr
Bits op w to number = Computes (compute.Bits op w to number)

abbrev pub Decimals : Decimal → Instr
Decimals i = Computes (compute.Decimals i)

abbrev pub Fields : Field → Instr
Fields i = Computes (compute.Fields i)

abbrev pub Stacks : Stack → Instr
Stacks i = Moves (move.Stacks i)

abbrev pub Branches : Branch → Instr
Branches i = Moves (move.Branches i)

abbrev pub Tests : Conditional → Instr
Tests i = Moves (move.Tests i)
