-- The carry that a kind takes in, once CY is known: the rotates through it alone read it.
use Rattle.std.specs.Prelude.{Bool, false}
use Rattle.sheet.specs.declared.Shift.{Shift}
use Rattle.sheet.specs.declared.Shift.TheVariants.{Rol, Ror, Rolc, Rorc, Shl, Shr, Shra}

abbrev pub carried : Shift → Bool → Bool
carried Rol c = false
carried Ror c = false
carried Rolc c = c
carried Rorc c = c
carried Shl c = false
carried Shr c = false
carried Shra c = false
