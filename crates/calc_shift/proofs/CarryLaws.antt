-- What the tree of the carry hands on is what the code takes from PSW.
use mathlib.Core.Bool.{Bool}
use Rattle.sheet.specs.declared.Shift.{Shift}
use Rattle.sheet.specs.declared.Shift.TheVariants.{Rol, Ror, Rolc, Rorc, Shl, Shr, Shra}
use Rattle.sheet.specs.Psw.{CY, flag_of}
use Rattle.sheet.specs.World.{World, psw_of}
use Rattle.sheet.specs.Handler.{nothing}
use Rattle.sheet.specs.Contract.{Ends}
use Rattle.sheet.specs.Shift.{carry_in}
use Rattle.sheet.proofs.Rules.{ends_pure, ends_flag}
use Rattle.calc_shift.specs.Carry.{carried}

pub carry_ends : (k : Shift) (u : World) → Ends Bool (carry_in k) u (carried k (flag_of (psw_of u.state) CY)) u nothing
unfolding carry_in
carry_ends Rol u = ends_pure
carry_ends Ror u = ends_pure
carry_ends Rolc u = ends_flag CY
carry_ends Rorc u = ends_flag CY
carry_ends Shl u = ends_pure
carry_ends Shr u = ends_pure
carry_ends Shra u = ends_pure
