-- Flags after a shift: with a count V keeps its value, as the sheet's U has it.
use mathlib.Core.Path.{◌≡◌, refl}
use mathlib.Core.Bool.{Bool}
use Prim.Native.Nat.{ℕ}
use Rattle.sheet.specs.declared.Shift.{Shift}
use Rattle.sheet.specs.declared.Shift.TheVariants.{Rol, Ror, Rolc, Rorc, Shl, Shr, Shra}
use Rattle.sheet.specs.declared.Turn.{Turn}
use Rattle.sheet.specs.Psw.{OV, flag_of, unknown, becomes, settled}
use Rattle.sheet.specs.Arithmetic.{resulting}
use Rattle.sheet.specs.Shift.{rotated, shifted, turned}
use Rattle.sheet.specs.Contract.{flagged}

pub kept_v : (k : Shift) (w : Bool) (t : Turn) (psw : ℕ) → flagged (turned k w t (becomes (flag_of psw OV))) psw ≡ flagged (turned k w t unknown) psw
unfolding turned rotated shifted resulting flagged settled
kept_v Rol w t psw = refl
kept_v Ror w t psw = refl
kept_v Rolc w t psw = refl
kept_v Rorc w t psw = refl
kept_v Shl w t psw = refl
kept_v Shr w t psw = refl
kept_v Shra w t psw = refl
