-- Shifts and rotates: one place, and any number of places.
-- 001:1494-1556; 000:1153-1233; 01:55
use Rattle.std.specs.Prelude.{Bool, true, false, not, ℕ, zero, suc, ◌+◌, ◌*◌, ◌/◌}
use Rattle.std.specs.Bool.{beq}
use Rattle.sheet.specs.declared.Shift.{Shift}
use Rattle.sheet.specs.declared.Shift.TheVariants.{Rol, Ror, Rolc, Rorc, Shl, Shr, Shra}
use Rattle.sheet.specs.declared.Turn.{Turn}
use Rattle.sheet.specs.declared.Places.{Places}
use Rattle.sheet.specs.declared.Places.TheVariants.{One, Counted}
use Rattle.sheet.specs.declared.Place.{Place}
use Rattle.sheet.specs.declared.Spot.{Spot}
use Rattle.sheet.specs.Width.{pick, half_of, wrap_of, sign_of, odd}
use Rattle.sheet.specs.Psw.{CY, bit, Effect, blank, unknown, becomes, columns}
use Rattle.sheet.specs.Act.{Act, pure, ◌>>=◌, flag}
use Rattle.sheet.specs.Operand.{locate, fetch, deposit, amount_of}
use Rattle.sheet.specs.Arithmetic.{Result, resulting, finish}

abbrev pub turn : ℕ → Bool → Turn
turn x cy = record { value = x; cy = cy }

-- to the left or to the right
abbrev pub leftward : Shift → Bool
leftward Rol = true
leftward Ror = false
leftward Rolc = true
leftward Rorc = false
leftward Shl = true
leftward Shr = false
leftward Shra = false

-- the bit that comes in at the free end
unfoldable pub comes_in : Shift → Bool → Turn → Bool
comes_in Rol w t = sign_of w t.value
comes_in Ror w t = odd t.value
comes_in Rolc w t = t.cy
comes_in Rorc w t = t.cy
comes_in Shl w t = false
comes_in Shr w t = false
comes_in Shra w t = sign_of w t.value

-- one place, with b coming in; the bit that goes out is CY
unfoldable pub to_left : Bool → Bool → ℕ → Turn
to_left w b x = turn (wrap_of w (2 * x + bit b)) (sign_of w x)

unfoldable pub to_right : Bool → Bool → ℕ → Turn
to_right w b x = turn (x / 2 + pick b (half_of w) 0) (odd x)

unfoldable pub one_place : Shift → Bool → Turn → Turn
one_place k w t = pick (leftward k) (to_left w (comes_in k w t) t.value) (to_right w (comes_in k w t) t.value)

-- n places, one after the other
unfoldable pub many_places : Shift → Bool → ℕ → Turn → Turn
many_places k w zero t = t
many_places k w (suc n) t = one_place k w (many_places k w n t)

-- V of the fixed count 1: the sign differs from CY (left) or from the bit below it (right)
unfoldable pub sign_moves : Shift → Bool → Turn → Bool
sign_moves k w t =
    not (beq (sign_of w t.value) (pick (leftward k) t.cy (sign_of w (wrap_of w (2 * t.value)))))

-- a rotate touches CY and V alone; a shift leaves AC undefined and sets P, S and Z
unfoldable pub rotated : Turn → Effect → Result
rotated t v = record { value = t.value; column = columns blank (becomes t.cy) v blank blank blank }

unfoldable pub shifted : Bool → Turn → Effect → Result
shifted w t v = resulting w t.value unknown (becomes t.cy) v

unfoldable pub turned : Shift → Bool → Turn → Effect → Result
turned Rol w t v = rotated t v
turned Ror w t v = rotated t v
turned Rolc w t v = rotated t v
turned Rorc w t v = rotated t v
turned Shl w t v = shifted w t v
turned Shr w t v = shifted w t v
turned Shra w t v = shifted w t v

-- the forms whose count is the fixed 1
unfoldable pub shift_one : Shift → Bool → ℕ → Bool → Result
shift_one k w x cy =
    let t : Turn = one_place k w (turn x cy) in
    turned k w t (becomes (sign_moves k w t))

-- the forms with a count, of which 0 is not asked for here
unfoldable pub shift_many : Shift → Bool → ℕ → ℕ → Bool → Result
shift_many k w n x cy = turned k w (many_places k w n (turn x cy)) unknown

-- CY is read by the rotates through it alone
unfoldable pub carry_in : Shift → Act Bool
carry_in Rol = pure false
carry_in Ror = pure false
carry_in Rolc = flag CY
carry_in Rorc = flag CY
carry_in Shl = pure false
carry_in Shr = pure false
carry_in Shra = pure false

-- count 0 changes no flag; the operand is read and written all the same
unfoldable pub shift_by : Shift → Bool → Spot → ℕ → ℕ → Act Unit
shift_by k w s x zero = deposit w s x
shift_by k w s x (suc n) = do
  cy ← carry_in k
  finish w s (shift_many k w (suc n) x cy)

-- the count is taken before anything is written
unfoldable pub shift : Shift → Bool → Place → Places → Act Unit
shift k w dst One = do
  s ← locate dst
  x ← fetch w s
  cy ← carry_in k
  finish w s (shift_one k w x cy)
shift k w dst (Counted a) = do
  n ← amount_of a
  s ← locate dst
  x ← fetch w s
  shift_by k w s x n
