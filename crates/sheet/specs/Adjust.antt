-- Decimal adjustment: ADJBA, ADJ4A, ADJBS, ADJ4S.
-- 001:1375-1378; 000:1066-1069; 01:57
use Rattle.std.specs.Prelude.{Bool, false, ◌||◌, ℕ, ◌+◌, ◌*◌, ◌/◌, ◌%◌, ltb}
use Rattle.sheet.specs.declared.Spot.TheVariants.{InRegister}
use Rattle.sheet.specs.declared.Digits.{Digits}
use Rattle.sheet.specs.declared.Way.{Way}
use Rattle.sheet.specs.declared.Way.TheVariants.{Addition, Subtraction}
use Rattle.sheet.specs.Width.{pick}
use Rattle.sheet.specs.Psw.{AC, CY, bit, unknown, becomes, columns}
use Rattle.sheet.specs.Registers.{AW, AL}
use Rattle.sheet.specs.Act.{Act, ◌>>=◌, ◌>>◌, registers, ◌≔◌, flag, affect}
use Rattle.sheet.specs.Operand.{reg_value}
use Rattle.sheet.specs.Arithmetic.{Result, resulting, finish, added, half_carry, carry, lessened, half_borrow, borrow}

-- ---- one byte

-- a plus b and a carry, or a minus b and a borrow, with AC and CY of that
unfoldable pub plain : Way → ℕ → ℕ → Bool → Digits
plain Addition a b c = record { value = added false a b c; ac = half_carry a b c; cy = carry false a b c }
plain Subtraction a b c = record { value = lessened false a b c; ac = half_borrow a b c; cy = borrow a b c }

-- k goes to x or comes off it, without a carry so far
abbrev pub moved : Way → ℕ → ℕ → Digits
moved way x k = plain way x k false

abbrev pub digits_of : ℕ → Bool → Bool → Digits
digits_of x ac cy = record { value = x; ac = ac; cy = cy }

-- "If the low digit exceeds 9 or AC is 1, add 6 and set AC; a carry out of this addition also sets CY."
unfoldable pub low_adjusted : Way → Digits → Digits
low_adjusted way d =
    let due : Bool = ltb 9 (d.value % 16) || d.ac in
    let y : Digits = moved way d.value (pick due 6 0) in
    digits_of y.value due (d.cy || y.cy)

-- "Then if AL exceeds 9Fh or CY is 1, add 60h and set CY."
unfoldable pub high_adjusted : Way → Digits → Digits
high_adjusted way d =
    let due : Bool = ltb 0x9f d.value || d.cy in
    digits_of (moved way d.value (pick due 0x60 0)).value d.ac due

unfoldable pub adjusted : Way → Digits → Digits
adjusted way d = high_adjusted way (low_adjusted way d)

-- ---- ADJ4A and ADJ4S: AL, two digits

unfoldable pub packed_result : Way → Digits → Result
packed_result way d =
    let e : Digits = adjusted way d in
    resulting false e.value (becomes e.ac) (becomes e.cy) unknown

unfoldable pub adj4 : Way → Act Unit
adj4 way = do
  x ← reg_value false AL
  ac ← flag AC
  cy ← flag CY
  finish false (InRegister AL) (packed_result way (digits_of x ac cy))

-- ---- ADJBA and ADJBS: AL, one digit

-- AH and AL once a digit is adjusted: no carry goes from AL to AH
unfoldable pub unpacked : Way → Bool → ℕ → ℕ
unpacked way due aw =
    (moved way (aw / 256) (bit due)).value * 256 + (moved way (aw % 256) (pick due 6 0)).value % 16

unfoldable pub unpacked_result : Way → ℕ → Bool → Result
unpacked_result way aw ac =
    let due : Bool = ltb 9 (aw % 16) || ac in
    record { value = unpacked way due aw; column = columns (becomes due) (becomes due) unknown unknown unknown unknown }

unfoldable pub adjb : Way → Act Unit
adjb way = do
  r ← registers
  ac ← flag AC
  affect (unpacked_result way (r AW) ac).column
  AW ≔ (unpacked_result way (r AW) ac).value
