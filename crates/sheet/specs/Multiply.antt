-- MULU, MUL, DIVU, DIV.
-- 001:1341-1370; 000:1029-1058; 01:56
use Rattle.std.specs.Prelude.{Bool, true, false, not, ◌&&◌, ℕ, ◌+◌, ◌*◌, ◌/◌, ◌%◌, eqb, ltb, ℤ, pos, ◌-ℤ◌, ◌*ℤ◌, Option, Some, None}
use Rattle.std.specs.Int.Signed.{quot_z, rem_z, lt_z, le_z}
use Rattle.sheet.specs.declared.Multiply.{Multiply}
use Rattle.sheet.specs.declared.Multiply.TheVariants.{Mulu, Mul, MulByte, MulWord, Divu, Div}
use Rattle.sheet.specs.declared.Place.{Place}
use Rattle.sheet.specs.declared.Product.{Product}
use Rattle.sheet.specs.declared.Quotient.{Quotient}
use Rattle.sheet.specs.Width.{pick, mod_of, half_of, wrap_of, signed_of, bits32}
use Rattle.sheet.specs.Psw.{unknown, becomes, Column, columns}
use Rattle.sheet.specs.Registers.{AW, DW, File}
use Rattle.sheet.specs.Act.{Act, pure, ◌>>=◌, ◌>>◌, registers, ◌≔◌, affect}
use Rattle.sheet.specs.Operand.{reg_value, set_reg, value_at}
use Rattle.sheet.specs.Traps.{trap, untrapped}

-- ---- products

unfoldable pub unsigned_product : Bool → ℕ → ℕ → Product
unsigned_product w a b = record { bits = a * b; exceeds = not (ltb (a * b) (mod_of w)) }

-- the numbers that an operand of a width can hold with its sign
unfoldable pub fits_signed : Bool → ℤ → Bool
fits_signed w z = le_z (pos 0 -ℤ pos (half_of w)) z && lt_z z (pos (half_of w))

unfoldable pub signed_product : Bool → ℕ → ℕ → Product
signed_product w a b =
    let z : ℤ = signed_of (half_of w) a *ℤ signed_of (half_of w) b in
    record { bits = bits32 z; exceeds = not (fits_signed w z) }

-- CY and V say whether the product exceeds its lower half
abbrev pub product_column : Product → Column
product_column p = columns unknown (becomes p.exceeds) (becomes p.exceeds) unknown unknown unknown

-- AW takes a product of bytes, DW and AW one of words
unfoldable pub set_product : Bool → ℕ → Act Unit
set_product false x = AW ≔ x % 65536
set_product true x = do
  AW ≔ x % 65536
  DW ≔ x / 65536

unfoldable pub multiplied : Bool → Product → Act Unit
multiplied w p = do
  affect (product_column p)
  set_product w p.bits

unfoldable pub mulu : Bool → Place → Act Unit
mulu w by = do
  b ← value_at w by
  a ← reg_value w AW
  multiplied w (unsigned_product w a b)

unfoldable pub mul : Bool → Place → Act Unit
mul w by = do
  b ← value_at w by
  a ← reg_value w AW
  multiplied w (signed_product w a b)

-- MUL reg16,reg16' or mem16,imm8 or imm16: the lower 16 bits alone
unfoldable pub mul_by : ℕ → Place → ℕ → Act Unit
mul_by reg from by = do
  a ← value_at true from
  affect (product_column (signed_product true a by))
  set_reg true reg ((signed_product true a by).bits % 65536)

-- ---- quotients

-- where there is none a trap is taken
abbrev pub gives : ℕ → ℕ → Option Quotient
gives q m = Some (record { quotient = q; remainder = m })

unfoldable pub unsigned_quotient : Bool → ℕ → ℕ → Option Quotient
unsigned_quotient w a b =
    let k : ℕ = wrap_of w b in
    pick (eqb k 0) None (pick (ltb (a / k) (mod_of w)) (gives (a / k) (a % k)) None)

-- the quotients that stand: -7FFFh to 7FFFh, or -7Fh to 7Fh
unfoldable pub stands : Bool → ℤ → Bool
stands w q = lt_z (pos 0 -ℤ pos (half_of w)) q && lt_z q (pos (half_of w))

-- the bits of a width
unfoldable pub bits_of : Bool → ℤ → ℕ
bits_of w z = wrap_of w (bits32 z)

unfoldable pub quoted : Bool → ℤ → ℤ → Option Quotient
quoted w n d = pick (stands w (quot_z n d)) (gives (bits_of w (quot_z n d)) (bits_of w (rem_z n d))) None

-- half of all dividends, which have twice the width
abbrev pub span_of : Bool → ℕ
span_of w = pick w 2147483648 32768

-- truncated toward zero, the remainder with the dividend's sign
unfoldable pub signed_quotient : Bool → ℕ → ℕ → Option Quotient
signed_quotient w a b =
    pick (eqb (wrap_of w b) 0) None (quoted w (signed_of (span_of w) a) (signed_of (half_of w) (wrap_of w b)))

-- AW for bytes, DW and AW for words
unfoldable pub dividend : Bool → File → ℕ
dividend false r = r AW
dividend true r = r DW * 65536 + r AW

unfoldable pub set_quotient : Bool → ℕ → ℕ → Act Unit
set_quotient false q m = AW ≔ m * 256 + q
set_quotient true q m = do
  AW ≔ q
  DW ≔ m

abbrev pub all_unknown : Column
all_unknown = columns unknown unknown unknown unknown unknown unknown

-- hands on whether the trap was taken, which stores PSW before its flags are undefined
unfoldable pub divided : Bool → Option Quotient → Act Bool
divided w (Some d) = do
  set_quotient w d.quotient d.remainder
  affect all_unknown
  pure false
divided w None = do
  trap 0
  affect all_unknown
  pure true

unfoldable pub divu : Bool → Place → Act Bool
divu w by = do
  b ← value_at w by
  r ← registers
  divided w (unsigned_quotient w (dividend w r) b)

unfoldable pub div : Bool → Place → Act Bool
div w by = do
  b ← value_at w by
  r ← registers
  divided w (signed_quotient w (dividend w r) b)

unfoldable pub multiply : Multiply → Act Bool
multiply (Mulu w by) = untrapped (mulu w by)
multiply (Mul w by) = untrapped (mul w by)
multiply (MulByte reg from by) = untrapped (mul_by reg from by)
multiply (MulWord reg from by) = untrapped (mul_by reg from by)
multiply (Divu w by) = divu w by
multiply (Div w by) = div w by
