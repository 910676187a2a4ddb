-- Addition, subtraction, comparison, logic, increment, decrement, complement: results with their flag columns, and the instructions.
-- 001:1295-1318, 1329-1333, 1383-1434; 000:978-1001, 1014-1019, 1076-1113; 01:54
use Rattle.std.specs.Prelude.{Bool, false, not, ◌&&◌, ℕ, ◌+◌, ◌-◌, ◌%◌, eqb, leb, ltb}
use Rattle.std.specs.Bool.{beq}
use Rattle.std.specs.Int.Bits.{bit_and, bit_or, bit_xor}
use Rattle.sheet.specs.declared.Arithmetic.{Arithmetic}
use Rattle.sheet.specs.declared.Arithmetic.TheVariants.{Two, One, Test}
use Rattle.sheet.specs.declared.Operation.{Operation}
use Rattle.sheet.specs.declared.Operation.TheVariants.{Add, Or, Addc, Subc, And, Sub, Xor, Cmp}
use Rattle.sheet.specs.declared.Unary.{Unary}
use Rattle.sheet.specs.declared.Unary.TheVariants.{Inc, Dec, Not, Neg}
use Rattle.sheet.specs.declared.Place.{Place}
use Rattle.sheet.specs.declared.Source.{Source}
use Rattle.sheet.specs.declared.Spot.{Spot}
use Rattle.sheet.specs.Width.{mod_of, wrap_of, sign_of, even_of}
use Rattle.sheet.specs.Psw.{CY, bit, Effect, blank, unknown, becomes, Column, columns}
use Rattle.sheet.specs.Act.{Act, pure, ◌>>=◌, ◌>>◌, flag, affect}
use Rattle.sheet.specs.Operand.{locate, fetch, deposit, source_value, value_at}

-- a value and the flags that go with it
pub record Result : Type 0 where
  pub value : ℕ
  pub column : Column

-- the value x; AC, CY and V as given, P, S and Z by x
unfoldable pub resulting : Bool → ℕ → (ac cy v : Effect) → Result
resulting w x ac cy v =
    record { value = x; column = columns ac cy v (becomes (even_of x)) (becomes (sign_of w x)) (becomes (eqb x 0)) }

-- a + b + c at a width, and what it carries out of bit 3 and out of the top
abbrev pub added : Bool → ℕ → ℕ → Bool → ℕ
added w a b c = wrap_of w (a + b + bit c)

abbrev pub half_carry : ℕ → ℕ → Bool → Bool
half_carry a b c = leb 16 (a % 16 + b % 16 + bit c)

abbrev pub carry : Bool → ℕ → ℕ → Bool → Bool
carry w a b c = leb (mod_of w) (a + b + bit c)

-- a - b - c likewise, with its borrows. 131,072 is 0 at either width, so nothing falls below 0
abbrev pub lessened : Bool → ℕ → ℕ → Bool → ℕ
lessened w a b c = wrap_of w (131072 + a - (b + bit c))

abbrev pub half_borrow : ℕ → ℕ → Bool → Bool
half_borrow a b c = ltb (a % 16) (b % 16 + bit c)

abbrev pub borrow : ℕ → ℕ → Bool → Bool
borrow a b c = ltb a (b + bit c)

-- V where a and b have one sign and their sum has the other
unfoldable pub sum : Bool → ℕ → ℕ → Bool → Result
sum w a b c =
    let r : ℕ = added w a b c in
    resulting w r
    (becomes (half_carry a b c))
    (becomes (carry w a b c))
    (becomes (beq (sign_of w a) (sign_of w b) && not (beq (sign_of w r) (sign_of w a))))

-- V where a and b differ in sign and the difference has b's
unfoldable pub difference : Bool → ℕ → ℕ → Bool → Result
difference w a b c =
    let r : ℕ = lessened w a b c in
    resulting w r
    (becomes (half_borrow a b c))
    (becomes (borrow a b c))
    (becomes (not (beq (sign_of w a) (sign_of w b)) && beq (sign_of w r) (sign_of w b)))

-- a bitwise result x: AC U, CY 0, V 0
unfoldable pub logical : Bool → ℕ → Result
logical w x = resulting w x unknown (becomes false) (becomes false)

-- INC and DEC leave CY alone
unfoldable pub sparing_cy : Result → Result
sparing_cy r =
    record { value = r.value; column = columns r.column.ac blank r.column.v r.column.p r.column.s r.column.z }

-- every bit turned over
unfoldable pub complement : Bool → ℕ → ℕ
complement w a = wrap_of w (131071 - a)

-- flags first, then the value to where the operand stands
unfoldable pub finish : Bool → Spot → Result → Act Unit
finish w s r = do
  affect r.column
  deposit w s r.value

-- ---- two operands

-- ADDC and SUBC alone read CY
unfoldable pub operate : Operation → Bool → ℕ → ℕ → Act Result
operate Add w a b = pure (sum w a b false)
operate Or w a b = pure (logical w (bit_or a b))
operate Addc w a b = do
  c ← flag CY
  pure (sum w a b c)
operate Subc w a b = do
  c ← flag CY
  pure (difference w a b c)
operate And w a b = pure (logical w (bit_and a b))
operate Sub w a b = pure (difference w a b false)
operate Xor w a b = pure (logical w (bit_xor a b))
operate Cmp w a b = pure (difference w a b false)

-- CMP drops the difference
unfoldable pub conclude : Operation → Bool → Spot → ℕ → Act Unit
conclude Add w s v = deposit w s v
conclude Or w s v = deposit w s v
conclude Addc w s v = deposit w s v
conclude Subc w s v = deposit w s v
conclude And w s v = deposit w s v
conclude Sub w s v = deposit w s v
conclude Xor w s v = deposit w s v
conclude Cmp w s v = pure tt

unfoldable pub two : Operation → Bool → Place → Source → Act Unit
two op w dst src = do
  s ← locate dst
  a ← fetch w s
  b ← source_value w src
  r ← operate op w a b
  affect r.column
  conclude op w s r.value

-- TEST: AND without its result
unfoldable pub test : Bool → Place → Source → Act Unit
test w left right = do
  a ← value_at w left
  b ← source_value w right
  affect (logical w (bit_and a b)).column

-- ---- one operand

unfoldable pub unary : Unary → Bool → ℕ → Result
unary Inc w a = sparing_cy (sum w a 1 false)
unary Dec w a = sparing_cy (difference w a 1 false)
unary Not w a = record { value = complement w a; column = columns blank blank blank blank blank blank }
unary Neg w a = difference w 0 a false

unfoldable pub one : Unary → Bool → Place → Act Unit
one op w dst = do
  s ← locate dst
  a ← fetch w s
  finish w s (unary op w a)

unfoldable pub calculate : Arithmetic → Act Unit
calculate (Two op w to from) = two op w to from
calculate (One op w to) = one op w to
calculate (Test w left right) = test w left right
