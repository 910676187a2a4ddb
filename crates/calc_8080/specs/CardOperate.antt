-- What the operations with AL come to, once the carry is known, and what both ways of counting do.
use Rattle.std.specs.Prelude.{Bool, false, not, ℕ}
use Rattle.std.specs.Int.Bits.{bit_or, bit_xor}
use Rattle.sheet.specs.declared.Operation.{Operation}
use Rattle.sheet.specs.declared.Operation.TheVariants.{Add, Or, Addc, Subc, And, Sub, Xor, Cmp}
use Rattle.sheet.specs.declared.Way.{Way}
use Rattle.sheet.specs.declared.Way.TheVariants.{Addition, Subtraction}
use Rattle.sheet.specs.Arithmetic.{Result}
use Rattle.sheet.specs.CardArithmetic.{card_sum, card_difference, masked, bitwise, increased, decreased, up, down}

unfoldable pub card_operated : Operation → ℕ → ℕ → Bool → Result
card_operated Add a b c = card_sum a b false
card_operated Or a b c = bitwise (bit_or a b)
card_operated Addc a b c = card_sum a b c
card_operated Subc a b c = card_difference a b c
card_operated And a b c = masked a b
card_operated Sub a b c = card_difference a b false
card_operated Xor a b c = bitwise (bit_xor a b)
card_operated Cmp a b c = card_difference a b false

-- from AC of a native sum or difference
unfoldable pub card_half_carry : Way → Bool → Bool
card_half_carry Addition ac = ac
card_half_carry Subtraction ac = not ac

unfoldable pub card_counted : Way → ℕ → ℕ → Bool → Result
card_counted Addition = card_sum
card_counted Subtraction = card_difference

-- INX and DCX, of a pair
unfoldable pub pair_stepped : Way → ℕ → ℕ
pair_stepped Addition = up
pair_stepped Subtraction = down

-- INR and DCR
unfoldable pub card_stepped : Way → ℕ → Result
card_stepped Addition = increased
card_stepped Subtraction = decreased
