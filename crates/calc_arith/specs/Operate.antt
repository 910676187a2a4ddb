-- What the eight operations of 80 to 83 come to, once the carry is known.
use Rattle.std.specs.Prelude.{Bool, false, ℕ}
use Rattle.std.specs.Int.Bits.{bit_and, bit_or, bit_xor}
use Rattle.sheet.specs.declared.Operation.{Operation}
use Rattle.sheet.specs.declared.Operation.TheVariants.{Add, Or, Addc, Subc, And, Sub, Xor, Cmp}
use Rattle.sheet.specs.Arithmetic.{Result, sum, difference, logical}

unfoldable pub operated : Operation → Bool → ℕ → ℕ → Bool → Result
operated Add w a b c = sum w a b false
operated Or w a b c = logical w (bit_or a b)
operated Addc w a b c = sum w a b c
operated Subc w a b c = difference w a b c
operated And w a b c = logical w (bit_and a b)
operated Sub w a b c = difference w a b false
operated Xor w a b c = logical w (bit_xor a b)
operated Cmp w a b c = difference w a b false
