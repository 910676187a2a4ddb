-- The two widths of an operand: the sheet's bit W, true for a word and false for a byte. Each rule is one definition over it.
-- 001:1086, the bit W; 01:16
use Rattle.std.specs.Prelude.{Bool, true, false, not, ℕ, ◌+◌, ◌-◌, ◌*◌, ◌%◌, eqb, leb, ltb, ℤ, pos, negsuc, ◌-ℤ◌}
use Rattle.std.specs.Int.Count.{ones}

abbrev pub pick : {A : Type 0} → Bool → A → A → A
pick true a b = a
pick false a b = b

-- how many bytes an operand has, how many values, and half as many
abbrev pub bytes_of : Bool → ℕ
bytes_of w = pick w 2 1

abbrev pub mod_of : Bool → ℕ
mod_of w = pick w 65536 256

abbrev pub half_of : Bool → ℕ
half_of w = pick w 32768 128

-- the low 16 or 8 bits
unfoldable pub wrap_of : Bool → ℕ → ℕ
wrap_of w x = x % mod_of w

-- the sign, bit 15 or 7
unfoldable pub sign_of : Bool → ℕ → Bool
sign_of w x = leb (half_of w) x

-- bit 0
abbrev pub odd : ℕ → Bool
odd n = eqb (n % 2) 1

-- the low byte has an even count of ones
unfoldable pub even_of : ℕ → Bool
even_of x = not (odd (ones (x % 256)))

-- 16-bit sums and differences wrap
abbrev pub add16 : ℕ → ℕ → ℕ
add16 a b = (a + b) % 65536

abbrev pub sub16 : ℕ → ℕ → ℕ
sub16 a b = (a + 65536 - b) % 65536

-- a byte widened to a word with its sign
unfoldable pub extend : ℕ → ℕ
extend b = pick (sign_of false b) (b + 65280) b

-- the number that x stands for in two's complement, where h is half of all values
unfoldable pub signed_of : ℕ → ℕ → ℤ
signed_of h x = pick (ltb x h) (pos x) (pos x -ℤ pos (2 * h))

-- the low 32 bits of a number in two's complement
unfoldable pub bits32 : ℤ → ℕ
bits32 (pos n) = n % 4294967296
bits32 (negsuc n) = (4294967295 - n % 4294967296) % 4294967296
