-- ROL4: a byte register takes no more of a sum that wraps than of one that does not.
use mathlib.Core.Path.{◌≡◌}
use mathlib.Core.Bool.{false}
use Prim.Native.Nat.{ℕ, ◌+◌, ◌%◌}
use native.Mathlib.Omega.{arith}
use Rattle.sheet.specs.Width.{add16}
use Rattle.sheet.specs.Registers.{reg_word}
use Rattle.sheet.specs.Operand.{set_reg}

cut : (x : ℕ) → x % 65536 % 256 ≡ x % 256
cut x = omega arith

pub set_wraps : (n a b : ℕ) → set_reg false n (add16 a b) ≡ set_reg false n (a + b)
unfolding set_reg reg_word
set_wraps n a b = simp (cut (a + b))
