-- Laws of the two widths, each for both.
use Rattle.std.proofs.Common.{◌≡◌, ℕ, ◌*◌, ◌<◌, Bool, true, false, refl, arith}
use Rattle.sheet.specs.Width.{mod_of, half_of, wrap_of}

pub mod_half : (w : Bool) → mod_of w ≡ 2 * half_of w
mod_half true = refl
mod_half false = refl

pub wrap_lt : (w : Bool) (x : ℕ) → wrap_of w x < mod_of w
unfolding wrap_of
wrap_lt true x = omega arith
wrap_lt false x = omega arith

-- an operand of the width is itself
pub wrap_id : (w : Bool) (x : ℕ) → x < mod_of w → wrap_of w x ≡ x
unfolding wrap_of
wrap_id true x h = omega arith
wrap_id false x h = omega arith
