-- The operand before the last place of a count.
use Rattle.std.specs.Prelude.{◌≡◌, Bool, true, false, ℕ, suc, ◌+◌, ◌-◌, ◌%◌, ltb}
use Rattle.sheet.specs.declared.Shift.{Shift}
use Rattle.sheet.specs.declared.Turn.{Turn}
use Rattle.sheet.specs.Width.{pick, mod_of, half_of, sign_of}
use Rattle.sheet.specs.Shift.{turn, one_place, many_places}

-- after m places: one more leads from r to where m + 1 lead from t
pub record BeforeLast (k : Shift) (w : Bool) (m : ℕ) (t r : Turn) : Type 0 where
  pub last : one_place k w r ≡ many_places k w (suc m) t

-- how many bits an operand has
abbrev pub width_of : Bool → ℕ
width_of w = pick w 16 8

-- a number within the width, with the sign that it had: an operand is left as it is
unfoldable pub fit_of : Bool → ℕ → ℕ
fit_of w x = x % half_of w + pick (sign_of w x) (half_of w) 0

-- CY as the highest bit, above the operand
unfoldable pub joined : Bool → Turn → ℕ
joined w t = t.value + pick t.cy (mod_of w) 0

-- and taken apart again
unfoldable pub part_of : Bool → ℕ → Turn
part_of w y = pick (ltb y (mod_of w)) (turn y false) (turn (y - mod_of w) true)
