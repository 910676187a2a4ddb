-- The table's rule.
use Prim.Native.Nat.{ℕ, ◌%◌}
use mathlib.Core.Path.{◌≡◌}
use native.Mathlib.Omega.{arith}
use lib.ListN.{get_or}
use Rattle.base_laws.proofs.Table.{any_default}
use Rattle.sheet.specs.declared.Form.{Form}
use Rattle.std.specs.Prelude.{None}
use Rattle.sheet.specs.Registers.{BW, in_ds0}
use Rattle.sheet.specs.Operand.{form, forms, form_at}

pub form_is : (n : ℕ) (d r : Form) → r ≡ get_or forms (n % 8) d → r ≡ form_at n
unfolding form_at
form_is n d r e = rw (any_default forms (n % 8) (form BW None in_ds0) d (omega arith)) e
