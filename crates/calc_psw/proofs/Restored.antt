-- Restoring stored flags leaves nothing of the PSW before but MD.
use mathlib.Core.Path.{◌≡◌, refl}
use Prim.Native.Nat.{ℕ}
use Rattle.sheet.specs.Psw.{flag_of, native_of, pack, restored, keeps, settled}

pub settled_restored : (x psw : ℕ) → settled keeps (restored x) psw ≡ pack (native_of psw) (flag_of x)
unfolding settled
settled_restored x psw = refl
