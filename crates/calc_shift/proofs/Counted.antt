-- A count's places: none, or all but the last and then the last.
use mathlib.Core.Path.{◌≡◌, ◌∙◌}
use mathlib.Core.Bool.{Bool}
use Prim.Native.Nat.{ℕ, zero, suc, ◌-◌, ◌<◌}
use native.Mathlib.Omega.{arith}
use Rattle.sheet.specs.declared.Shift.{Shift}
use Rattle.sheet.specs.declared.Turn.{Turn}
use Rattle.sheet.specs.Shift.{one_place, many_places}
use Rattle.calc_shift_at_once.specs.BeforeLast.{BeforeLast}

pub none : (k : Shift) (w : Bool) (n : ℕ) (t : Turn) → n ≡ 0 → t ≡ many_places k w n t
unfolding many_places
none k w n t e = rw e

pub all_places : (k : Shift) (w : Bool) (n : ℕ) (t b r : Turn) → 0 < n → BeforeLast k w (n - 1) t b → r ≡ one_place k w b → r ≡ many_places k w n t
all_places k w zero t b r h l e = absurd (omega arith)
all_places k w (suc m) t b r h l e =
    let one : suc m - 1 ≡ m = omega arith in
    e ∙ (rw one at l).last
