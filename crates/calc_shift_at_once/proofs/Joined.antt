-- CY and the operand as one number, and apart again.
use mathlib.Core.Path.{◌≡◌, refl}
use mathlib.Core.Bool.{Bool, true, false}
use Prim.Native.Nat.{ℕ, ◌+◌, ◌-◌, ◌*◌, ◌≤◌, ◌<◌}
use native.Mathlib.Nat.{add-zero}
use native.Mathlib.Omega.{arith}
use borrow.Author.Tests.{lt-ltb, le-ltb, ltb-true, ltb-false}
use lib.Dec.{ltb}
use Rattle.sheet.specs.declared.Shift.{Shift}
use Rattle.sheet.specs.declared.Turn.{Turn}
use Rattle.sheet.specs.Width.{pick, mod_of}
use Rattle.sheet.specs.Shift.{turn}
use Rattle.calc_shift_at_once.specs.BeforeLast.{BeforeLast, joined, part_of}

pub mod_le : (w : Bool) → mod_of w ≤ 65536
mod_le true = omega arith
mod_le false = omega arith

pub part_joined : (w : Bool) (y : ℕ) → joined w (part_of w y) ≡ y
unfolding joined part_of
part_joined w y = again (ltb y (mod_of w)) refl
  where
    again : (b : Bool) → ltb y (mod_of w) ≡ b → (pick b (turn y false) (turn (y - mod_of w) true)).value + pick (pick b (turn y false) (turn (y - mod_of w) true)).cy (mod_of w) 0 ≡ y
    again true e = add-zero y
    again false e = let l = ltb-false y (mod_of w) e in omega arith

pub part_lt : (w : Bool) (y : ℕ) → y < 2 * mod_of w → (part_of w y).value < mod_of w
unfolding part_of
part_lt w y h = again (ltb y (mod_of w)) refl
  where
    again : (b : Bool) → ltb y (mod_of w) ≡ b → (pick b (turn y false) (turn (y - mod_of w) true)).value < mod_of w
    again true e = ltb-true y (mod_of w) e
    again false e = let l = ltb-false y (mod_of w) e in omega arith

pub part_low : (w : Bool) (y m : ℕ) → m ≡ mod_of w → y < m → turn y false ≡ part_of w y
unfolding part_of
part_low w y m e h = rw (lt-ltb y (mod_of w) (rw e at h))

pub part_high : (w : Bool) (y m : ℕ) → m ≡ mod_of w → m ≤ y → turn (y - m) true ≡ part_of w y
unfolding part_of
part_high w y m e h = rw (le-ltb y (mod_of w) (rw e at h), e)

-- a kind that is known to be another
pub known : (k j : Shift) (w : Bool) (m : ℕ) (t r : Turn) → k ≡ j → BeforeLast j w m t r → BeforeLast k w m t r
known k j w m t r e h = rw e h
