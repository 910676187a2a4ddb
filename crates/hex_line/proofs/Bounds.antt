-- How large the numbers of a line are. Assumes nothing.
use Prim.Native.Nat.{ℕ, zero, suc, ◌+◌, ◌≤◌, ◌<◌}
use mathlib.Core.Path.{◌≡◌}
use mathlib.Core.Bool.{Bool, true, false, ◌&&◌}
use mathlib.Core.List.{List}
use native.Mathlib.Omega.{arith}
use lib.ListN.{get_or}
use lib.Dec.{eqb, lit≤}
use Rattle.sheet.specs.Width.{pick}
use Rattle.hex_form.specs.Line.{sum, byte, size, offset, kind, ending, width}

module _ (s : List ℕ) where
  pub byte_small : (i : ℕ) → byte s i ≤ 255
  unfolding byte
  byte_small i = omega arith

  pub size_small : size s ≤ 255
  unfolding size
  size_small = byte_small 0

  pub offset_small : offset s ≤ 65535
  unfolding offset
  offset_small = omega (arith, byte_small 1, byte_small 2)

  pub kind_small : kind s ≤ 255
  unfolding kind
  kind_small = byte_small 3

  pub width_small : width s ≤ 521
  unfolding width
  width_small = omega (arith, size_small)

  pub ending_small : (i : ℕ) → ending s i ≤ 2
  unfolding ending
  ending_small i = go (eqb (get_or s i 0) 10) (eqb (get_or s i 0) 13 && eqb (get_or s (i + 1) 0) 10)
    where
      go : (a b : Bool) → pick a 1 (pick b 2 0) ≤ 2
      go true b = lit≤ tt
      go false true = lit≤ tt
      go false false = lit≤ tt

pub sum_small : (f : ℕ → ℕ) (k : ℕ) → sum f k < 256
unfolding sum
sum_small f zero = lit≤ tt
sum_small f (suc k) = omega arith

pub byte_bound : (s : List ℕ) (i : ℕ) {r : ℕ} → r ≡ byte s i → r ≤ 255
byte_bound s i e = rw e (byte_small s i)

pub size_bound : (s : List ℕ) {r : ℕ} → r ≡ size s → r ≤ 255
size_bound s e = rw e (size_small s)

pub width_bound : (s : List ℕ) {r : ℕ} → r ≡ width s → r ≤ 521
width_bound s e = rw e (width_small s)

pub ending_bound : (s : List ℕ) (i : ℕ) {r : ℕ} → r ≡ ending s i → r ≤ 2
ending_bound s i e = rw e (ending_small s i)

pub sum_bound : (f : ℕ → ℕ) (k : ℕ) {r : ℕ} → r ≡ sum f k → r < 256
sum_bound f k e = rw e (sum_small f k)

pub offset_bound : (s : List ℕ) {r : ℕ} → r ≡ offset s → r ≤ 65535
offset_bound s e = rw e (offset_small s)
