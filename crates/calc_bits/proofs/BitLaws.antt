-- A bit that is set or cleared reads back as it was set, and leaves the bits below and above it and the operand's width alone.
use mathlib.Core.Path.{◌≡◌, sym, ap}
use mathlib.Core.Bool.{Bool, true, false}
use Prim.Native.Nat.{ℕ, suc, ◌+◌, ◌*◌, ◌/◌, ◌%◌, ◌-◌, ◌^◌, ◌≤◌, ◌<◌}
use native.Mathlib.Nat.{add_assoc, zero-mul, one-mul, suc-mul, add-mul, mul_assoc, pow-succ', mod-lt, div-lt_iff_lt-mul, mul-le-mul_right}
use native.Mathlib.Numerals.{add-one}
use native.Mathlib.Omega.{arith}
use borrow.Author.Tests.{eq-eqb, ne_eqb}
use lib.Dec.{eqb}
use lib.Pow.{pow_pos, pow-add, high, low}
use Rattle.sheet.specs.Width.{pick, mod_of}
use Rattle.sheet.specs.Psw.{bit}
use Rattle.sheet.specs.Fields.{replaced}
use Rattle.sheet.specs.Bits.{bit_number, bit_at, with_bit}

pub number_le : (w : Bool) (n : ℕ) → bit_number w n ≤ pick w 15 7
unfolding bit_number
number_le true n = omega arith
number_le false n = omega arith

pub number_15 : (w : Bool) (n : ℕ) → bit_number w n ≤ 15
number_15 true n = number_le true n
number_15 false n = omega (arith, number_le false n)

-- a bit as a digit at its place
pub place_bit : (b : Bool) (d : ℕ) → pick b d 0 ≡ bit b * d
place_bit true d = sym (one-mul d)
place_bit false d = sym (zero-mul d)

place_le : (b : Bool) (d : ℕ) → pick b d 0 ≤ d
place_le true d = omega arith
place_le false d = omega arith

-- what lies above the bit, the bit, and what lies below it
with_bit_is : (x n : ℕ) (b : Bool) → with_bit x n b ≡ x / (2 * 2 ^ n) * (2 * 2 ^ n) + bit b * 2 ^ n + x % 2 ^ n
unfolding with_bit replaced
with_bit_is x n true = rw (add-one n, pow-succ' 2 n)
with_bit_is x n false = rw (add-one n, pow-succ' 2 n)

-- the parts of an operand with the bit set anew, where the bit's weight is d and o the bit at its place
pub set_parts : (x n d o : ℕ) (b : Bool) → d ≡ 2 ^ n → o ≡ pick b d 0 → x / (2 * d) * (2 * d) + o + x % d ≡ with_bit x n b
set_parts x n d o b e f = rw (with_bit_is x n b, f, place_bit b d, e)

-- ---- the width is kept

-- what lies above a bit is a multiple of twice its weight d, and k of these make the whole
above_le : (x d k : ℕ) → 1 ≤ d → x < k * (2 * d) → x / (2 * d) * (2 * d) + 2 * d ≤ k * (2 * d)
above_le x d k h l =
    let lt : x / (2 * d) < k = (div-lt_iff_lt-mul {k = 2 * d} (omega arith)).1 l in
    rw suc-mul at (mul-le-mul_right (2 * d) lt)

whole : (m n : ℕ) → n ≤ m → 2 ^ (m - n) * (2 * 2 ^ n) ≡ 2 ^ suc m
whole m n h = rw (← pow-succ' 2 n, ← pow-add 2 (m - n) (suc n)) (ap (λ (e : ℕ). 2 ^ e) (omega arith))

pub with_bit_lt : (m n x : ℕ) (b : Bool) → n ≤ m → x < 2 ^ suc m → with_bit x n b < 2 ^ suc m
with_bit_lt m n x b h l =
    rw (with_bit_is x n b, ← place_bit b (2 ^ n))
    (omega (arith, whole m n h, place_le b (2 ^ n), pow_pos n, mod-lt x (pow_pos n), above_le x (2 ^ n) (2 ^ (m - n)) (pow_pos n) (rw (whole m n h) l)))

pub with_bit_keeps : (w : Bool) (x n : ℕ) (b : Bool) → x < mod_of w → with_bit x (bit_number w n) b < mod_of w
with_bit_keeps true x n b h = with_bit_lt 15 (bit_number true n) x b (number_le true n) h
with_bit_keeps false x n b h = with_bit_lt 7 (bit_number false n) x b (number_le false n) h

-- ---- what is read back

-- the bit and what lies above it, over what lies below
parts : (x n : ℕ) (b : Bool) → with_bit x n b ≡ (x / (2 * 2 ^ n) * 2 + bit b) * 2 ^ n + x % 2 ^ n
parts x n b = rw (with_bit_is x n b, add-mul, mul_assoc)

pub with_bit_below : (x n : ℕ) (b : Bool) → with_bit x n b % 2 ^ n ≡ x % 2 ^ n
with_bit_below x n b = rw (parts x n b) (low (x / (2 * 2 ^ n) * 2 + bit b) n (mod-lt x (pow_pos n)))

reads : (q : ℕ) (b : Bool) → eqb ((q * 2 + bit b) % 2) 1 ≡ b
reads q true = eq-eqb ((q * 2 + 1) % 2) 1 (omega arith)
reads q false = ne_eqb ((q * 2 + 0) % 2) 1 (omega arith)

pub with_bit_at : (x n : ℕ) (b : Bool) → bit_at (with_bit x n b) n ≡ b
unfolding bit_at
with_bit_at x n b =
    rw (parts x n b, high (x / (2 * 2 ^ n) * 2 + bit b) n (mod-lt x (pow_pos n))) (reads (x / (2 * 2 ^ n)) b)

pub with_bit_above : (x n : ℕ) (b : Bool) → with_bit x n b / 2 ^ suc n ≡ x / 2 ^ suc n
with_bit_above x n b =
    let small : bit b * 2 ^ n + x % 2 ^ n < 2 ^ suc n = rw (pow-succ' 2 n, ← place_bit b (2 ^ n)) (omega (arith, place_le b (2 ^ n), mod-lt x (pow_pos n))) in
    rw (with_bit_is x n b, ← pow-succ' 2 n, add_assoc) (high (x / 2 ^ suc n) (suc n) small)
