-- Turning round: what many places come to.
use mathlib.Core.Path.{◌≡◌, refl, sym, ap, ◌∙◌}
use Prim.Native.Nat.{ℕ, zero, suc, ◌+◌, ◌-◌, ◌*◌, ◌/◌, ◌%◌, ◌^◌, ◌≤◌, ◌<◌}
use native.Mathlib.Nat.{add-zero, zero-add, add-suc, suc-add, add_comm, mul-one, mul_assoc, pow-suc, div-one, mod-one, mod-lt, mod-add-div, div-add-mod, zero-mul, one-mul, mul-le-mul_left, suc-mul, mod-eq_of_lt, div-eq_of_lt, div-div-eq-div-mul, mul-le-mul_right}
use native.Mathlib.Numerals.{one-add}
use native.Mathlib.Omega.{arith}
use lib.Pow.{pow_pos, pow_mono, pow-add, split, shl_lt, shr_le, shr_lt, mod-pow-add}
use Rattle.base_at_once.specs.AtOnce.{one_right, right_by, around, turns}

-- no place at all
around_none : (s x : ℕ) → around 0 s x ≡ x
unfolding around
around_none s x = rw (div-one x, mod-one x) (omega arith)

-- the digit below 2 ^ r, and the r digits below it
digits : (r x : ℕ) → x % 2 ^ suc r ≡ x / 2 ^ r % 2 * 2 ^ r + x % 2 ^ r
digits r x = rw (← one-add r) (mod-pow-add x 1 r)

rest : (a b : ℕ) → (a + b * 2) % 2 ≡ a % 2
rest a b = omega arith

-- one place more
around_more : (r s x : ℕ) → one_right (suc (r + s)) (around r (suc s) x) ≡ around (suc r) s x
unfolding one_right around
around_more r s x =
    let low : ℕ = x % 2 ^ r * 2 ^ s in
    let double : x % 2 ^ r * 2 ^ suc s ≡ low * 2 = rw (pow-suc 2 s) (sym (mul_assoc (x % 2 ^ r) (2 ^ s) 2)) in
    let half : x / 2 ^ r / 2 ≡ x / 2 ^ suc r = div-div-eq-div-mul x (2 ^ r) 2 ∙ rw (pow-suc 2 r) in
    rw (double, rest (x / 2 ^ r) low, digits r x, ← half, pow-add 2 r s) (omega arith)

-- so many places at once
pub at_once : (r s x : ℕ) → right_by (r + s) r x ≡ around r s x
unfolding right_by
at_once zero s x = sym (around_none s x)
at_once (suc r) s x =
    let bits : suc r + s ≡ r + suc s = suc-add r s ∙ sym (add-suc r s) in
    ap (λ b. right_by b (suc r) x) bits
    ∙ (ap (one_right (r + suc s)) (at_once r (suc s) x) ∙ (ap (λ b. one_right b (around r (suc s) x)) (add-suc r s) ∙ around_more r s x))

-- some places, then others
pub right_add : (bits m n x : ℕ) → right_by bits (m + n) x ≡ right_by bits m (right_by bits n x)
unfolding right_by
right_add bits zero n x = rw (zero-add n)
right_add bits (suc m) n x = rw (suc-add m n) (ap (one_right bits) (right_add bits m n x))

-- a number of so many bits stays one
pub around_lt : (r s x : ℕ) → x < 2 ^ (r + s) → around r s x < 2 ^ (r + s)
unfolding around
around_lt r s x h =
    let high : x / 2 ^ r < 2 ^ s = shr_lt s r (rw (add_comm s r) h) in
    let low : suc (x % 2 ^ r) * 2 ^ s ≤ 2 ^ r * 2 ^ s = mul-le-mul_right (2 ^ s) (mod-lt x (pow_pos r)) in
    rw (pow-add 2 r s) (omega arith)

-- one place of a number of so many bits
pub right_lt : (p n x : ℕ) → x < 2 ^ suc p → right_by (suc p) n x < 2 ^ suc p
unfolding right_by one_right around
right_lt p zero x h = h
right_lt p (suc n) x h = rw one-add at (around_lt 1 p (right_by (suc p) n x) (rw one-add (right_lt p n x h)))

-- ---- whole turns

-- a number of so many bits comes round to itself
whole : (b x : ℕ) → x < 2 ^ b → around b 0 x ≡ x
unfolding around
whole b x h = rw (div-eq_of_lt h, mod-eq_of_lt h, mul-one x) (zero-add x)

right_whole : (b x : ℕ) → right_by b b x ≡ around b 0 x
right_whole b x = rw add-zero at (at_once b 0 x)

pub come_round : (b q x : ℕ) → x < 2 ^ b → right_by b (q * b) x ≡ x
unfolding right_by
come_round b zero x h = rw (zero-mul b)
come_round b (suc q) x h = rw (suc-mul q b, right_add b (q * b) b x, right_whole b x, whole b x h) (come_round b q x h)

-- what lies beyond so many bits comes in below: after two turns nothing does
within : (m d l : ℕ) → l < m → m * d + l + 2 ≤ m + m → d + l < m
within m zero l h g = omega arith
within m (suc zero) l h g = omega arith
within m (suc (suc d)) l h g = omega arith

twice_lt : (b x : ℕ) → x < 2 ^ (b + b) → around b 0 (around b 0 x) < 2 ^ b
unfolding around
twice_lt b x h =
    let y : ℕ = x / 2 ^ b + x % 2 ^ b in
    let high : x / 2 ^ b < 2 ^ b = shr_lt b b h in
    let low : x % 2 ^ b < 2 ^ b = mod-lt x (pow_pos b) in
    let parts : 2 ^ b * (y / 2 ^ b) + y % 2 ^ b ≡ y = div-add-mod y (2 ^ b) in
    rw (mul-one (x % 2 ^ b), mul-one (y % 2 ^ b)) (within (2 ^ b) (y / 2 ^ b) (y % 2 ^ b) (mod-lt y (pow_pos b)) (omega arith))

right_turns : (b q x : ℕ) → x < 2 ^ (b + b) → right_by b (q * b) x ≡ turns b q x
unfolding right_by turns
right_turns b zero x h = rw (zero-mul b)
right_turns b (suc zero) x h = rw (one-mul b) (right_whole b x)
right_turns b (suc (suc q)) x h =
    rw (suc-mul (suc q) b, right_add b (suc q * b) b x, right_whole b x, suc-mul q b, right_add b (q * b) b (around b 0 x), right_whole b (around b 0 x))
    (come_round b q (around b 0 (around b 0 x)) (twice_lt b x h))

-- ---- any count

-- whole turns, and then the places that are left
parts : (b n : ℕ) → n ≡ n % b + n / b * b
parts b n = let e = mod-add-div n b in omega arith

pub right_is : (b n x : ℕ) → 0 < b → x < 2 ^ (b + b) → right_by b n x ≡ around (n % b) (b - n % b) (turns b (n / b) x)
right_is b n x h g =
    let l : n % b < b = mod-lt n h in
    let e : n % b + (b - n % b) ≡ b = omega arith in
    ap (λ (m : ℕ). right_by b m x) (parts b n)
    ∙ right_add b (n % b) (n / b * b) x
    ∙ ap (right_by b (n % b)) (right_turns b (n / b) x g)
    ∙ rw e at (at_once (n % b) (b - n % b) (turns b (n / b) x))

-- to the left by so many is to the right by what is left of a turn
pub left_is : (b n x : ℕ) → 0 < b → x < 2 ^ b → right_by b n (around (b - n % b) (n % b) x) ≡ x
left_is b n x h g =
    let l : n % b < b = mod-lt n h in
    let e : b - n % b + n % b ≡ b = omega arith in
    let f : n + (b - n % b) ≡ suc (n / b) * b = let p = parts b n in omega arith in
    ap (right_by b n) (sym (rw e at (at_once (b - n % b) (n % b) x)))
    ∙ sym (right_add b n (b - n % b) x)
    ∙ ap (λ (m : ℕ). right_by b m x) f
    ∙ come_round b (suc (n / b)) x g

pub left_lt : (b n x : ℕ) → 0 < b → x < 2 ^ b → around (b - n % b) (n % b) x < 2 ^ b
left_lt b n x h g =
    let l : n % b < b = mod-lt n h in
    let e : b - n % b + n % b ≡ b = omega arith in
    rw e at (around_lt (b - n % b) (n % b) x (rw e g))

-- ---- as the code has it

pub power_is : (r : ℕ) → r ≤ 17 → 1 * 2 ^ r % 4294967296 ≡ 2 ^ r
power_is r h = let p = pow_mono h in rw (one-mul (2 ^ r)) (mod-eq_of_lt (omega arith))

low_lt : (r s x : ℕ) → r + s ≤ 17 → x % 2 ^ r * 2 ^ s < 262144
low_lt r s x h =
    let l = shl_lt r s (mod-lt x (pow_pos r)) in
    let p = pow_mono h in
    omega arith

low_is : (r s x : ℕ) → r + s ≤ 17 → x % (1 * 2 ^ r % 4294967296) * 2 ^ s % 4294967296 ≡ x % 2 ^ r * 2 ^ s
low_is r s x h = let l = low_lt r s x h in rw (power_is r (omega arith)) (mod-eq_of_lt (omega arith))

pub turn_is : (r s x : ℕ) → r + s ≤ 17 → x / 2 ^ r + x % (1 * 2 ^ r % 4294967296) * 2 ^ s % 4294967296 ≡ around r s x
unfolding around
turn_is r s x h = rw (low_is r s x h)

pub around_fits : (r s x : ℕ) → r + s ≤ 17 → x < 131072 → around r s x < 4294967296
unfolding around
around_fits r s x h g =
    let l = low_lt r s x h in
    let d = shr_le x r in
    omega arith

pub turns_more : (b q x : ℕ) → 2 ≤ q → turns b q x ≡ around b 0 (around b 0 x)
unfolding turns
turns_more b zero x h = absurd (omega arith)
turns_more b (suc zero) x h = absurd (omega arith)
turns_more b (suc (suc q)) x h = refl

-- what is left of a count after whole turns
pub rest_lt : (b n : ℕ) → 0 < b → n % b < b
rest_lt b n h = mod-lt n h

-- a whole turn makes nothing larger
pub whole_le : (b x : ℕ) → around b 0 x ≤ x
unfolding around
whole_le b x =
    let e = split x b in
    let l = mul-le-mul_left (x / 2 ^ b) (pow_pos b) in
    omega arith
