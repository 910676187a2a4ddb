-- Doubling and halving: past 16 places nothing is left to move.
use mathlib.Core.Path.{◌≡◌, refl, sym, ap, ◌∙◌}
use mathlib.Core.Bool.{Bool, true, false}
use Prim.Native.Nat.{ℕ, zero, suc, min, ◌+◌, ◌-◌, ◌*◌, ◌/◌, ◌%◌, ◌^◌, ◌≤◌, ◌<◌}
use native.Mathlib.Nat.{mul_assoc, mul-one, mul-sub, mul-le-mul_left, mod-eq_of_lt, pow-suc, mul-mod_left, mul-le-mul_right, div-lt_iff_lt-mul, div-div-eq-div-mul, add-mul-div_right}
use native.Mathlib.Omega.{arith}
use borrow.Author.Tests.{leb-true, leb-false}
use lib.Dec.{leb}
use lib.Arith.{digits_div}
use lib.Pow.{pow_pos, pow_mono, suc_ones, pow-add, mod-mod-pow}
use Rattle.base_at_once.specs.AtOnce.{down_by}

-- within 16 places, or past them
capped : (n : ℕ) (P : ℕ → ℕ → Type 0) → ((m : ℕ) → P m m) → ((m : ℕ) → 16 ≤ m → P 16 m) → P (min n 16) n
capped n P same far = go (leb n 16) refl
  where
    go : (b : Bool) → leb n 16 ≡ b → P (min n 16) n
    go true e =
        let h = leb-true n 16 e in
        let m : min n 16 ≡ n = omega arith in
        rw m (same n)
    go false e =
        let h = leb-false n 16 e in
        let m : min n 16 ≡ 16 = omega arith in
        rw m (far n (omega arith))

-- ---- doubled

-- of a number that is doubled 16 times or more, the low 16 bits show nothing
gone : (n x : ℕ) → 16 ≤ n → x * 2 ^ n % 65536 ≡ 0
gone n x h =
    let e : n ≡ n - 16 + 16 = omega arith in
    rw (e, pow-add 2 (n - 16) 16, ← mul_assoc x (2 ^ (n - 16)) 65536) (mul-mod_left (x * 2 ^ (n - 16)) 65536)

up_capped : (n x : ℕ) → x * 2 ^ min n 16 % 65536 ≡ x * 2 ^ n % 65536
up_capped n x =
    capped n (λ (k m : ℕ). x * 2 ^ k % 65536 ≡ x * 2 ^ m % 65536) (λ m. refl) (λ m h. gone 16 x (omega arith) ∙ sym (gone m x h))

pub up_is : (n x : ℕ) → x * 2 ^ min n 16 % 4294967296 % 65536 ≡ x * 2 ^ n % 65536
up_is n x = mod-mod-pow (x * 2 ^ min n 16) 16 16 ∙ up_capped n x

-- ---- halved

-- one place more
sum_more : (q h x : ℕ) → x + 2 * h * q + h * (suc q * 2) ≡ x + 2 * h * (suc q * 2 - 1)
sum_more q h x = let e : suc q * 2 - 1 ≡ 2 * q + 1 = omega arith in rw e (omega arith)

pub down_more : (n h x : ℕ) → down_by n (2 * h) x / 2 + h ≡ down_by (suc n) (2 * h) x
unfolding down_by
down_more n h x =
    rw (div-div-eq-div-mul (x + 2 * h * (2 ^ n - 1)) (2 ^ n) 2, pow-suc 2 n)
    (sym (add-mul-div_right (x + 2 * h * (2 ^ n - 1)) h (let p = pow_pos n in omega arith))
    ∙ ap (λ (y : ℕ). y / (2 ^ n * 2)) (rw suc_ones at (sum_more (2 ^ n - 1) h x)))

-- what comes in above keeps the number within it
pub down_lt : (n m x : ℕ) → m ≤ 65536 → x < 65536 → down_by n m x < 65536
unfolding down_by
down_lt n m x h g =
    let l = mul-le-mul_right (2 ^ n - 1) h in
    let p = pow_pos n in
    (div-lt_iff_lt-mul (pow_pos n)).1 (omega arith)

-- after so many halvings only what came in is left
left_over : (m x : ℕ) → leb m x ≡ true → (q : ℕ) → 65535 ≤ q → m ≤ 65536 → x < 65536 → (x + m * q) / suc q ≡ m
left_over m x e q h g l =
    let y = leb-true m x e in
    let s : x + m * q ≡ m * suc q + (x - m) = omega arith in
    rw s (digits_div m (omega arith))

left_under : (m x : ℕ) → leb (suc m) x ≡ false → (q : ℕ) → 65535 ≤ q → suc m ≤ 65536 → (x + suc m * q) / suc q ≡ m
left_under m x e q h g =
    let y = leb-false (suc m) x e in
    let s : x + suc m * q ≡ m * suc q + (q - m + x) = omega arith in
    rw s (digits_div m (omega arith))

same_far : (b : Bool) (m x : ℕ) → leb m x ≡ b → m ≤ 65536 → x < 65536 → (p q : ℕ) → 65535 ≤ p → 65535 ≤ q
    → (x + m * p) / suc p ≡ (x + m * q) / suc q
same_far true m x e g l p q i j = left_over m x e p i g l ∙ sym (left_over m x e q j g l)
same_far false zero x e g l p q i j = let y = leb-false 0 x e in omega arith
same_far false (suc m) x e g l p q i j = left_under m x e p i g ∙ sym (left_under m x e q j g)

pub down_capped : (n m x : ℕ) → m ≤ 65536 → x < 65536 → down_by (min n 16) m x ≡ down_by n m x
unfolding down_by
down_capped n m x g l =
    capped n (λ (k i : ℕ). (x + m * (2 ^ k - 1)) / 2 ^ k ≡ (x + m * (2 ^ i - 1)) / 2 ^ i) (λ i. refl)
    (λ i h. let p = pow_mono h in rw (suc_ones i) at (same_far (leb m x) m x refl g l 65535 (2 ^ i - 1) (omega arith) (omega arith)))

-- ---- as the code has it

shifted_in : (k m : ℕ) → k ≤ 16 → m ≤ 65536 → m * 2 ^ k % 18446744073709551616 ≡ m * 2 ^ k
shifted_in k m h g =
    let l = mul-le-mul_right (2 ^ k) g in
    let p = pow_mono h in
    mod-eq_of_lt (omega arith)

pub above_least : (k m : ℕ) → k ≤ 16 → m ≤ 65536 → m ≤ m * 2 ^ k % 18446744073709551616
above_least k m h g = rw (shifted_in k m h g) (rw mul-one at (mul-le-mul_left m (pow_pos k)))

above_is : (k m : ℕ) → k ≤ 16 → m ≤ 65536 → m * 2 ^ k % 18446744073709551616 - m ≡ m * (2 ^ k - 1)
above_is k m h g = rw (shifted_in k m h g, mul-sub m (2 ^ k) 1, mul-one m)

pub above_most : (k m : ℕ) → k ≤ 16 → m ≤ 65536 → m * 2 ^ k % 18446744073709551616 - m ≤ 4294967296
above_most k m h g =
    let l = mul-le-mul_right (2 ^ k) g in
    let p = pow_mono h in
    rw (shifted_in k m h g) (omega arith)

pub down_is : (n k m x : ℕ) → k ≡ min n 16 → m ≤ 65536 → x < 65536 → (x + (m * 2 ^ k % 18446744073709551616 - m)) / 2 ^ k ≡ down_by n m x
unfolding down_by
down_is n k m x e h g = rw (above_is k m (omega arith) h, e) (down_capped n m x h g)
