-- `first_or n f` is the first j of 1 .. n at which f holds, or else n.
use Prim.Native.Nat.{ℕ, zero, suc, ◌≤◌, ◌<◌, zero-le, suc-le-suc}
use native.Mathlib.Nat.{le_of_suc-le-suc, not-suc-le-zero}
use mathlib.Core.Bool.{Bool, true, false}
use mathlib.Core.Path.{◌≡◌, refl}
use Rattle.sheet.specs.Width.{pick}
use Rattle.log_record.proofs.Picked.{picked}
use Rattle.theorems.specs.Repeat.{first_or}

pub first_or_le : (n : ℕ) (f : ℕ → Bool) → first_or n f ≤ n
unfolding first_or
first_or_le zero f = zero-le
first_or_le (suc n) f = picked (λ (k : ℕ). k ≤ suc n) (f 1) (suc-le-suc zero-le) (suc-le-suc (first_or_le n (λ j. f (suc j))))

pub first_or_pos : (n : ℕ) (f : ℕ → Bool) → 0 < n → 0 < first_or n f
unfolding first_or
first_or_pos zero f h = h
first_or_pos (suc n) f h = picked (λ (k : ℕ). 0 < k) (f 1) (suc-le-suc zero-le) (suc-le-suc zero-le)

pub first_or_before : (n : ℕ) (f : ℕ → Bool) (j : ℕ) → suc j < first_or n f → f (suc j) ≡ false
unfolding first_or
first_or_before zero f j h = absurd (not-suc-le-zero h)
first_or_before (suc n) f j h = go (f 1) refl j h (λ i. first_or_before n (λ k. f (suc k)) i)
  where
    rest : ℕ
    rest = first_or n (λ k. f (suc k))

    go : (b : Bool) → f 1 ≡ b → (j : ℕ) → suc j < pick b 1 (suc rest)
        → ((i : ℕ) → suc i < rest → f (suc (suc i)) ≡ false) → f (suc j) ≡ false
    go true e j h below = absurd (not-suc-le-zero (le_of_suc-le-suc h))
    go false e zero h below = e
    go false e (suc j) h below = below j (le_of_suc-le-suc h)

pub first_or_end : (n : ℕ) (f : ℕ → Bool) → first_or n f < n → f (first_or n f) ≡ true
unfolding first_or
first_or_end zero f h = absurd (not-suc-le-zero h)
first_or_end (suc n) f h = go (f 1) refl h (λ u. first_or_end n (λ k. f (suc k)) u)
  where
    rest : ℕ
    rest = first_or n (λ k. f (suc k))

    go : (b : Bool) → f 1 ≡ b → pick b 1 (suc rest) < suc n → (rest < n → f (suc rest) ≡ true)
        → f (pick b 1 (suc rest)) ≡ true
    go true e h below = e
    go false e h below = below (le_of_suc-le-suc h)
