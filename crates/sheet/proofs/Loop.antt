-- What a loop in the code keeps, for every tree that repeats: the record of the turns so far.
use Prim.Native.Nat.{ℕ, suc, ◌+◌, ◌-◌, ◌≤◌, ◌<◌}
use mathlib.Core.Path.{◌≡◌}
use native.Mathlib.Nat.{sub-zero}
use native.Mathlib.Omega.{arith}
use Rattle.sheet.specs.declared.Bus.{Bus}
use Rattle.sheet.specs.World.{World}
use Rattle.sheet.specs.Act.{Act, loop}
use Rattle.sheet.specs.Handler.{nothing, ◌⊕◌}
use Rattle.sheet.specs.Contract.{Ends}
use Rattle.sheet.proofs.Rules.{seq, ends_pure, no_first, no_last, ⊕_assoc}

-- after i of n turns, with a in hand, the world w and c cycles so far: whatever the other turns come to from here, all n come to
pub record Goes (A : Type 0) (body : ℕ → A → Act A) (n : ℕ) (a₀ : A) (w₀ : World) (i : ℕ) (a : A) (w : World) (c : Bus) : Type 0 where
  pub on : (b : A) (u : World) (m : Bus) → Ends A (loop body (n - i) i a) w b u m → Ends A (loop body n 0 a₀) w₀ b u (c ⊕ m)

left_suc : (n i : ℕ) → i < n → n - i ≡ suc (n - (i + 1))
left_suc n i h = omega arith

pub goes_none : (A : Type 0) (body : ℕ → A → Act A) (n : ℕ) (a : A) (w : World) → Goes A body n a w 0 a w nothing
goes_none A body n a w = record { on = λ b u m e. rw (no_first m) (rw sub-zero at e) }

module _ (A : Type 0) (body : ℕ → A → Act A) (n : ℕ) (a₀ : A) (w₀ : World) (i : ℕ) (a : A) (w : World) (c : Bus) (g : Goes A body n a₀ w₀ i a w c) where
  one_more : (b : A) (v : World) (d : Bus) → i < n → Ends A (body i a) w b v d → (r : A) (u : World) (m : Bus) → Ends A (loop body (n - (i + 1)) (i + 1) b) v r u m → Ends A (loop body (n - i) i a) w r u (d ⊕ m)
  unfolding loop
  one_more b v d h e r u m f = rw (left_suc n i h) (seq _ e f)

  pub goes_more : (b : A) (v : World) (d : Bus) → i < n → Ends A (body i a) w b v d → Goes A body n a₀ w₀ (i + 1) b v (c ⊕ d)
  goes_more b v d h e = record { on = λ r u m f. rw (⊕_assoc c d m) (g.on r u (d ⊕ m) (one_more b v d h e r u m f)) }

  none_left : n ≤ i → Ends A (loop body (n - i) i a) w a w nothing
  unfolding loop
  none_left h =
      let e : n - i ≡ 0 = omega arith in
      rw e ends_pure

  pub goes_end : n ≤ i → Ends A (loop body n 0 a₀) w₀ a w c
  goes_end h = rw (no_last c) at (g.on a w nothing (none_left h))
