-- What each return of the code comes to, over plain values.
use Prim.Native.Nat.{ℕ, ◌+◌, ◌*◌, ◌/◌, ◌%◌, ◌≤◌, ◌<◌}
use mathlib.Core.Path.{◌≡◌, refl}
use mathlib.Core.Bool.{Bool, true, false}
use native.Mathlib.Omega.{arith}
use lib.Dec.{eqb, lit≤}
use mir.Val.{bool_byte}
use borrow.Author.Tests.{ne_eqb}
use Rattle.sheet.specs.declared.Address.{Address}
use Rattle.sheet.specs.declared.Address.TheVariants.{Formed, Direct}
use Rattle.sheet.specs.declared.Place.{Place}
use Rattle.sheet.specs.declared.Place.TheVariants.{Register, Memory}
use Rattle.quick_place.specs.Packed.{address_at, word_of, Fields, Joined, unjoined, joined, Located, unlocated, located, Placed, unplaced, register, memory}

bit_odd : (b : Bool) → eqb (bool_byte b) 1 ≡ b
bit_odd true = refl
bit_odd false = refl

pub bit_small : (b : Bool) → bool_byte b ≤ 1
bit_small true = lit≤ tt
bit_small false = lit≤ tt

module _ (r k z m g o s t d i : ℕ) (kind : k < 256) (size : z < 16) (rm : m < 16) (reg : g < 16) (op : o < 16) (seg : s < 4) (one : t ≤ 1) (disp : d < 65536)
    (e : r ≡ k + 256 * z + 4096 * m + 65536 * g + 1048576 * o + 16777216 * s + 268435456 * t + 4294967296 * d + 281474976710656 * i) where
  wide : (b : Bool) → t ≡ bool_byte b → word_of r ≡ b
  wide b q = let x : r / 268435456 % 2 ≡ t = omega arith in rw (x, q) (bit_odd b)

  fields : (b : Bool) → t ≡ bool_byte b → Fields r k z m g o s b d i
  fields b q =
      record { kind_is = omega arith; size_is = omega arith; rm_is = omega arith; reg_is = omega arith; op_is = omega arith; cond_is = omega arith; seg_is = omega arith; word_is = wide b q; disp_is = omega arith; imm_is = omega arith }

pub joins : (k n z z' m m' g g' o o' s s' t d d' i i' r : ℕ) (b : Bool) → d < 65536 → z ≤ 8 → m ≤ 15 → g ≤ 15 → o ≤ 15 → s ≤ 3 → (n ≡ k) × (n ≤ 50) → z' ≡ z → m' ≡ m → g' ≡ g → o' ≡ o → s' ≡ s → t ≡ bool_byte b → d' ≡ d → i' ≡ i
    → r ≡ n + 256 * z' + 4096 * m' + 65536 * g' + 1048576 * o' + 16777216 * s' + 268435456 * t + 4294967296 * d' + 281474976710656 * i' → Joined k z m g o s b d i r
joins k n z z' m m' g g' o o' s s' t d d' i i' r b hd hz hm hg ho hs (q, l) ez em eg eo es et ed ei e =
    let u : t ≤ 1 = rw et (bit_small b) in
    joined hz (fields r k z m g o s t d i (omega arith) (omega arith) (omega arith) (omega arith) (omega arith) (omega arith) u hd (omega arith) b et)

-- ---- addresses and places

direct_at : (s d : ℕ) → address_at 8 s d ≡ Direct s d
unfolding address_at
direct_at s d = refl

formed_at : (n s d : ℕ) → (n ≡ 8 → ⊥) → address_at n s d ≡ Formed s n d
unfolding address_at
formed_at n s d h = rw (ne_eqb n 8 h)

module _ (a : Address) (k z g o : ℕ) (b : Bool) (i r s d : ℕ) where
  pub at_form : (n : ℕ) → a ≡ Formed s n d → (n ≡ 8 → ⊥) → Joined k z n g o s b d i r → Located a k z g o b i r
  at_form n e h (unjoined q) = unlocated q
  at_form n e h (joined l f) = located n s d (rw (formed_at n s d h) e) l f

  pub at_offset : a ≡ Direct s d → Joined k z 8 g o s b d i r → Located a k z g o b i r
  at_offset e (unjoined q) = unlocated q
  at_offset e (joined l f) = located 8 s d (rw (direct_at s d) e) l f

module _ (p : Place) (k k' z g o : ℕ) (b : Bool) (i r : ℕ) where
  pub in_register : (n : ℕ) → p ≡ Register n → Joined k z n g o 0 b 0 i r → Placed p k k' z g o b i r
  in_register n e (unjoined q) = unplaced q
  in_register n e (joined l f) = register n e l f

  pub in_memory_lem : (a : Address) → p ≡ Memory a → Located a k' z g o b i r → Placed p k k' z g o b i r
  in_memory_lem a e (unlocated q) = unplaced q
  in_memory_lem a e (located m s d h l f) = memory m s d (rw (← h) e) l f
