-- What each function of a line's faults returns, by the tests that it makes. Assumes nothing.
use Prim.Native.Nat.{ℕ, ◌+◌, ◌*◌, ◌-◌, ◌≤◌, ◌<◌}
use mathlib.Core.Path.{◌≡◌, refl, sym}
use mathlib.Core.Bool.{Bool, true, false, not, ◌&&◌, and-true, and-false}
use mathlib.Core.List.{List}
use native.Mathlib.Omega.{arith}
use lib.Dec.{ltb, eqb}
use borrow.Author.Tests.{lt-ltb, le-ltb, le-leb, lt-leb, ne_eqb, ltb-true, ltb-false, not-true, not-false}
use Rattle.sheet.specs.Width.{pick}
use Rattle.hex_form.specs.Line.{all, byte, size, kind, formed, summed}
use Rattle.hex_form.specs.Reading.{place, inside, lands_in, lands, fault, segment_after}
use Rattle.hex_line.proofs.Bounds.{byte_small}
use Rattle.hex_line.proofs.Laws.{all_more}

-- ---- inside an image

module _ (base n a : ℕ) where
  pub before_image : a < base → false ≡ inside base n a
  unfolding inside
  before_image h = rw (lt-leb base a h)

  pub above_all : base ≤ a → 1048576 ≤ a → false ≡ inside base n a
  unfolding inside
  above_all p h = rw (le-leb base a p, le-ltb a 1048576 h) (sym (and-false (ltb a (base + n))))

  pub in_order : base ≤ a → a < 1048576 → ltb (a - base) n ≡ inside base n a
  unfolding inside
  in_order p h = rw (le-leb base a p, lt-ltb a 1048576 h, and-true (ltb a (base + n))) (go (ltb (a - base) n) refl)
    where
      go : (t : Bool) → ltb (a - base) n ≡ t → t ≡ ltb a (base + n)
      go true e = let k = ltb-true (a - base) n e in sym (lt-ltb a (base + n) (omega arith))
      go false e = let k = ltb-false (a - base) n e in sym (le-ltb a (base + n) (omega arith))

-- ---- whether a line's bytes land

module _ (base n g : ℕ) (s : List ℕ) where
  pub lands_more : (k : ℕ) (b x : Bool) (a : ℕ) → b ≡ all (lands_in base n g s) k → a ≡ place g s k → x ≡ inside base n a → (b && x) ≡ all (lands_in base n g s) (k + 1)
  unfolding lands_in
  lands_more k b x a e q r = rw (all_more (lands_in base n g s) k, e, r, q)

  pub data_lands : {k i : ℕ} (t : Bool) → k ≡ kind s → k ≡ 0 → i ≡ size s → t ≡ all (lands_in base n g s) i → t ≡ lands base n g s
  unfolding lands
  data_lands t e z i q = rw (← e, z, ← i) q

  pub others_land : {k : ℕ} → k ≡ kind s → (k ≡ 0 → ⊥) → true ≡ lands base n g s
  unfolding lands
  others_land {k} e z = rw (← e, ne_eqb k 0 z)

  -- ---- the first of 10, 11, 12

  module _ {f : Bool} (e : f ≡ formed s) where
    pub unformed : not f ≡ true → 10 ≡ fault base n g s
    unfolding fault
    unformed h = rw (← e, not-true f h)

    module _ (h₁ : not f ≡ false) {c : Bool} (d : c ≡ summed s) where
      pub unsummed : not c ≡ true → 11 ≡ fault base n g s
      unfolding fault
      unsummed h = rw (← e, not-false f h₁, ← d, not-true c h)

      module _ (h₂ : not c ≡ false) {i : Bool} (o : i ≡ lands base n g s) where
        pub outside : not i ≡ true → 12 ≡ fault base n g s
        unfolding fault
        outside h = rw (← e, not-false f h₁, ← d, not-false c h₂, ← o, not-true i h)

        pub faultless : not i ≡ false → 0 ≡ fault base n g s
        unfolding fault
        faultless h = rw (← e, not-false f h₁, ← d, not-false c h₂, ← o, not-false i h)

-- ---- the segment behind a line

module _ (g : ℕ) (s : List ℕ) {k : ℕ} (e : k ≡ kind s) where
  pub segment_given : (h l : ℕ) → k ≡ 2 → h ≡ byte s 4 → l ≡ byte s 5 → 256 * h + l ≡ segment_after g s
  unfolding segment_after
  segment_given h l z p q = rw (← e, z, p, q)

  pub segment_kept : (k ≡ 2 → ⊥) → g ≡ segment_after g s
  unfolding segment_after
  segment_kept z = rw (← e, ne_eqb k 2 z)

pub segment_small : (g : ℕ) (s : List ℕ) → g ≤ 65535 → segment_after g s ≤ 65535
unfolding segment_after
segment_small g s h = go (eqb (kind s) 2)
  where
    go : (t : Bool) → pick t (256 * byte s 4 + byte s 5) g ≤ 65535
    go true = omega (arith, byte_small s 4, byte_small s 5)
    go false = h
