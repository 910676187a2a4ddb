-- What the turns of the loops come to. Assumes nothing.
use Prim.Native.Nat.{ℕ, zero, suc, ◌+◌, ◌*◌, ◌<◌, ◌≤◌}
use mathlib.Core.Bool.{Bool, true, false, ◌&&◌}
use mathlib.Core.List.{List}
use mathlib.Core.Path.{◌≡◌, refl, sym, ap, ◌∙◌}
use native.Mathlib.Numerals.{add-one}
use native.Mathlib.Omega.{arith}
use lib.ListN.{get_or, set}
use lib.Dec.{eqb, leb}
use borrow.Author.Tests.{eq-eqb, ne_eqb, le-leb, lt-leb, eqb-true, eqb-false}
use Rattle.case_bytes.specs.Numbers.{double_at}
use Rattle.case_bytes.specs.Buffers.{patched_at, patched, kinds_of}

-- ---- kinds

pub no_kinds : (patches : List ℕ) → kinds_of patches 0 ≡ true
unfolding kinds_of
no_kinds patches = refl

-- one kind more is looked at
pub kinds_more : (patches : List ℕ) (i : ℕ) → get_or patches (i * 6) 0 ≤ 2 → kinds_of patches i ≡ true → kinds_of patches (i + 1) ≡ true
unfolding kinds_of
kinds_more patches i h e = rw (add-one i, e, le-leb (get_or patches (i * 6) 0) 2 h)

and_false : (b : Bool) → false ≡ b && false
and_false true = refl
and_false false = refl

pub kind_unknown : (patches : List ℕ) (i n : ℕ) → i < n → 2 < get_or patches (i * 6) 0 → false ≡ kinds_of patches n
unfolding kinds_of
kind_unknown patches i zero l h = absurd (omega arith)
kind_unknown patches i (suc n) l h = go (λ m. kind_unknown patches i n m h) (eqb i n) refl
  where
    go : (i < n → false ≡ kinds_of patches n) → (b : Bool) → eqb i n ≡ b → false ≡ kinds_of patches n && leb (get_or patches (n * 6) 0) 2
    go ih true q = rw (← eqb-true i n q, lt-leb (get_or patches (i * 6) 0) 2 h) (and_false (kinds_of patches i))
    go ih false q = let m : i < n = omega (arith, eqb-false i n q) in rw (← ih m)

pub all_kinds : (patches : List ℕ) (i n : ℕ) → i ≡ n → kinds_of patches i ≡ true → true ≡ kinds_of patches n
all_kinds patches i n e h = rw (← e) (sym h)

-- ---- patches

pub none_patched : (kind : ℕ) (patches l : List ℕ) → l ≡ patched kind patches 0 l
unfolding patched
none_patched kind patches l = refl

-- one patch more
pub patched_more : (kind : ℕ) (patches : List ℕ) (i : ℕ) (l₀ l z : List ℕ) → l ≡ patched kind patches i l₀ → z ≡ patched_at kind patches (i * 6) l → z ≡ patched kind patches (i + 1) l₀
unfolding patched
patched_more kind patches i l₀ l z e f = rw (add-one i) (f ∙ ap (patched_at kind patches (i * 6)) e)

module _ (kind : ℕ) (patches : List ℕ) (at : ℕ) (l : List ℕ) where
  pub patch_made : (index : ℕ) (z : List ℕ) → get_or patches at 0 ≡ kind → index ≡ double_at patches (at + 1) → z ≡ set l index (get_or patches (at + 5) 0) → z ≡ patched_at kind patches at l
  unfolding patched_at
  patch_made index z e i f = rw (eq-eqb _ _ e) (f ∙ ap (λ (k : ℕ). set l k (get_or patches (at + 5) 0)) i)

  pub patch_left : (get_or patches at 0 ≡ kind → ⊥) → l ≡ patched_at kind patches at l
  unfolding patched_at
  patch_left e = rw (ne_eqb _ _ e)
