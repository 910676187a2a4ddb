-- The laws of `Writes`: nothing, one byte more, and a part lent for more bytes. Assumes nothing.
use mathlib.Core.Path.{◌≡◌, refl, sym, ap, ◌∙◌}
use mathlib.Core.List.{List, [], ◌∷◌, ◌++◌, append_assoc}
use Prim.Native.Nat.{ℕ, suc, ◌+◌, ◌-◌, ◌≤◌, ◌<◌}
use native.Mathlib.Numerals.{add-one}
use native.Mathlib.Omega.{arith}
use lib.ListN.{length, get_or, take, drop, set, length-append, length-drop}
use lib.Seq.{drop-cons, set_at}
use borrow.Rule.Slice.PartMut.{put_mid}
use Rattle.base_laws.specs.Writes.{Writes}
use Rattle.base_laws.proofs.Parts.{rest, length_over, over_more}

-- the room for x and y is room for x
pub front : (x y : List ℕ) {n : ℕ} → length (x ++ y) ≤ n → length x ≤ n
front x y h = omega (arith, length-append x y)

pub none : (s : List ℕ) → Writes [] s 0 s
none s = record { count = refl; within = omega arith; left = refl }

module _ {x s l : List ℕ} {r : ℕ} (w : Writes x s r l) where
  pub same : length l ≡ length s
  same = ap length w.left ∙ length_over x s (omega (arith, w.count, w.within))

  -- what is left of the room
  pub room : (y : List ℕ) → length (x ++ y) ≤ length s → length y ≤ length (take (length l - r) (drop r l))
  room y h = rw (rest r l, length-drop r l, same) (omega (arith, w.count, length-append x y))

  -- the byte behind x lies in the part
  pub slot : (b : ℕ) → length (x ++ (b ∷ [])) ≤ length s → r < length l
  slot b h = omega (arith, same, w.count, length-append x (b ∷ []))

  -- one byte more is stored
  pub byte : (b : ℕ) → length (x ++ (b ∷ [])) ≤ length s → Writes (x ++ (b ∷ [])) s (r + 1) (set l r b)
  byte b h =
      let n = length-append x (b ∷ []) in
      let p : length x < length s = omega arith in
      record {
        count = omega (arith, w.count);
        within = omega (arith, w.count);
        left = rw (w.left, w.count, drop-cons s (length x) 0 p, set_at x (get_or s (length x) 0) (drop (suc (length x)) s) b (length x) refl, n, add-one (length x)) (sym (append_assoc x (b ∷ []) (drop (suc (length x)) s)));
      }

  -- y is written to the part behind x, which comes back at z
  pub more : (y z : List ℕ) (k : ℕ) → Writes y (take (length l - r) (drop r l)) k z → Writes (x ++ y) s (r + k) (put_mid r (length l - r) l z)
  more y z k v =
      record {
        count = omega (arith, w.count, v.count, length-append x y);
        within = omega (arith, w.within, v.within, ap length (rest r l), length-drop r l, same);
        left = over_more r x y s l z (sym w.count) w.left v.left;
      }
