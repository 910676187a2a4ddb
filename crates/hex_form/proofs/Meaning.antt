-- What the definition comes to: one result only, a refusal changes nothing, bytes that no line names keep their value, and stores
-- at other addresses may stand in any order. Assumes nothing.
use Prim.Native.Nat.{ℕ, ◌+◌, ◌-◌, ◌≤◌, ◌<◌}
use mathlib.Core.Path.{◌≡◌, refl, sym, ap, ◌∙◌}
use mathlib.Core.Bool.{Bool, true, false, ◌&&◌, and-eq-true_iff}
use mathlib.Core.Logic.{◌⊎◌, inl, inr}
use mathlib.Core.List.{List, [], ◌∷◌, ◌++◌}
use native.Mathlib.Nat.{lt_irrefl}
use native.Mathlib.Omega.{arith}
use lib.ListN.{length, get_or, set, length-set}
use lib.Seq.{get_or-set_other, set_comm}
use lib.Dec.{leb, ltb, eqb}
use borrow.Author.Tests.{leb-true, ne_eqb}
use Rattle.sheet.specs.Width.{pick}
use Rattle.base_laws.specs.Writes.{Writes}
use Rattle.hex_form.specs.Reading.{inside, verdict, Store, store, stores_of, stored, applied, Reads}
use Rattle.hex_form.specs.Writing.{hex_text, WritesHex}
use Rattle.hex_form.proofs.Stores.{applied_append}

-- ---- one result

pub read_once : {text image image' image'' : List ℕ} {base n l n' l' : ℕ} → Reads text base image n l image' → Reads text base image n' l' image''
    → (n ≡ n') × (l ≡ l') × (image' ≡ image'')
read_once {n = n} {l = l} {n' = n'} {l' = l'} r s =
    let v : verdict n l ≡ verdict n' l' = sym r.says ∙ s.says in
    let e : n ≡ n' = cc in
    let f : l ≡ l' = cc in
    (e, f, (rw e at r.left) ∙ sym s.left)

pub refused_unchanged : {text image image' : List ℕ} {base n l : ℕ} → Reads text base image n l image' → (n ≡ 0 → ⊥) → image' ≡ image
refused_unchanged {n = n} r f = rw (ne_eqb n 0 f) at r.left

-- ---- bytes that no line names

-- no store of a list is at this address
pub data Spared (a : ℕ) : List Store → Type 0 where
  none : Spared a []
  more : {b v : ℕ} {l : List Store} → (b ≡ a → ⊥) → Spared a l → Spared a (store b v ∷ l)

inside_low : (base n a : ℕ) → inside base n a ≡ true → base ≤ a
unfolding inside
inside_low base n a e = leb-true base a ((and-eq-true_iff (leb base a) (ltb a (base + n) && ltb a 1048576)).0 e).0

other_kept : (base i b v : ℕ) (image : List ℕ) → (b ≡ base + i → ⊥) → get_or (stored base (store b v) image) i 0 ≡ get_or image i 0
unfolding stored
other_kept base i b v image n = go (inside base (length image) b) refl
  where
    go : (t : Bool) → inside base (length image) b ≡ t → get_or (pick t (set image (b - base) v) image) i 0 ≡ get_or image i 0
    go true e = let p = inside_low base (length image) b e in get_or-set_other image (b - base) i v 0 (λ z. n (omega arith))
    go false e = refl

pub spared_kept : (base i : ℕ) {l : List Store} (image : List ℕ) → Spared (base + i) l → get_or (applied base l image) i 0 ≡ get_or image i 0
unfolding applied
spared_kept base i image none = refl
spared_kept base i image (more {b = b} {v = v} n s) = spared_kept base i (stored base (store b v) image) s ∙ other_kept base i b v image n

-- whatever a reader leaves that keeps its promise
pub unnamed_kept : {text image image' : List ℕ} {base n l : ℕ} (i : ℕ) → Reads text base image n l image' → Spared (base + i) (stores_of text) → get_or image' i 0 ≡ get_or image i 0
unnamed_kept {text} {image} {image'} {base} {n} i r s = go (eqb n 0) r.left
  where
    go : (t : Bool) → image' ≡ pick t (applied base (stores_of text) image) image → get_or image' i 0 ≡ get_or image i 0
    go true e = ap (λ (x : List ℕ). get_or x i 0) e ∙ spared_kept base i image s
    go false e = ap (λ (x : List ℕ). get_or x i 0) e

-- ---- any order

-- no address of one list is in the other
pub data Apart : List Store → List Store → Type 0 where
  none : {y : List Store} → Apart [] y
  more : {a v : ℕ} {x y : List Store} → Spared a y → Apart x y → Apart (store a v ∷ x) y

stored_comm : (base a v b w : ℕ) (image : List ℕ) → (b ≡ a → ⊥) → stored base (store b w) (stored base (store a v) image) ≡ stored base (store a v) (stored base (store b w) image)
unfolding stored
stored_comm base a v b w image n = go (inside base (length image) a) (inside base (length image) b) refl refl
  where
    go : (s t : Bool) → inside base (length image) a ≡ s → inside base (length image) b ≡ t
        → stored base (store b w) (pick s (set image (a - base) v) image) ≡ stored base (store a v) (pick t (set image (b - base) w) image)
    go true true e f =
        let p = inside_low base (length image) a e in
        let q = inside_low base (length image) b f in
        rw (length-set image (a - base) v, length-set image (b - base) w, e, f) (set_comm image (a - base) (b - base) v w (λ z. n (omega arith)))
    go true false e f = rw (length-set image (a - base) v, e, f)
    go false true e f = rw (length-set image (b - base) w, e, f)
    go false false e f = rw (e, f)

passed : (base a v : ℕ) {l : List Store} (image : List ℕ) → Spared a l → applied base l (stored base (store a v) image) ≡ stored base (store a v) (applied base l image)
unfolding applied
passed base a v image none = refl
passed base a v image (more {b = b} {v = w} {l = l} n s) =
    ap (λ (x : List ℕ). applied base l x) (stored_comm base a v b w image n) ∙ passed base a v (stored base (store b w) image) s

pub any_order : (base : ℕ) {x y : List Store} (image : List ℕ) → Apart x y → applied base (x ++ y) image ≡ applied base (y ++ x) image
unfolding applied
any_order base {y = y} image none = sym (applied_append base y [] image)
any_order base image (more {a = a} {v = v} {x = x} {y = y} s d) =
    any_order base (stored base (store a v) image) d
    ∙ (applied_append base y x (stored base (store a v) image)
    ∙ (ap (λ (z : List ℕ). applied base x z) (passed base a v image s) ∙ sym (applied_append base y (store a v ∷ x) image)))

-- ---- a writing has one result

pub write_once : {image out o o' : List ℕ} {base n n' len len' : ℕ} → WritesHex image base out n len o → WritesHex image base out n' len' o' → (n ≡ n') × (len ≡ len') × (o ≡ o')
write_once {image} {out} {o} {o'} {base} {n} {n'} {len} {len'} r s = go r.numbers s.numbers
  where
    alike : n ≡ n' → (n ≡ 0 → ⊥) → (n ≡ n') × (len ≡ len') × (o ≡ o')
    alike e z =
        let a = r.untouched z in
        let b = s.untouched (λ y. z (e ∙ y)) in
        (e, a.0 ∙ sym b.0, a.1 ∙ sym b.1)

    never : {A : Type 0} → base + length image ≤ 1048576 → 1048576 < base + length image → A
    never p q = absurd (lt_irrefl 1048576 (omega arith))

    full : {A : Type 0} {k : ℕ} {x : List ℕ} → Writes (hex_text base image) out k x → length out < length (hex_text base image) → A
    full w q = absurd (lt_irrefl (length out) (omega (arith, w.count, w.within)))

    go : (n ≡ 0) ⊎ ((n ≡ 12) ⊎ (n ≡ 6)) → (n' ≡ 0) ⊎ ((n' ≡ 12) ⊎ (n' ≡ 6)) → (n ≡ n') × (len ≡ len') × (o ≡ o')
    go (inl a) (inl b) =
        let v = (r.wrote a).1 in
        let w = (s.wrote b).1 in
        (a ∙ sym b, v.count ∙ sym w.count, v.left ∙ sym w.left)
    go (inl a) (inr (inl b)) = never (r.wrote a).0 (s.past b)
    go (inl a) (inr (inr b)) = full (r.wrote a).1 (s.no_room b).1
    go (inr (inl a)) (inl b) = never (s.wrote b).0 (r.past a)
    go (inr (inl a)) (inr (inl b)) = alike (a ∙ sym b) (λ z. let f : ◌≡◌ {A = ℕ} 12 0 = sym a ∙ z in omega arith)
    go (inr (inl a)) (inr (inr b)) = never (s.no_room b).0 (r.past a)
    go (inr (inr a)) (inl b) = full (s.wrote b).1 (r.no_room a).1
    go (inr (inr a)) (inr (inl b)) = never (r.no_room a).0 (s.past b)
    go (inr (inr a)) (inr (inr b)) = alike (a ∙ sym b) (λ z. let f : ◌≡◌ {A = ℕ} 6 0 = sym a ∙ z in omega arith)
