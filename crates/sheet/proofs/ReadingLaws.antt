-- How a reading goes on, and that it rests only on the bytes that it read.
use Prim.Native.Nat.{ℕ, ◌+◌, ◌≤◌, ◌<◌}
use mathlib.Core.Path.{◌≡◌, refl, subst, ◌∙◌}
use mathlib.Core.Bool.{Bool, true, false}
use native.Mathlib.Nat.{le_refl}
use native.Mathlib.Omega.{arith}
use Rattle.sheet.specs.Width.{pick}
use Rattle.sheet.specs.Reading.{Reading, got, need, no, ◌>>=◌, Read, known, unknown, scan, length_of, byte, allow}
use Rattle.sheet.specs.Contract.{Reads, Refuses}

module _ {A : Type 0} where
  -- what is read comes after what was
  pub scan_more : (p : Reading A) (src : ℕ → ℕ) (i : ℕ) → i ≤ length_of (scan p src i)
  unfolding scan
  scan_more (got a) src i = le_refl i
  scan_more (need k) src i = let h = scan_more (k (src i)) src (i + 1) in omega arith
  scan_more (no n) src i = le_refl i

  -- sources that agree on those bytes give one reading: the law of a kept reading
  pub scan_rests : (p : Reading A) (src src' : ℕ → ℕ) (i : ℕ) → ((j : ℕ) → i ≤ j → j < length_of (scan p src i) → src j ≡ src' j) → scan p src i ≡ scan p src' i
  unfolding scan
  scan_rests (got a) src src' i e = refl
  scan_rests (need k) src src' i e =
      let more = scan_more (k (src i)) src (i + 1) in
      subst (λ (b : ℕ). scan (k (src i)) src (i + 1) ≡ scan (k b) src' (i + 1)) (e i (le_refl i) (omega arith))
      (scan_rests (k (src i)) src src' (i + 1) (λ j h l. e j (omega arith) l))
  scan_rests (no n) src src' i e = refl

-- ---- one reading after another

abbrev pub then_read : {A B : Type 0} → Read A → (A → ℕ → Read B) → Read B
then_read (known a i) f = f a i
then_read (unknown n i) f = unknown n i

pub scan_bind : {A B : Type 0} (p : Reading A) (f : A → Reading B) (src : ℕ → ℕ) (i : ℕ) → scan (p >>= f) src i ≡ then_read (scan p src i) (λ a j. scan (f a) src j)
unfolding scan ◌>>=◌
scan_bind (got a) f src i = refl
scan_bind (need k) f src i = scan_bind (k (src i)) f src (i + 1)
scan_bind (no n) f src i = refl

module _ {A B : Type 0} {p : Reading A} (f : A → Reading B) {src : ℕ → ℕ} {i : ℕ} where
  pub reads_seq : {j k : ℕ} {a : A} {b : B} → Reads A p src i a j → Reads B (f a) src j b k → Reads B (p >>= f) src i b k
  reads_seq x y = record { is = scan_bind p f src i ∙ rw (x.is, y.is) }

  pub refuses_seq : {n : ℕ} → Refuses A p src i n → Refuses B (p >>= f) src i n
  refuses_seq x = record { at = x.at; is = scan_bind p f src i ∙ rw x.is }

  pub reads_then_refuses : {j n : ℕ} {a : A} → Reads A p src i a j → Refuses B (f a) src j n → Refuses B (p >>= f) src i n
  reads_then_refuses x y = record { at = y.at; is = scan_bind p f src i ∙ rw (x.is, y.is) }

pub reads_got : {A : Type 0} {a : A} {src : ℕ → ℕ} {i : ℕ} → Reads A (got a) src i a i
unfolding scan
reads_got = record { is = refl }

pub refuses_no : {A : Type 0} {n : ℕ} {src : ℕ → ℕ} {i : ℕ} → Refuses A (no n) src i n
unfolding scan
refuses_no {i = i} = record { at = i; is = refl }

pub reads_byte : {b : ℕ} {src : ℕ → ℕ} {i : ℕ} → b ≡ src i → Reads ℕ byte src i b (i + 1)
unfolding scan
reads_byte e = record { is = rw e }

-- a choice that is known
module _ {A : Type 0} (p q : Reading A) {c : Bool} {src : ℕ → ℕ} {i : ℕ} where
  pub read_true : {a : A} {j : ℕ} → c ≡ true → Reads A p src i a j → Reads A (pick c p q) src i a j
  read_true e h = rw e h

  pub read_false : {a : A} {j : ℕ} → c ≡ false → Reads A q src i a j → Reads A (pick c p q) src i a j
  read_false e h = rw e h

-- a test that is known
pub reads_allowed : {b : Bool} {src : ℕ → ℕ} {i : ℕ} → b ≡ true → Reads Unit (allow b) src i tt i
unfolding allow scan
reads_allowed e = record { is = rw e }

pub refuses_allowed : {b : Bool} {src : ℕ → ℕ} {i : ℕ} → b ≡ false → Refuses Unit (allow b) src i 3
unfolding allow scan
refuses_allowed {i = i} e = record { at = i; is = rw e }
