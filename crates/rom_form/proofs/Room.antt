-- How many bytes readings take at most.
use Prim.Native.Nat.{ℕ, zero, suc, ◌+◌, ◌-◌, ◌≤◌, zero-le}
use mathlib.Core.Bool.{Bool, true, false, ◌&&◌}
use mathlib.Core.List.{List, [], ◌∷◌, ◌++◌}
use native.Mathlib.Omega.{arith}
use native.Mathlib.Nat.{le_refl, le_trans, le-suc, le_of_suc-le-suc}
use lib.Dec.{eqb}
use Rattle.sheet.specs.declared.Address.{Address}
use Rattle.sheet.specs.declared.Place.{Place}
use Rattle.sheet.specs.declared.Source.{Source}
use Rattle.sheet.specs.declared.Prefixes.{Prefixes}
use Rattle.sheet.specs.declared.Instr.{Instr}
use Rattle.sheet.specs.Width.{pick}
use Rattle.sheet.specs.Reading.{Reading, got, need, no, ◌>>=◌, scan, length_of, byte, word, immediate, signed_byte, allow}
use Rattle.sheet.specs.Encoding.{mod_field, mem_field, displacement, with_displacement, with_offset, address, in_memory, place, memory, Row, covers, look_up}
use Rattle.sheet.specs.SecondByte.{plain_place}
use Rattle.sheet.specs.FirstByte.{with_place, with_memory, with_acc, with_byte, with_word, with_short, with_far}

-- a reading that, with room for so many bytes before it, leaves room for so many after it
pub data Room {A : Type 0} : (before after : ℕ) → Reading A → Type 0 where
  done : {m n : ℕ} {a : A} → n ≤ m → Room m n (got a)
  then_byte : {m n : ℕ} {k : ℕ → Reading A} → ((b : ℕ) → Room m n (k b)) → Room (suc m) n (need k)
  stop : {m n r : ℕ} → Room m n (no r)

pub scan_room : {A : Type 0} {m n : ℕ} {p : Reading A} → Room m n p → (src : ℕ → ℕ) (i : ℕ) → length_of (scan p src i) ≤ i + m
unfolding scan
scan_room (done h) src i = omega arith
scan_room (then_byte f) src i = let h = scan_room (f (src i)) src (i + 1) in omega arith
scan_room stop src i = omega arith

-- ---- joining

wider : {A : Type 0} {l m n : ℕ} {p : Reading A} → m ≤ l → Room m n p → Room l n p
wider h (done g) = done (le_trans g h)
wider {l = zero} h (then_byte f) = absurd (omega arith)
wider {l = suc l} h (then_byte f) = then_byte λ b. wider (le_of_suc-le-suc h) (f b)
wider h stop = stop

pub bind : {A B : Type 0} {l m n : ℕ} {p : Reading A} {f : A → Reading B} → Room l m p → ((a : A) → Room m n (f a)) → Room l n (p >>= f)
unfolding ◌>>=◌
bind {p = got a} (done h) g = wider h (g a)
bind {p = need k} (then_byte f) g = then_byte λ b. bind (f b) g
bind {p = no r} stop g = stop

pub either : {A : Type 0} {m n : ℕ} {p q : Reading A} (c : Bool) → Room m n p → Room m n q → Room m n (pick c p q)
either true x y = x
either false x y = y

-- more room than is needed
pub spare : {A : Type 0} {m n : ℕ} {p : Reading A} → Room m n p → Room (suc m) n p
spare {m = m} x = wider (le-suc m) x

-- nothing is taken
pub nothing : {A : Type 0} {n : ℕ} {a : A} → Room n n (got a)
nothing {n = n} = done (le_refl n)

-- ---- numbers and places

pub of_byte : {n : ℕ} → Room (suc n) n byte
of_byte = then_byte λ b. nothing

pub of_word : {n : ℕ} → Room (suc (suc n)) n word
unfolding word
of_word = bind of_byte λ low. bind of_byte λ high. nothing

pub of_immediate : {n : ℕ} (w : Bool) → Room (suc (suc n)) n (immediate w)
unfolding immediate
of_immediate w = either w of_word (spare of_byte)

pub of_signed_byte : {n : ℕ} → Room (suc n) n signed_byte
unfolding signed_byte
of_signed_byte = bind of_byte λ b. nothing

pub of_allow : {n : ℕ} (b : Bool) → Room n n (allow b)
unfolding allow
of_allow b = either b nothing stop

of_displacement : {n : ℕ} (mode : ℕ) → Room (suc (suc n)) n (displacement mode)
unfolding displacement
of_displacement mode = either (eqb mode 0) (spare (spare nothing)) (either (eqb mode 1) (spare of_signed_byte) of_word)

of_address : {n : ℕ} (p : Prefixes) (mode mem : ℕ) → Room (suc (suc n)) n (address p mode mem)
unfolding address with_offset with_displacement
of_address p mode mem = either (eqb mode 0 && eqb mem 6) (bind of_word λ o. nothing) (bind (of_displacement mode) λ d. nothing)

pub of_place : {n : ℕ} (p : Prefixes) (m : ℕ) → Room (suc (suc n)) n (place p m)
unfolding place in_memory
of_place p m = either (eqb (mod_field m) 3) (spare (spare nothing)) (bind (of_address p (mod_field m) (mem_field m)) λ a. nothing)

pub of_memory : {n : ℕ} (p : Prefixes) (m : ℕ) → Room (suc (suc n)) n (memory p m)
unfolding memory
of_memory p m = bind (of_allow _) λ _. of_address p (mod_field m) (mem_field m)

pub of_plain_place : {n : ℕ} (p : Prefixes) → Room (suc (suc (suc n))) n (plain_place p)
unfolding plain_place
of_plain_place p = bind of_byte λ m. bind (of_allow _) λ _. of_place p m

-- ---- instructions, after which no room is asked for

abbrev pub Short : ℕ → Reading Instr → Type 0
Short n p = Room n 0 p

pub ready : {n : ℕ} {i : Instr} → Short n (got i)
ready = done zero-le

-- what is read goes into an instruction
pub into : {A : Type 0} {m n : ℕ} {p : Reading A} (k : A → Instr) → Room m n p → Short m (p >>= λ a. got (k a))
into k x = bind x λ a. ready

pub of_with_place : {n : ℕ} (p : Prefixes) (k : ℕ → Place → Reading Instr) → ((reg : ℕ) (a : Place) → Short n (k reg a)) → Short (suc (suc (suc n))) (with_place p k)
unfolding with_place
of_with_place p k h = bind of_byte λ m. bind (of_place p m) λ a. h _ a

pub of_with_memory : {n : ℕ} (p : Prefixes) (k : ℕ → Address → Instr) → Short (suc (suc (suc n))) (with_memory p k)
unfolding with_memory
of_with_memory {n} p k = bind of_byte λ m. into {n = n} _ (of_memory p m)

pub of_with_acc : {n : ℕ} (k : Source → Instr) (w : Bool) → Short (suc (suc n)) (with_acc k w)
unfolding with_acc
of_with_acc {n} k w = into {n = n} _ (of_immediate w)

pub of_with_byte : {n : ℕ} (k : ℕ → Instr) → Short (suc n) (with_byte k)
unfolding with_byte
of_with_byte k = into k of_byte

pub of_with_word : {n : ℕ} (k : ℕ → Instr) → Short (suc (suc n)) (with_word k)
unfolding with_word
of_with_word k = into k of_word

pub of_with_short : {n : ℕ} (k : ℕ → Instr) → Short (suc n) (with_short k)
unfolding with_short
of_with_short k = into k of_signed_byte

pub of_with_far : {n : ℕ} (k : ℕ → ℕ → Instr) → Short (suc (suc (suc (suc n)))) (with_far k)
unfolding with_far
of_with_far k = bind of_word λ pc. into _ of_word

-- ---- tables

-- every row of a table takes at most so many bytes
pub data Rows (n : ℕ) : List Row → Type 0 where
  none_more : Rows n []
  ◌also◌ : {r : Row} {t : List Row} → ((k : ℕ) → Short n (r.reads k)) → Rows n t → Rows n (r ∷ t)

infixr 30 ◌also◌
pub of_look_up : {n : ℕ} (t : List Row) → Rows n t → (b : ℕ) → Short n (look_up t b)
unfolding look_up
of_look_up [] none_more b = stop
of_look_up (r ∷ t) (x also y) b = either (covers r b) (x b) (of_look_up t y b)

pub both : {n : ℕ} {s t : List Row} → Rows n s → Rows n t → Rows n (s ++ t)
both none_more y = y
both (h also x) y = h also both x y
