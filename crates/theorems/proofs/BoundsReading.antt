-- What bytes can name, by the rules of reading: PREPARE's level and a port's number are at most 255, and a refusal is 3 or 4.
use Prim.Native.Nat.{ℕ, ◌+◌, ◌≤◌}
use mathlib.Core.Bool.{Bool, ◌&&◌}
use mathlib.Core.List.{List, [], ◌∷◌, ◌++◌}
use native.Mathlib.Omega.{arith}
use lib.Dec.{eqb, lit≤}
use Rattle.sheet.specs.declared.Address.{Address}
use Rattle.sheet.specs.declared.Place.{Place}
use Rattle.sheet.specs.declared.Source.{Source}
use Rattle.sheet.specs.declared.Source.TheVariants.{Immediate}
use Rattle.sheet.specs.declared.Prefixes.{Prefixes}
use Rattle.sheet.specs.declared.Instr.{Instr}
use Rattle.sheet.specs.declared.Port.{Port}
use Rattle.sheet.specs.declared.Port.TheVariants.{InDw, Numbered}
use Rattle.sheet.specs.declared.Io.{Io}
use Rattle.sheet.specs.declared.Io.TheVariants.{In, Out}
use Rattle.sheet.specs.declared.Move.{Move}
use Rattle.sheet.specs.declared.Move.TheVariants.{Transfers, Stacks, Branches, Tests}
use Rattle.sheet.specs.declared.Instr.TheVariants.{Computes, Moves, Multiplies, Interrupts, Blocks, Ports, Controls, Modes, Cards}
use Rattle.sheet.specs.declared.cards.Card.{Card}
use Rattle.sheet.specs.declared.cards.Card.TheVariants as cards
use Rattle.sheet.specs.Width.{pick}
use Rattle.sheet.specs.Reading.{Reading, got, need, no, ◌>>=◌, Read, known, unknown, scan, byte, word, immediate, signed_byte, allow}
use Rattle.sheet.specs.Encoding.{mod_field, mem_field, displacement, with_displacement, with_offset, address, in_memory, place, memory, Row, covers, look_up}
use Rattle.sheet.specs.SecondByte.{plain_place}
use Rattle.sheet.specs.FirstByte.{with_place, with_memory, with_acc, with_byte, with_word, with_short, with_far}
use Rattle.log_record.proofs.Picked.{picked}
use Rattle.theorems.proofs.BoundsFlow.{level_of}

-- Q holds of all that a reading of bytes up to 255 comes to, and its refusals are from 3 up to a top: 4 with prefixes, 3 without
pub data LeafTo (top : ℕ) {A : Type 0} (Q : A → Type 0) : Reading A → Type 0 where
  leaf : {a : A} → Q a → LeafTo top Q (got a)
  then_byte : {k : ℕ → Reading A} → ((b : ℕ) → b ≤ 255 → LeafTo top Q (k b)) → LeafTo top Q (need k)
  stop : {n : ℕ} → 3 ≤ n → n ≤ top → LeafTo top Q (no n)

abbrev pub Leaf : {A : Type 0} → (A → Type 0) → Reading A → Type 0
Leaf Q p = LeafTo 3 Q p

pub data ScannedTo (top : ℕ) {A : Type 0} (Q : A → Type 0) : Read A → Type 0 where
  read : {a : A} {n : ℕ} → Q a → ScannedTo top Q (known a n)
  unread : {r n : ℕ} → 3 ≤ r → r ≤ top → ScannedTo top Q (unknown r n)

pub scanned : {top : ℕ} {A : Type 0} {Q : A → Type 0} (p : Reading A) → LeafTo top Q p → (src : ℕ → ℕ) → ((j : ℕ) → src j ≤ 255) → (i : ℕ) → ScannedTo top Q (scan p src i)
unfolding scan
scanned (got a) (leaf q) src h i = read q
scanned (need k) (then_byte f) src h i = scanned (k (src i)) (f (src i) (h i)) src h (i + 1)
scanned (no n) (stop f g) src h i = unread f g

-- ---- joining

pub bind : {top : ℕ} {A B : Type 0} {P : A → Type 0} {Q : B → Type 0} {p : Reading A} {f : A → Reading B} → LeafTo top P p → ((a : A) → P a → LeafTo top Q (f a))
    → LeafTo top Q (p >>= f)
unfolding ◌>>=◌
bind {p = got a} (leaf q) g = g a q
bind {p = need k} (then_byte h) g = then_byte λ b l. bind (h b l) g
bind {p = no n} (stop x y) g = stop x y

pub either : {A : Type 0} {Q : A → Type 0} {p q : Reading A} (c : Bool) → Leaf Q p → Leaf Q q → Leaf Q (pick c p q)
either {A} {Q} = picked (λ (r : Reading A). Leaf Q r)

-- refusals up to 3 are refusals up to 4
pub also_fourth : {A : Type 0} {Q : A → Type 0} (p : Reading A) → Leaf Q p → LeafTo 4 Q p
also_fourth (got a) (leaf q) = leaf q
also_fourth (need k) (then_byte h) = then_byte λ b l. also_fourth (k b) (h b l)
also_fourth (no n) (stop x y) = let z : n ≤ 4 = omega arith in stop x z

-- nothing is asked of it
abbrev pub Any : {A : Type 0} → A → Type 0
Any a = Unit {0}

pub some_leaf : {A : Type 0} {a : A} → Leaf Any (got a)
some_leaf = leaf tt

pub unknown_code : {A : Type 0} {Q : A → Type 0} → Leaf Q (no 3)
unknown_code = stop (lit≤ tt) (lit≤ tt)

-- ---- numbers and places

pub of_byte : {top : ℕ} → LeafTo top (λ b. b ≤ 255) byte
of_byte = then_byte λ b h. leaf h

pub of_word : Leaf Any word
unfolding word
of_word = bind of_byte λ low _. bind of_byte λ high _. some_leaf

pub any_byte : Leaf Any byte
any_byte = then_byte λ b h. some_leaf

pub of_immediate : (w : Bool) → Leaf Any (immediate w)
unfolding immediate
of_immediate w = either w of_word any_byte

pub of_signed_byte : Leaf Any signed_byte
unfolding signed_byte
of_signed_byte = bind of_byte λ b _. some_leaf

pub of_allow : (b : Bool) → Leaf Any (allow b)
unfolding allow
of_allow b = either b some_leaf unknown_code

pub of_displacement : (mode : ℕ) → Leaf Any (displacement mode)
unfolding displacement
of_displacement mode = either (eqb mode 0) some_leaf (either (eqb mode 1) of_signed_byte of_word)

pub of_address : (p : Prefixes) (mode mem : ℕ) → Leaf Any (address p mode mem)
unfolding address with_offset with_displacement
of_address p mode mem = either (eqb mode 0 && eqb mem 6) (bind of_word λ o _. some_leaf) (bind (of_displacement mode) λ d _. some_leaf)

pub of_place : (p : Prefixes) (m : ℕ) → Leaf Any (place p m)
unfolding place in_memory
of_place p m = either (eqb (mod_field m) 3) some_leaf (bind (of_address p (mod_field m) (mem_field m)) λ a _. some_leaf)

pub of_memory : (p : Prefixes) (m : ℕ) → Leaf Any (memory p m)
unfolding memory
of_memory p m = bind (of_allow _) λ _ _. of_address p (mod_field m) (mem_field m)

pub of_plain_place : (p : Prefixes) → Leaf Any (plain_place p)
unfolding plain_place
of_plain_place p = bind of_byte λ m _. bind (of_allow _) λ _ _. of_place p m

-- ---- instructions

-- PREPARE's level; others have none
abbrev pub level_among : Move → ℕ
level_among (Transfers i) = 0
level_among (Stacks i) = level_of i
level_among (Branches i) = 0
level_among (Tests i) = 0

-- a port's number, where the instruction gives it
abbrev number_in : Port → ℕ
number_in InDw = 0
number_in (Numbered n) = n

abbrev pub port_in : Io → ℕ
port_in (In w port) = number_in port
port_in (Out w port) = number_in port

abbrev port_in_card : Card → ℕ
port_in_card (cards.Transfers i) = 0
port_in_card (cards.Ports i) = port_in i
port_in_card (cards.Controls i) = 0
port_in_card (cards.Points i) = 0
port_in_card (cards.Calculates i) = 0
port_in_card (cards.Branches i) = 0
port_in_card (cards.Stacks i) = 0
port_in_card (cards.Modes i) = 0

-- the level or the port; others have none
abbrev pub byte_in : Instr → ℕ
byte_in (Computes i) = 0
byte_in (Moves i) = level_among i
byte_in (Multiplies i) = 0
byte_in (Interrupts i) = 0
byte_in (Blocks k w seg q) = 0
byte_in (Ports i) = port_in i
byte_in (Controls i) = 0
byte_in (Modes i) = 0
byte_in (Cards i) = port_in_card i

abbrev pub Fine : Instr → Type 0
Fine i = byte_in i ≤ 255

-- an instruction with neither
pub ok : 0 ≤ 255
ok = lit≤ tt

-- what is read goes into an instruction
pub into : {A : Type 0} {P : A → Type 0} {p : Reading A} (k : A → Instr) → Leaf P p → ((a : A) → Fine (k a)) → Leaf Fine (p >>= λ a. got (k a))
into k x h = bind x λ a _. leaf (h a)

pub of_with_place : (p : Prefixes) (k : ℕ → Place → Reading Instr) → ((reg : ℕ) (a : Place) → Leaf Fine (k reg a)) → Leaf Fine (with_place p k)
unfolding with_place
of_with_place p k h = bind of_byte λ m _. bind (of_place p m) λ a _. h _ a

pub of_with_memory : (p : Prefixes) (k : ℕ → Address → Instr) → ((reg : ℕ) (a : Address) → Fine (k reg a)) → Leaf Fine (with_memory p k)
unfolding with_memory
of_with_memory p k h = bind of_byte λ m _. into _ (of_memory p m) λ a. h _ a

pub of_with_acc : (k : Source → Instr) (w : Bool) → ((v : Source) → Fine (k v)) → Leaf Fine (with_acc k w)
unfolding with_acc
of_with_acc k w h = into _ (of_immediate w) λ v. h (Immediate v)

pub of_with_byte : (k : ℕ → Instr) → ((v : ℕ) → v ≤ 255 → Fine (k v)) → Leaf Fine (with_byte k)
unfolding with_byte
of_with_byte k h = bind of_byte λ v l. leaf (h v l)

pub of_with_word : (k : ℕ → Instr) → ((v : ℕ) → Fine (k v)) → Leaf Fine (with_word k)
unfolding with_word
of_with_word k h = into k of_word h

pub of_with_short : (k : ℕ → Instr) → ((v : ℕ) → Fine (k v)) → Leaf Fine (with_short k)
unfolding with_short
of_with_short k h = into k of_signed_byte h

pub of_with_far : (k : ℕ → ℕ → Instr) → ((ps pc : ℕ) → Fine (k ps pc)) → Leaf Fine (with_far k)
unfolding with_far
of_with_far k h = bind of_word λ pc _. into _ of_word λ ps. h ps pc

-- ---- tables

-- every row of a table reads such instructions alone
pub data Rows : List Row → Type 0 where
  none_more : Rows []
  ◌also◌ : {r : Row} {t : List Row} → ((n : ℕ) → Leaf Fine (r.reads n)) → Rows t → Rows (r ∷ t)

infixr 30 ◌also◌
pub of_look_up : (t : List Row) → Rows t → (b : ℕ) → Leaf Fine (look_up t b)
unfolding look_up
of_look_up [] none_more b = unknown_code
of_look_up (r ∷ t) (x also y) b = either (covers r b) (x b) (of_look_up t y b)

pub both : {s t : List Row} → Rows s → Rows t → Rows (s ++ t)
both none_more y = y
both (h also x) y = h also both x y
