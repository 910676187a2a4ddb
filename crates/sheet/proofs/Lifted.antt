-- The rules for code that is lent only a part of the world.
use Prim.Native.Nat.{ℕ, ◌+◌, ◌*◌, ◌≤◌, zero-le}
use mathlib.Core.Path.{◌≡◌}
use mathlib.Core.Bool.{Bool, true, false}
use mathlib.Core.List.{List}
use native.Mathlib.Nat.{add-le-add, le_trans}
use native.Mathlib.Omega.{arith}
use lib.Dec.{ltb, lit≤}
use lib.ListN.{length, set}
use Rattle.sheet.specs.declared.Bus.{Bus}
use Rattle.sheet.specs.declared.Marks.{Marks}
use Rattle.sheet.specs.declared.Progress.{Progress}
use Rattle.sheet.specs.Width.{pick, bytes_of, wrap_of}
use Rattle.sheet.specs.Psw.{Flag, Effect, keeps, flag_of, settled, Crossing, in_mode, to_native}
use Rattle.sheet.specs.Registers.{PSW, File, file_of, written}
use Rattle.sheet.specs.Memory.{physical, next, read_mem, write_mem, bus_cycles, lost, lost_bytes}
use Rattle.sheet.specs.Act.{Act, pure, flags, ◌>>=◌, registers, ◌≔◌, flag, psw, crossing, peek, poke}
use Rattle.sheet.specs.World.{state_of, crossed}
use Rattle.sheet.specs.Handler.{nothing, ◌⊕◌, bus_of, bus_with}
use Rattle.sheet.specs.Contract.{OnFile, OnMemory, OnMarks}
use lib.ListN.{get_or}
use Rattle.sheet.proofs.Rules.{seq, seq_free, seq_last, ends_pure, ends_registers, ends_set, ends_flag, ends_psw, ends_flags, ends_crossing, ends_peek, ends_poke}

-- ---- code that is lent the registers

pub file_pure : {A : Type 0} {a : A} {f : List ℕ} → OnFile A (pure a) f a f
file_pure = record { at = λ s ram rom tape log. ends_pure }

pub file_registers : {f : List ℕ} → OnFile File registers f (file_of f) f
file_registers = record { at = λ s ram rom tape log. ends_registers }

pub file_set : (n v : ℕ) {f : List ℕ} → OnFile Unit (n ≔ v) f tt (written f n v)
file_set n v = record { at = λ s ram rom tape log. ends_set n v }

pub file_flag : (q : Flag) {f : List ℕ} {b : Bool} → b ≡ flag_of (get_or f PSW 0) q → OnFile Bool (flag q) f b f
file_flag q e = record { at = λ s ram rom tape log. rw e (ends_flag q) }

pub file_psw : (b : Bool) {f : List ℕ} → OnFile ℕ (psw b) f (wrap_of b (get_or f PSW 0)) f
file_psw b = record { at = λ s ram rom tape log. ends_psw b }

pub file_flags : (c : Flag → Effect) {f : List ℕ} {x : ℕ} → x ≡ settled keeps c (get_or f PSW 0) → OnFile Unit (flags c (pure tt)) f tt (set f PSW x)
file_flags c e = record { at = λ s ram rom tape log. ends_flags c e }

-- native mode is entered whatever the permission is
pub file_native : {f : List ℕ} {x : ℕ} → x ≡ in_mode true (get_or f PSW 0) → OnFile Unit (crossing to_native) f tt (set f PSW x)
unfolding crossed
file_native e = record { at = λ s ram rom tape log. rw e (ends_crossing to_native) }

-- ---- sequences

module _ {A B : Type 0} {p : Act A} (k : A → Act B) {f g h : List ℕ} {a : A} {b : B} where
  pub file_seq : OnFile A p f a g → OnFile B (k a) g b h → OnFile B (p >>= k) f b h
  file_seq x y = record { at = λ s ram rom tape log. seq_free k (x.at s ram rom tape log) (y.at s ram rom tape log) }

  pub memory_seq : {ram rom ram' ram'' : List ℕ} {n m : Bus} {t u : ℕ} → OnMemory A p f ram rom a g ram' n t → OnMemory B (k a) g ram' rom b h ram'' m u
      → OnMemory B (p >>= k) f ram rom b h ram'' (n ⊕ m) (t + u)
  memory_seq x y = record { most = add-le-add x.most y.most; fair = (let a = x.fair in let b = y.fair in omega arith); at = λ s tape log. seq k (x.at s tape log) (y.at s tape log) }

  -- the same where the first, or the rest, makes no access
  pub memory_free : {ram rom ram' : List ℕ} {m : Bus} {u : ℕ} → OnFile A p f a g → OnMemory B (k a) g ram rom b h ram' m u → OnMemory B (p >>= k) f ram rom b h ram' m u
  memory_free {ram = ram} {rom = rom} x y = record { most = y.most; fair = y.fair; at = λ s tape log. seq_free k (x.at s ram rom tape log) (y.at s tape log) }

  pub memory_last : {ram rom ram' : List ℕ} {n : Bus} {t : ℕ} → OnMemory A p f ram rom a g ram' n t → OnFile B (k a) g b h → OnMemory B (p >>= k) f ram rom b h ram' n t
  memory_last {rom = rom} {ram' = ram'} x y = record { most = x.most; fair = x.fair; at = λ s tape log. seq_last k (x.at s tape log) (y.at s ram' rom tape log) }

-- ---- code that is lent the memory

-- code that is lent the registers alone makes no access
pub on_memory : {A : Type 0} {p : Act A} {f f' : List ℕ} {a : A} (ram rom : List ℕ) (top : ℕ) → OnFile A p f a f' → OnMemory A p f ram rom a f' ram nothing top
on_memory ram rom top h = record { most = omega arith; fair = lit≤ tt; at = λ s tape log. h.at s ram rom tape log }

-- a larger bound will do
pub memory_at_most : {A : Type 0} {p : Act A} {f ram rom f' ram' : List ℕ} {a : A} {n : Bus} {t : ℕ} (u : ℕ) → t ≤ u → OnMemory A p f ram rom a f' ram' n t → OnMemory A p f ram rom a f' ram' n u
memory_at_most u q h = record { most = (let m = h.most in omega arith); fair = h.fair; at = h.at }

bus_most : (b : Bool) (o : ℕ) → bus_cycles b o ≤ 2
unfolding bus_cycles
bus_most true o = omega arith
bus_most false o = lit≤ tt

lost_one : (ram : List ℕ) (a : ℕ) → lost ram a ≤ 1
unfolding lost
lost_one ram a = go (ltb a (length ram))
  where
    go : (b : Bool) → pick b 0 1 ≤ 1
    go true = lit≤ tt
    go false = lit≤ tt

-- a write drops no more bytes than it has
pub lost_bytes_lem : (b : Bool) (ram : List ℕ) (g o : ℕ) → lost_bytes b ram g o ≤ bytes_of b
unfolding lost_bytes
lost_bytes_lem true ram g o = let x = lost_one ram (physical g o) in let y = lost_one ram (physical g (next o)) in omega arith
lost_bytes_lem false ram g o = lost_one ram (physical g o)

-- two bytes a cycle: a word at an even address
pub bytes_fair : (b : Bool) (o : ℕ) → bytes_of b ≤ 2 * bus_cycles b o
unfolding bus_cycles
bytes_fair true o = omega arith
bytes_fair false o = lit≤ tt

pub lost_fair : (b : Bool) (ram : List ℕ) (g o : ℕ) → lost_bytes b ram g o ≤ 2 * bus_cycles b o
lost_fair b ram g o = le_trans (lost_bytes_lem b ram g o) (bytes_fair b o)

-- one access
pub memory_peek : (b : Bool) (g o v : ℕ) (n : Bus) (f ram rom : List ℕ) → v ≡ read_mem b ram rom g o → n ≡ bus_of b o → OnMemory ℕ (peek b g o) f ram rom v f ram n 2
memory_peek b g o v n f ram rom e q = record { most = rw q (bus_most b o); fair = rw q zero-le; at = λ s tape log. ends_peek b g o v n e q }

pub memory_poke : (b : Bool) (g o v : ℕ) (n : Bus) (f ram rom ram' : List ℕ) → ram' ≡ write_mem b ram g o v → n ≡ bus_with b o (lost_bytes b ram g o) → OnMemory Unit (poke b g o v) f ram rom tt f ram' n 2
memory_poke b g o v n f ram rom ram' e q = record { most = rw q (bus_most b o); fair = rw q (lost_fair b ram g o); at = λ s tape log. ends_poke b g o v n ram' e q }

-- ---- code that is lent the marks

-- the marks stay where they are not lent
pub on_marks : {A : Type 0} {p : Act A} {f ram rom f' ram' : List ℕ} {a : A} {n : Bus} {top : ℕ} (m : Marks) → OnMemory A p f ram rom a f' ram' n top
    → OnMarks A p f ram rom m a f' ram' m n top
on_marks {f = f} m h = record { most = h.most; fair = h.fair; at = λ q tape log. h.at (state_of f m q) tape log }

pub file_marks : {A : Type 0} {p : Act A} {f f' ram rom : List ℕ} {a : A} {m : Marks} → OnFile A p f a f' → OnMarks A p f ram rom m a f' ram m nothing 0
file_marks {ram = ram} {rom = rom} {m = m} h = on_marks m (on_memory ram rom 0 h)

-- a crossing: the registers and marks that it leaves
pub marks_crossing : (c : Crossing) {f f' ram rom : List ℕ} {m m' : Marks} → ((q : Progress) → crossed c (state_of f m q) ≡ state_of f' m' q)
    → OnMarks Unit (crossing c) f ram rom m tt f' ram m' nothing 0
marks_crossing c e = record { most = lit≤ tt; fair = lit≤ tt; at = λ q tape log. rw (← e q) (ends_crossing c) }

-- code that leaves every mark needs none
pub off_marks : {A : Type 0} {p : Act A} {f ram rom f' ram' : List ℕ} {a : A} {n : Bus} {top : ℕ} → n.cycles ≤ top → n.dropped ≤ 2 * n.cycles
    → ((m : Marks) → OnMarks A p f ram rom m a f' ram' m n top) → OnMemory A p f ram rom a f' ram' n top
off_marks most fair h = record { most = most; fair = fair; at = λ s tape log. (h s.marks).at s.progress tape log }

module _ {A B : Type 0} {p : Act A} (k : A → Act B) {f g h ram rom : List ℕ} {a : A} {b : B} {m m' : Marks} where
  pub marks_seq : {ram' ram'' : List ℕ} {m'' : Marks} {n c : Bus} {t u : ℕ} → OnMarks A p f ram rom m a g ram' m' n t → OnMarks B (k a) g ram' rom m' b h ram'' m'' c u
      → OnMarks B (p >>= k) f ram rom m b h ram'' m'' (n ⊕ c) (t + u)
  marks_seq x y = record { most = add-le-add x.most y.most; fair = (let a = x.fair in let b = y.fair in omega arith); at = λ q tape log. seq k (x.at q tape log) (y.at q tape log) }

  -- the same where the first, or the rest, makes no access
  pub marks_free : {ram' : List ℕ} {m'' : Marks} {n : Bus} {t : ℕ} → OnMarks A p f ram rom m a g ram m' nothing 0 → OnMarks B (k a) g ram rom m' b h ram' m'' n t
      → OnMarks B (p >>= k) f ram rom m b h ram' m'' n t
  marks_free x y = record { most = y.most; fair = y.fair; at = λ q tape log. seq_free k (x.at q tape log) (y.at q tape log) }

  pub marks_last : {ram' : List ℕ} {m'' : Marks} {n : Bus} {t : ℕ} → OnMarks A p f ram rom m a g ram' m' n t → OnMarks B (k a) g ram' rom m' b h ram' m'' nothing 0
      → OnMarks B (p >>= k) f ram rom m b h ram' m'' n t
  marks_last x y = record { most = x.most; fair = x.fair; at = λ q tape log. seq_last k (x.at q tape log) (y.at q tape log) }

-- ---- a choice that is known

module _ {A : Type 0} (p q : Act A) {c : Bool} {f g : List ℕ} {a : A} where
  pub file_true : c ≡ true → OnFile A p f a g → OnFile A (pick c p q) f a g
  file_true e h = rw e h

  pub file_false : c ≡ false → OnFile A q f a g → OnFile A (pick c p q) f a g
  file_false e h = rw e h

  pub memory_true : {ram rom ram' : List ℕ} {n : Bus} {t : ℕ} → c ≡ true → OnMemory A p f ram rom a g ram' n t → OnMemory A (pick c p q) f ram rom a g ram' n t
  memory_true e h = rw e h

  pub memory_false : {ram rom ram' : List ℕ} {n : Bus} {t : ℕ} → c ≡ false → OnMemory A q f ram rom a g ram' n t → OnMemory A (pick c p q) f ram rom a g ram' n t
  memory_false e h = rw e h

-- ---- an instruction that is known to be another

module _ {I A : Type 0} (tree : I → Act A) {i j : I} {f g : List ℕ} {a : A} where
  pub file_known : i ≡ j → OnFile A (tree j) f a g → OnFile A (tree i) f a g
  file_known e h = rw e h

  pub memory_known : {ram rom ram' : List ℕ} {n : Bus} {t u : ℕ} → i ≡ j → t ≤ u → OnMemory A (tree j) f ram rom a g ram' n t → OnMemory A (tree i) f ram rom a g ram' n u
  memory_known {u = u} e q h = memory_at_most u q (rw e h)
