-- A bound on the bus cycles of a tree from any world, or on the bytes that it drops, with the refusals that it may come to, and whether it may use a port or enter the 8080 mode: one rule for each node and each way of joining trees.
use Prim.Native.Nat.{ℕ, zero, suc, ◌+◌, ◌*◌, ◌%◌, ◌≤◌}
use mathlib.Core.Path.{◌≡◌, refl, sym}
use mathlib.Core.Bool.{Bool, true, false, true≢false}
use mathlib.Core.List.{List, [], ◌∷◌}
use native.Mathlib.Nat.{le_refl, le_of_eq, le_trans, add-le-add, zero-mul, suc-mul, add_comm}
use native.Mathlib.Omega.{arith}
use lib.ListN.{length}
use lib.Dec.{leb, lit≤}
use Rattle.sheet.specs.declared.Bus.{Bus}
use Rattle.sheet.specs.Width.{pick, bytes_of}
use Rattle.sheet.specs.Psw.{Flag, Effect, Crossing}
use Rattle.sheet.specs.Registers.{File, file_of}
use Rattle.sheet.specs.Memory.{bus_cycles}
use Rattle.sheet.specs.World.{World}
use Rattle.sheet.specs.Act.{Act, pure, get, flags, ◌>>=◌, registers, ◌≔◌, flag, psw, peek, poke, inp, out, halted, crossing, loop}
use Rattle.sheet.specs.Handler.{Event, Access, short, through, recording, inputs, outputs, ported, done, then, takes, gives, nothing, ◌⊕◌, run, run_by, tally}
use Rattle.sheet.specs.Contract.{Seen, stops, ends, seen, exec, Ends}
use Rattle.sheet.proofs.Rules.{plus, and_then, exec_bind, ends_pure, ends_registers, ends_set, ends_flag, ends_psw, ends_flags, ends_halted, ends_crossing}
use Rattle.log_record.proofs.Picked.{picked}
use Rattle.theorems.proofs.Quiet.{Quiet, q_pure, q_get, q_put, q_ask, q_copy, q_flags, q_load, q_store, q_halt, q_cross, quiet_seq}
use Rattle.theorems.proofs.Tame.{enters, Tame, t_pure, t_get, t_put, t_ask, t_copy, t_flags, t_load, t_store, t_input, t_output, t_halt, t_cross, tame_seq}

-- a number that adds up over accesses
pub record Measure : Type 0 where
  pub of : Bus → ℕ
  pub none : of nothing ≡ 0
  pub adds : (a b : Bus) → of (a ⊕ b) ≡ of a + of b

abbrev pub cycles : Measure
cycles = record { of = λ b. b.cycles; none = refl; adds = λ a b. refl }

abbrev pub dropped : Measure
dropped = record { of = λ b. b.dropped; none = refl; adds = λ a b. refl }

-- an end with a measure of at most n, or one of the refusals that a port access gives, 5 and 6
pub data Within {A : Type 0} (m : Measure) (n : ℕ) : Seen A → Type 0 where
  within : {a : A} {w : World} {b : Bus} → m.of b ≤ n → Within m n (ends a w b)
  short_of : {k : ℕ} → 5 ≤ k → k ≤ 6 → Within m n (stops k)

-- what else is said of a tree
pub record Traits : Type 0 where
  pub silent : Bool
  pub native : Bool

abbrev pub traits : Bool → Bool → Traits
traits s n = record { silent = s; native = n }

-- so from every world; where it is silent, it uses no port; where it is native, it never enters the 8080 mode
pub record Bound (m : Measure) (s : Traits) (A : Type 0) (p : Act A) (n : ℕ) : Type 0 where
  pub at : (w : World) → Within m n (exec p w)
  pub quiet : s.silent ≡ true → Quiet p
  pub tame : s.native ≡ true → Tame p

-- bus cycles, with and without ports; and dropped bytes
abbrev pub MostOf : (silent : Bool) (A : Type 0) → Act A → ℕ → Type 0
MostOf s A p n = Bound cycles (traits s true) A p n

abbrev pub Most : (A : Type 0) → Act A → ℕ → Type 0
Most A p n = Bound cycles (traits true true) A p n

abbrev pub Drops : (A : Type 0) → Act A → ℕ → Type 0
Drops A p n = Bound dropped (traits false false) A p n

-- of ports nothing is said, and of the mode
pub loud : {A : Type 0} {p : Act A} → false ≡ true → Quiet p
loud e = absurd (true≢false (sym e))

pub wild : {A : Type 0} {p : Act A} → false ≡ true → Tame p
wild e = absurd (true≢false (sym e))

-- what uses no port and stays native, among what may not
pub any : {m : Measure} {s : Traits} {A : Type 0} {p : Act A} {n : ℕ} → Bound m (traits true true) A p n → Bound m s A p n
any b = record { at = b.at; quiet = λ e. b.quiet refl; tame = λ e. b.tame refl }

-- ---- joining

plus_within : {A : Type 0} (m : Measure) (c : Bus) (a b : ℕ) (e : Seen A) → m.of c ≤ a → Within m b e → Within m (a + b) (plus c e)
plus_within m c a b (ends x w n) h (within g) = let q : m.of (c ⊕ n) ≤ a + b = rw (m.adds c n) (add-le-add h g) in within q
plus_within m c a b (stops k) h (short_of f g) = short_of f g

and_then_within : {A B : Type 0} (m : Measure) (a b : ℕ) (e : Seen A) (f : A → World → Seen B) → Within m a e → ((x : A) (v : World) → Within m b (f x v)) → Within m (a + b) (and_then e f)
and_then_within m a b (ends x v n) f (within h) g = plus_within m n a b (f x v) h (g x v)
and_then_within m a b (stops k) f (short_of h i) g = short_of h i

-- one tree after another: the bounds add up
pub seq : {m : Measure} {s : Traits} {A B : Type 0} {p : Act A} {f : A → Act B} {a b : ℕ} → Bound m s A p a → ((x : A) → Bound m s B (f x) b) → Bound m s B (p >>= f) (a + b)
seq {m} {p = p} {f = f} {a = a} {b = b} h g =
    record {
      at = λ w. rw (exec_bind p f w) (and_then_within m a b (exec p w) (λ x v. exec (f x) v) (h.at w) (λ x v. (g x).at v));
      quiet = λ e. quiet_seq (h.quiet e) (λ x. (g x).quiet e);
      tame = λ e. tame_seq (h.tame e) (λ x. (g x).tame e);
    }

wider : {A : Type 0} (m : Measure) (a b : ℕ) (e : Seen A) → a ≤ b → Within m a e → Within m b e
wider m a b (ends x w n) h (within g) = within (le_trans g h)
wider m a b (stops k) h (short_of f g) = short_of f g

-- a bound is also any higher one
pub up : {m : Measure} {s : Traits} {A : Type 0} {p : Act A} {a b : ℕ} → a ≤ b → Bound m s A p a → Bound m s A p b
up {m} {p = p} {a = a} {b = b} h c = record { at = λ w. wider m a b (exec p w) h (c.at w); quiet = c.quiet; tame = c.tame }

-- whichever of two trees is chosen
pub either_way : {m : Measure} {s : Traits} {A : Type 0} {p q : Act A} {n : ℕ} (c : Bool) → Bound m s A p n → Bound m s A q n → Bound m s A (pick c p q) n
either_way {m} {s} {A} {n = n} = picked (λ (r : Act A). Bound m s A r n)

-- ---- nodes

module _ {m : Measure} {s : Traits} where
  -- a tree that makes no access
  free : {A : Type 0} {p : Act A} {a : World → A} {v : World → World} → Quiet p → Tame p → ((w : World) → Ends A p w (a w) (v w) nothing) → Bound m s A p 0
  free q t h = record { at = λ w. rw (h w).is (within (le_of_eq m.none)); quiet = λ e. q; tame = λ e. t }

  pub of_pure : {A : Type 0} {a : A} → Bound m s A (pure a) 0
  of_pure = free q_pure t_pure (λ w. ends_pure)

  pub of_registers : Bound m s File registers 0
  of_registers = free (q_get λ r. q_pure) (t_get λ r. t_pure) (λ w. ends_registers)

  -- what follows may rest on what the registers hold
  pub of_get : {A : Type 0} {k : File → Act A} {n : ℕ} → ((r : File) → Bound m s A (k r) n) → Bound m s A (get k) n
  unfolding exec run run_by
  of_get h = record { at = λ w. (h (file_of w.state.file)).at w; quiet = λ e. q_get λ r. (h r).quiet e; tame = λ e. t_get λ r. (h r).tame e }

  pub of_set : {n v : ℕ} → Bound m s Unit (n ≔ v) 0
  of_set {n} {v} = free (q_put q_pure) (t_put t_pure) (λ w. ends_set n v)

  pub of_flag : {f : Flag} → Bound m s Bool (flag f) 0
  of_flag {f} = free (q_ask λ b. q_pure) (t_ask λ b. t_pure) (λ w. ends_flag f)

  pub of_psw : {b : Bool} → Bound m s ℕ (psw b) 0
  of_psw {b} = free (q_copy λ x. q_pure) (t_copy λ x. t_pure) (λ w. ends_psw b)

  pub of_flags : {c : Flag → Effect} → Bound m s Unit (flags c (pure tt)) 0
  of_flags {c} = free (q_flags q_pure) (t_flags t_pure) (λ w. ends_flags c refl)

  pub of_halted : {b : Bool} → Bound m s Unit (halted b) 0
  of_halted {b} = free (q_halt q_pure) (t_halt t_pure) (λ w. ends_halted b)

  pub of_crossing : {c : Crossing} → (s.native ≡ true → enters c ≡ false) → Bound m s Unit (crossing c) 0
  of_crossing {c} h =
      record { at = λ w. rw (ends_crossing c).is (within (le_of_eq m.none)); quiet = λ e. q_cross q_pure; tame = λ e. t_cross (h e) t_pure }

-- an access takes at most 2 cycles, one of a byte or at an even address 1
pub cycles_top : (b : Bool) (o : ℕ) → bus_cycles b o + 0 ≤ 2
unfolding bus_cycles
cycles_top false o = omega arith
cycles_top true o = omega arith

byte_cycles : (o : ℕ) → bus_cycles false o + 0 ≤ 1
unfolding bus_cycles
byte_cycles o = le_refl 1

pub even_cycles : (o : ℕ) → o % 2 ≡ 0 → bus_cycles true o + 0 ≡ 1
unfolding bus_cycles
even_cycles o e = omega arith

module _ {b : Bool} {g o n : ℕ} (h : bus_cycles b o + 0 ≤ n) where
  peeks : Most ℕ (peek b g o) n
  unfolding exec run run_by tally
  peeks = record { at = λ w. within h; quiet = λ e. q_load λ v. q_pure; tame = λ e. t_load λ v. t_pure }

  pokes : {v : ℕ} → Most Unit (poke b g o v) n
  unfolding exec run run_by tally
  pokes = record { at = λ w. within h; quiet = λ e. q_store q_pure; tame = λ e. t_store t_pure }

pub of_peek : {b : Bool} {g o : ℕ} → Most ℕ (peek b g o) 2
of_peek {b} {g} {o} = peeks (cycles_top b o)

pub of_poke : {b : Bool} {g o v : ℕ} → Most Unit (poke b g o v) 2
of_poke {b} {g} {o} = pokes (cycles_top b o)

pub of_peek_byte : {g o : ℕ} → Most ℕ (peek false g o) 1
of_peek_byte {g} {o} = peeks (byte_cycles o)

pub of_poke_byte : {g o v : ℕ} → Most Unit (poke false g o v) 1
of_poke_byte {g} {o} = pokes (byte_cycles o)

pub of_peek_even : {g o : ℕ} → o % 2 ≡ 0 → Most ℕ (peek true g o) 1
of_peek_even {g} {o} e = peeks (le_of_eq (even_cycles o e))

-- ---- ports

-- an access goes through, or is refused with 5 or 6
data Passes : Access → Type 0 where
  passes : {v : ℕ} {w : World} → Passes (through v w)
  fails : {k : ℕ} → 5 ≤ k → k ≤ 6 → Passes (short k)

short_five : Passes (short 5)
short_five = fails (lit≤ tt) (lit≤ tt)

short_six : Passes (short 6)
short_six = fails (lit≤ tt) (lit≤ tt)

recording_passes : (w : World) (v m : ℕ) (b : List ℕ) → Passes (recording w v m b)
unfolding recording
recording_passes w v m b = picked Passes (leb (w.state.progress.log + length b) (length w.log)) passes short_six

inputs_passes : (b : Bool) (n : ℕ) (w : World) → Passes (inputs b n w)
unfolding inputs
inputs_passes b n w = picked Passes (leb (w.state.progress.tape + bytes_of b) (length w.tape)) (recording_passes _ _ _ _) short_five

outputs_passes : (b : Bool) (n v : ℕ) (w : World) → Passes (outputs b n v w)
unfolding outputs
outputs_passes b n v w = recording_passes _ _ _ _

ported_within : {A : Type 0} {m : ℕ} (e : ℕ → Event) (a : ℕ → A) → ((v : ℕ) → (tally (e v ∷ [])).cycles ≤ m) → (r : Access) → Passes r
    → Within cycles m (seen (ported r (λ v w. then (e v) (done (a v) w []))))
ported_within e a h (through v w) passes = within (h v)
ported_within e a h (short k) (fails f g) = short_of f g

pub of_inp : {b : Bool} {n : ℕ} → MostOf false ℕ (inp b n) 2
unfolding exec run run_by tally
of_inp {b} {n} = record { at = λ w. ported_within (takes b n) (λ v. v) (λ v. cycles_top b n) (inputs b n w) (inputs_passes b n w); quiet = loud; tame = λ e. t_input λ v. t_pure }

pub of_out : {b : Bool} {n v : ℕ} → MostOf false Unit (out b n v) 2
unfolding exec run run_by tally
of_out {b} {n} {v} = record { at = λ w. ported_within (λ x. gives b n v) (λ x. tt) (λ x. cycles_top b n) (outputs b n v w) (outputs_passes b n v w); quiet = loud; tame = λ e. t_output t_pure }

-- ---- repeats

-- the body, k times
pub of_loop : {m : Measure} {s : Traits} {A : Type 0} (body : ℕ → A → Act A) (c : ℕ) → ((i : ℕ) (a : A) → Bound m s A (body i a) c) → (k i : ℕ) (a : A) → Bound m s A (loop body k i a) (k * c)
unfolding loop
of_loop body c h zero i a = rw (zero-mul c) of_pure
of_loop body c h (suc k) i a = rw (suc-mul k c, add_comm (k * c) c) (seq (h i a) (λ b. of_loop body c h k (i + 1) b))
