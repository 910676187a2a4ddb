-- How a tree goes on: one rule for each node. The law of an instruction is put together from these.
use Prim.Native.Nat.{ℕ}
use native.Mathlib.Nat.{add_assoc, zero-add, add-zero}
use mathlib.Core.Path.{◌≡◌, refl, ap, sym, ◌∙◌}
use mathlib.Core.Bool.{Bool, true, false}
use mathlib.Core.List.{List}
use Rattle.sheet.specs.declared.Bus.{Bus}
use Rattle.sheet.specs.Width.{pick, wrap_of}
use Rattle.sheet.specs.Psw.{Flag, Effect, keeps, flag_of, settled, Crossing}
use Rattle.sheet.specs.Registers.{File, file_of, written}
use Rattle.sheet.specs.Memory.{read_mem, write_mem, lost_bytes}
use Rattle.sheet.specs.World.{World, with_state, with_ram, psw_of, with_file, with_psw, with_halted, crossed}
use Rattle.sheet.specs.Act.{Act, pure, refuse, get, put, ask, copy, flags, load, store, input, output, halt, cross, ◌>>=◌, registers, ◌≔◌, flag, psw, peek, poke, inp, out, halted, crossing}
use Rattle.sheet.specs.Handler.{Access, short, through, inputs, outputs, Event, reads, writes, takes, gives, asks, copies, changes, Outcome, refused, done, then, ported, run_by, run, nothing, ◌⊕◌, bus_of, bus_with, cost, tally}
use Rattle.sheet.specs.Contract.{Seen, stops, ends, seen, exec, Ends, Stops}

-- n more on the bus
abbrev pub plus : {A : Type 0} → Bus → Seen A → Seen A
plus n (stops k) = stops k
plus n (ends a w m) = ends a w (n ⊕ m)

-- an end, and what goes on from it
abbrev pub and_then : {A B : Type 0} → Seen A → (A → World → Seen B) → Seen B
and_then (stops k) f = stops k
and_then (ends a w n) f = plus n (f a w)

pub no_first : (n : Bus) → nothing ⊕ n ≡ n
no_first n = rw (zero-add n.cycles, zero-add n.dropped)

pub no_last : (n : Bus) → n ⊕ nothing ≡ n
no_last n = rw (add-zero n.cycles, add-zero n.dropped)

pub ⊕_assoc : (a b c : Bus) → (a ⊕ b) ⊕ c ≡ a ⊕ (b ⊕ c)
⊕_assoc a b c = rw (add_assoc a.cycles b.cycles c.cycles, add_assoc a.dropped b.dropped c.dropped)

then_seen : {A : Type 0} (e : Event) (o : Outcome A) → seen (then e o) ≡ plus (cost e) (seen o)
unfolding tally
then_seen e (refused n t) = refl
then_seen e (done a w t) = refl

plus_plus : {A : Type 0} (m n : Bus) (e : Seen A) → plus m (plus n e) ≡ plus (m ⊕ n) e
plus_plus m n (stops k) = refl
plus_plus m n (ends a w k) = ap (ends a w) (sym (⊕_assoc m n k))

plus_none : {A : Type 0} (e : Seen A) → e ≡ plus nothing e
plus_none (stops k) = refl
plus_none (ends a w k) = ap (ends a w) (sym (no_first k))

plus_and_then : {A B : Type 0} (n : Bus) (e : Seen A) (f : A → World → Seen B) → plus n (and_then e f) ≡ and_then (plus n e) f
plus_and_then n (stops k) f = refl
plus_and_then n (ends a w k) f = plus_plus n k (f a w)

-- an event in front of a tree that is followed by another
event_bind : {A B : Type 0} (e : Event) (o : Outcome A) (q : Outcome B) (g : A → World → Seen B) → seen q ≡ and_then (seen o) g → seen (then e q) ≡ and_then (seen (then e o)) g
event_bind e o q g h =
    then_seen e q ∙ ap (plus (cost e)) h ∙ plus_and_then (cost e) (seen o) g ∙ ap (λ (x : Seen _). and_then x g) (sym (then_seen e o))

port_bind : {A B : Type 0} (r : Access) (e : ℕ → Event) (o : ℕ → World → Outcome A) (q : ℕ → World → Outcome B) (g : A → World → Seen B)
    → ((v : ℕ) (w : World) → seen (q v w) ≡ and_then (seen (o v w)) g)
    → seen (ported r (λ v w. then (e v) (q v w))) ≡ and_then (seen (ported r (λ v w. then (e v) (o v w)))) g
port_bind (short n) e o q g h = refl
port_bind (through v w) e o q g h = event_bind (e v) (o v w) (q v w) g (h v w)

-- one tree after another: what their accesses come to adds up
pub exec_bind : {A B : Type 0} (p : Act A) (f : A → Act B) (w : World) → exec (p >>= f) w ≡ and_then (exec p w) (λ a v. exec (f a) v)
unfolding exec run run_by ◌>>=◌ tally
exec_bind (pure a) f w = plus_none (exec (f a) w)
exec_bind (refuse n) f w = refl
exec_bind (get k) f w = exec_bind (k (file_of w.state.file)) f w
exec_bind (put n v p) f w = exec_bind p f (with_state w (with_file w.state (written w.state.file n v)))
exec_bind (ask q k) f w =
    let b : Bool = flag_of (psw_of w.state) q in
    event_bind (asks q) (run (k b) w) (run (k b >>= f) w) (λ a v. exec (f a) v) (exec_bind (k b) f w)
exec_bind (copy b k) f w =
    let x : ℕ = wrap_of b (psw_of w.state) in
    event_bind (copies b) (run (k x) w) (run (k x >>= f) w) (λ a v. exec (f a) v) (exec_bind (k x) f w)
exec_bind (flags c p) f w =
    let u : World = with_state w (with_psw w.state (settled keeps c (psw_of w.state))) in
    event_bind (changes c) (run p u) (run (p >>= f) u) (λ a v. exec (f a) v) (exec_bind p f u)
exec_bind (load b g o k) f w =
    let x : ℕ = read_mem b w.ram w.rom g o in
    event_bind (reads b g o) (run (k x) w) (run (k x >>= f) w) (λ a v. exec (f a) v) (exec_bind (k x) f w)
exec_bind (store b g o v p) f w =
    let u : World = with_ram w (write_mem b w.ram g o v) in
    event_bind (writes b g o v (lost_bytes b w.ram g o)) (run p u) (run (p >>= f) u) (λ a x. exec (f a) x) (exec_bind p f u)
exec_bind (input b n k) f w =
    port_bind (inputs b n w) (takes b n) (λ v u. run (k v) u) (λ v u. run (k v >>= f) u) (λ a v. exec (f a) v) (λ v u. exec_bind (k v) f u)
exec_bind (output b n v p) f w =
    port_bind (outputs b n v w) (λ x. gives b n v) (λ x u. run p u) (λ x u. run (p >>= f) u) (λ a x. exec (f a) x) (λ x u. exec_bind p f u)
exec_bind (halt b p) f w = exec_bind p f (with_state w (with_halted w.state b))
exec_bind (cross c p) f w = exec_bind p f (with_state w (crossed c w.state))

-- ---- sequences

module _ {A B : Type 0} {p : Act A} (f : A → Act B) {w : World} where
  pub seq : {v u : World} {a : A} {b : B} {n m : Bus} → Ends A p w a v n → Ends B (f a) v b u m → Ends B (p >>= f) w b u (n ⊕ m)
  seq e g = record { is = exec_bind p f w ∙ rw (e.is, g.is) }

  -- the same where the first tree, or the rest, makes no access
  pub seq_free : {v u : World} {a : A} {b : B} {m : Bus} → Ends A p w a v nothing → Ends B (f a) v b u m → Ends B (p >>= f) w b u m
  seq_free {m = m} e g = record { is = exec_bind p f w ∙ rw (e.is, g.is, no_first m) }

  pub seq_last : {v u : World} {a : A} {b : B} {n : Bus} → Ends A p w a v n → Ends B (f a) v b u nothing → Ends B (p >>= f) w b u n
  seq_last {n = n} e g = record { is = exec_bind p f w ∙ rw (e.is, g.is, no_last n) }

  -- a refusal, at once or later
  pub seq_stops : {n : ℕ} → Stops A p w n → Stops B (p >>= f) w n
  seq_stops e = record { is = exec_bind p f w ∙ rw e.is }

  pub seq_then_stops : {v : World} {a : A} {n : Bus} {k : ℕ} → Ends A p w a v n → Stops B (f a) v k → Stops B (p >>= f) w k
  seq_then_stops e g = record { is = exec_bind p f w ∙ rw (e.is, g.is) }

-- a choice that is known
module _ {A : Type 0} (p q : Act A) {c : Bool} {w : World} where
  pub on_true : {u : World} {a : A} {n : Bus} → c ≡ true → Ends A p w a u n → Ends A (pick c p q) w a u n
  on_true e h = rw e h

  pub on_false : {u : World} {a : A} {n : Bus} → c ≡ false → Ends A q w a u n → Ends A (pick c p q) w a u n
  on_false e h = rw e h

  pub off_true : {n : ℕ} → c ≡ true → Stops A p w n → Stops A (pick c p q) w n
  off_true e h = rw e h

  pub off_false : {n : ℕ} → c ≡ false → Stops A q w n → Stops A (pick c p q) w n
  off_false e h = rw e h

-- one end only, and no end where it refuses
pub one_end : {A : Type 0} {p : Act A} {w v v' : World} {a a' : A} {n n' : Bus} → Ends A p w a v n → Ends A p w a' v' n' → (a ≡ a') × (v ≡ v') × (n ≡ n')
one_end e f =
    let p = e.is in
    let q = f.is in
    (cc, cc, cc)

pub not_both : {A : Type 0} {p : Act A} {w v : World} {a : A} {n : Bus} {k : ℕ} → Ends A p w a v n → Stops A p w k → ◌≡◌ {A = ℕ} 0 1
not_both e f =
    let p = e.is in
    let q = f.is in
    cc

-- ---- each node

pub ends_pure : {A : Type 0} {a : A} {w : World} → Ends A (pure a) w a w nothing
unfolding exec run run_by tally
ends_pure = record { is = refl }

pub stops_refuse : {A : Type 0} {n : ℕ} {w : World} → Stops A (refuse n) w n
unfolding exec run run_by
stops_refuse = record { is = refl }

module _ {w : World} where
  pub ends_registers : Ends File registers w (file_of w.state.file) w nothing
  unfolding exec run run_by tally
  ends_registers = record { is = refl }

  pub ends_set : (n v : ℕ) → Ends Unit (n ≔ v) w tt (with_state w (with_file w.state (written w.state.file n v))) nothing
  unfolding exec run run_by tally
  ends_set n v = record { is = refl }

  pub ends_flag : (f : Flag) → Ends Bool (flag f) w (flag_of (psw_of w.state) f) w nothing
  unfolding exec run run_by tally
  ends_flag f = record { is = refl }

  pub ends_psw : (b : Bool) → Ends ℕ (psw b) w (wrap_of b (psw_of w.state)) w nothing
  unfolding exec run run_by tally
  ends_psw b = record { is = refl }

  pub ends_flags : (c : Flag → Effect) {x : ℕ} → x ≡ settled keeps c (psw_of w.state) → Ends Unit (flags c (pure tt)) w tt (with_state w (with_psw w.state x)) nothing
  unfolding exec run run_by tally
  ends_flags c e = record { is = rw e }

  pub ends_halted : (b : Bool) → Ends Unit (halted b) w tt (with_state w (with_halted w.state b)) nothing
  unfolding exec run run_by tally
  ends_halted b = record { is = refl }

  pub ends_crossing : (c : Crossing) → Ends Unit (crossing c) w tt (with_state w (crossed c w.state)) nothing
  unfolding exec run run_by tally
  ends_crossing c = record { is = refl }

  pub ends_peek : (b : Bool) (g o v : ℕ) (n : Bus) → v ≡ read_mem b w.ram w.rom g o → n ≡ bus_of b o → Ends ℕ (peek b g o) w v w n
  unfolding exec run run_by tally
  ends_peek b g o v n e f = record { is = rw (e, f, no_last (bus_of b o)) }

  pub ends_poke : (b : Bool) (g o v : ℕ) (n : Bus) (ram : List ℕ) → ram ≡ write_mem b w.ram g o v → n ≡ bus_with b o (lost_bytes b w.ram g o) → Ends Unit (poke b g o v) w tt (with_ram w ram) n
  unfolding exec run run_by tally
  ends_poke b g o v n ram e f = record { is = rw (e, f, no_last (bus_with b o (lost_bytes b w.ram g o))) }

  pub ends_inp : (b : Bool) (n v : ℕ) (m : Bus) (u : World) → inputs b n w ≡ through v u → m ≡ bus_of b n → Ends ℕ (inp b n) w v u m
  unfolding exec run run_by tally
  ends_inp b n v m u e f = record { is = rw (e, f, no_last (bus_of b n)) }

  pub stops_inp : (b : Bool) (n k : ℕ) → inputs b n w ≡ short k → Stops ℕ (inp b n) w k
  unfolding exec run run_by
  stops_inp b n k e = record { is = rw e }

  pub ends_out : (b : Bool) (n v x : ℕ) (m : Bus) (u : World) → outputs b n v w ≡ through x u → m ≡ bus_of b n → Ends Unit (out b n v) w tt u m
  unfolding exec run run_by tally
  ends_out b n v x m u e f = record { is = rw (e, f, no_last (bus_of b n)) }

  pub stops_out : (b : Bool) (n v k : ℕ) → outputs b n v w ≡ short k → Stops Unit (out b n v) w k
  unfolding exec run run_by
  stops_out b n v k e = record { is = rw e }

-- ---- the free nodes in front of what follows
module _ {B : Type 0} {w u : World} {b : B} {n : Bus} where
  pub seq_registers : (f : File → Act B) → Ends B (f (file_of w.state.file)) w b u n → Ends B (registers >>= f) w b u n
  seq_registers f h = seq_free f ends_registers h

  pub seq_set : (m v : ℕ) (f : Unit {0} → Act B) → Ends B (f tt) (with_state w (with_file w.state (written w.state.file m v))) b u n → Ends B (m ≔ v >>= f) w b u n
  seq_set m v f h = seq_free f (ends_set m v) h

  pub seq_flag : (q : Flag) (f : Bool → Act B) → Ends B (f (flag_of (psw_of w.state) q)) w b u n → Ends B (flag q >>= f) w b u n
  seq_flag q f h = seq_free f (ends_flag q) h

  pub seq_flags : (c : Flag → Effect) (f : Unit {0} → Act B) {x : ℕ} → x ≡ settled keeps c (psw_of w.state) → Ends B (f tt) (with_state w (with_psw w.state x)) b u n → Ends B (flags c (pure tt) >>= f) w b u n
  seq_flags c f e h = seq_free f (ends_flags c e) h
