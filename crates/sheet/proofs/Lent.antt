-- What every tree leaves as it found it: the lent buffers' lengths, ROM, the tape, and a sound state.
use Prim.Native.Nat.{ℕ, suc, ◌+◌, ◌/◌, ◌%◌, ◌≤◌}
use mathlib.Core.Path.{◌≡◌, refl, ◌∙◌}
use mathlib.Core.Bool.{Bool, true, false, ◌||◌}
use mathlib.Core.List.{List}
use native.Mathlib.Nat.{add-zero}
use native.Mathlib.Omega.{arith}
use lib.ListN.{length, get_or, set, length-set, length-append, length-drop}
use lib.Seq.{get_or-set_same, get_or-set_other, length-take-le}
use lib.Dec.{leb, ltb, lit≤, lit<}
use borrow.Author.Tests.{leb-true, ltb-true}
use Rattle.sheet.specs.declared.State.{State}
use Rattle.sheet.specs.Width.{pick, bytes_of, wrap_of}
use Rattle.sheet.specs.Psw.{Flag, Effect, Choice, native_of, fixed_of, flag_of, settled, in_mode, Crossing, to_native, to_cards, back, stored}
use Rattle.sheet.specs.Registers.{PSW, file_of, written}
use Rattle.sheet.specs.Memory.{physical, next, read_mem, write_mem, lost_bytes}
use Rattle.sheet.specs.Log.{ceiling, rule, key_of, record_bytes, write_log}
use Rattle.sheet.specs.World.{World, world, with_state, with_ram, psw_of, state_of, mark_writable, with_file, with_psw, with_halted, crossed, recorded}
use Rattle.sheet.specs.Act.{Act, pure, refuse, get, put, ask, copy, flags, load, store, input, output, halt, cross}
use Rattle.sheet.specs.Handler.{Access, short, through, recording, taped, inputs, outputs, Event, reads, writes, takes, gives, asks, copies, changes, Outcome, refused, done, then, ported, run_by}
use Rattle.sheet.proofs.PswLaws.{fixed_settled, native_settled, fixed_mode, native_mode}

-- of the world that an outcome leaves
pub data Leaves {A : Type 0} (Q : World → Type 0) : Outcome A → Type 0 where
  none_left : {n : ℕ} {t : List Event} → Leaves Q (refused n t)
  leaves : {a : A} {w : World} {t : List Event} → Q w → Leaves Q (done a w t)

pub data LeavesAccess (Q : World → Type 0) : Access → Type 0 where
  none_port : {n : ℕ} → LeavesAccess Q (short n)
  leaves_port : {v : ℕ} {w : World} → Q w → LeavesAccess Q (through v w)

pub leaves_then : {A : Type 0} {Q : World → Type 0} (e : Event) {o : Outcome A} → Leaves Q o → Leaves Q (then e o)
leaves_then e none_left = none_left
leaves_then e (leaves h) = leaves h

-- v is lent what w is
pub record Lent (w v : World) : Type 0 where
  pub ram_long : length v.ram ≡ length w.ram
  pub rom_same : v.rom ≡ w.rom
  pub tape_same : v.tape ≡ w.tape
  pub log_long : length v.log ≡ length w.log

-- what number 2 asks: fixed bits, MD, places, count; and a state has fourteen words
pub record Sound (w : World) : Type 0 where
  pub whole : length w.state.file ≡ 14
  pub fixed : fixed_of (psw_of w.state) ≡ true
  pub mode : (native_of (psw_of w.state) || w.state.marks.writable) ≡ true
  pub tape_in : w.state.progress.tape ≤ length w.tape
  pub log_in : w.state.progress.log ≤ length w.log
  pub count_in : w.state.progress.count ≤ ceiling rule

pub write_mem_length : (b : Bool) (r : List ℕ) (g o x : ℕ) → length (write_mem b r g o x) ≡ length r
unfolding write_mem
write_mem_length false r g o x = length-set r (physical g o) (x % 256)
write_mem_length true r g o x = length-set (set r (physical g o) (x % 256)) (physical g (next o)) (x / 256 % 256) ∙ length-set r (physical g o) (x % 256)

pub write_log_length : (log b : List ℕ) (at : ℕ) → at + length b ≤ length log → length (write_log log at b) ≡ length log
unfolding write_log
write_log_length log b at h =
    let t = length-take-le at log (omega arith) in
    simp (length-append, length-drop, t) (omega arith)

pub lent_refl : (w : World) → Lent w w
lent_refl w = record { ram_long = refl; rom_same = refl; tape_same = refl; log_long = refl }

lent_same : {w v : World} {s : State} → Lent w v → Lent w (with_state v s)
lent_same l = record { ram_long = l.ram_long; rom_same = l.rom_same; tape_same = l.tape_same; log_long = l.log_long }

-- a register is written: PSW and the number of words stay
written_long : (f : List ℕ) (n v : ℕ) → length (written f n v) ≡ length f
written_long f n v = go (ltb n PSW)
  where
    go : (b : Bool) → length (pick b (set f n v) f) ≡ length f
    go true = length-set f n v
    go false = refl

pub written_psw : (f : List ℕ) (n v : ℕ) → get_or (written f n v) PSW 0 ≡ get_or f PSW 0
written_psw f n v = go (ltb n PSW) refl
  where
    go : (b : Bool) → ltb n PSW ≡ b → get_or (pick b (set f n v) f) PSW 0 ≡ get_or f PSW 0
    go true e = let h = ltb-true n PSW e in get_or-set_other f n PSW v 0 (omega arith)
    go false e = refl

-- a fact of worlds that each node keeps is kept by every tree
pub record Kept (Q : World → Type 0) : Type 0 where
  pub in_tape : (w : World) → Q w → w.state.progress.tape ≤ length w.tape
  pub at_register : (w : World) (n v : ℕ) → Q w → Q (with_state w (with_file w.state (written w.state.file n v)))
  pub at_psw : (w : World) (u : Choice) (c : Flag → Effect) → Q w → Q (with_state w (with_psw w.state (settled u c (psw_of w.state))))
  pub at_store : (w : World) (b : Bool) (g o x : ℕ) → Q w → Q (with_ram w (write_mem b w.ram g o x))
  pub at_record : (w : World) (m : ℕ) (b : List ℕ) → w.state.progress.tape + m ≤ length w.tape → w.state.progress.log + length b ≤ length w.log → Q w
      → Q (world (recorded w.state m (length b)) w.ram w.rom w.tape (write_log w.log w.state.progress.log b))
  pub at_halt : (w : World) (b : Bool) → Q w → Q (with_state w (with_halted w.state b))
  pub at_crossing : (w : World) (c : Crossing) → Q w → Q (with_state w (crossed c w.state))

module _ (Q : World → Type 0) (k : Kept Q) where
  record_kept : (w : World) (v m : ℕ) (b : List ℕ) → w.state.progress.tape + m ≤ length w.tape → Q w → LeavesAccess Q (recording w v m b)
  unfolding recording
  record_kept w v m b h q = go (leb (w.state.progress.log + length b) (length w.log)) refl
    where
      go : (t : Bool) → leb (w.state.progress.log + length b) (length w.log) ≡ t
          → LeavesAccess Q (pick t (through v (world (recorded w.state m (length b)) w.ram w.rom w.tape (write_log w.log w.state.progress.log b))) (short 6))
      go true e = leaves_port (k.at_record w m b h (leb-true _ _ e) q)
      go false e = none_port

  -- `at_record`, with no tape byte taken, asks for a place that lies in the tape
  inputs_kept : (b : Bool) (n : ℕ) (w : World) → Q w → LeavesAccess Q (inputs b n w)
  unfolding inputs
  inputs_kept b n w q = go (leb (w.state.progress.tape + bytes_of b) (length w.tape)) refl
    where
      go : (t : Bool) → leb (w.state.progress.tape + bytes_of b) (length w.tape) ≡ t
          → LeavesAccess Q (pick t (recording w (taped b w.tape w.state.progress.tape) (bytes_of b) (record_bytes rule w.state.progress.count (key_of false b n) (taped b w.tape w.state.progress.tape))) (short 5))
      go true e =
          let v : ℕ = taped b w.tape w.state.progress.tape in
          record_kept w v (bytes_of b) (record_bytes rule w.state.progress.count (key_of false b n) v) (leb-true _ _ e) q
      go false e = none_port

  outputs_kept : (b : Bool) (n v : ℕ) (w : World) → Q w → LeavesAccess Q (outputs b n v w)
  unfolding outputs
  outputs_kept b n v w q = record_kept w v 0 (record_bytes rule w.state.progress.count (key_of true b n) v) (rw add-zero (k.in_tape w q)) q

  ported_kept : {A : Type 0} {r : Access} (f : ℕ → World → Outcome A) → LeavesAccess Q r → ((v : ℕ) (w : World) → Q w → Leaves Q (f v w)) → Leaves Q (ported r f)
  ported_kept f none_port g = none_left
  ported_kept f (leaves_port {v = v} {w = w} h) g = g v w h

  pub keeps_all : {A : Type 0} (p : Act A) (u : ℕ → Choice) (w : World) → Q w → Leaves Q (run_by u p w)
  unfolding run_by
  keeps_all (pure a) u w q = leaves q
  keeps_all (refuse n) u w q = none_left
  keeps_all (get c) u w q = keeps_all (c (file_of w.state.file)) u w q
  keeps_all (put n v p) u w q = keeps_all p u (with_state w (with_file w.state (written w.state.file n v))) (k.at_register w n v q)
  keeps_all (ask f c) u w q = leaves_then (asks f) (keeps_all (c (flag_of (psw_of w.state) f)) u w q)
  keeps_all (copy b c) u w q = leaves_then (copies b) (keeps_all (c (wrap_of b (psw_of w.state))) u w q)
  keeps_all (flags c p) u w q =
      leaves_then (changes c)
      (keeps_all p (λ i. u (suc i)) (with_state w (with_psw w.state (settled (u 0) c (psw_of w.state)))) (k.at_psw w (u 0) c q))
  keeps_all (load b g o c) u w q = leaves_then (reads b g o) (keeps_all (c (read_mem b w.ram w.rom g o)) u w q)
  keeps_all (store b g o v p) u w q =
      leaves_then (writes b g o v (lost_bytes b w.ram g o)) (keeps_all p u (with_ram w (write_mem b w.ram g o v)) (k.at_store w b g o v q))
  keeps_all (input b n c) u w q =
      ported_kept (λ v x. then (takes b n v) (run_by u (c v) x)) (inputs_kept b n w q) (λ v x h. leaves_then (takes b n v) (keeps_all (c v) u x h))
  keeps_all (output b n v p) u w q =
      ported_kept (λ y x. then (gives b n v) (run_by u p x)) (outputs_kept b n v w q) (λ y x h. leaves_then (gives b n v) (keeps_all p u x h))
  keeps_all (halt b p) u w q = keeps_all p u (with_state w (with_halted w.state b)) (k.at_halt w b q)
  keeps_all (cross c p) u w q = keeps_all p u (with_state w (crossed c w.state)) (k.at_crossing w c q)

-- ---- what is so kept

or_true : (b : Bool) → (b || true) ≡ true
or_true true = refl
or_true false = refl

psw_fixed : (u : Choice) (c : Flag → Effect) (s : State) → length s.file ≡ 14 → fixed_of (get_or (set s.file PSW (settled u c (psw_of s))) PSW 0) ≡ true
psw_fixed u c s e = rw (get_or-set_same s.file PSW (settled u c (psw_of s)) 0 (rw e (lit< tt))) (fixed_settled u c (psw_of s))

psw_mode : (u : Choice) (c : Flag → Effect) (s : State) → length s.file ≡ 14 → (native_of (psw_of s) || s.marks.writable) ≡ true
    → (native_of (get_or (set s.file PSW (settled u c (psw_of s))) PSW 0) || s.marks.writable) ≡ true
psw_mode u c s e h = rw (get_or-set_same s.file PSW (settled u c (psw_of s)) 0 (rw e (lit< tt)), native_settled u c (psw_of s)) h

-- the places and the count stay
pub crossed_progress : (c : Crossing) (s : State) → (crossed c s).progress ≡ s.progress
unfolding crossed
crossed_progress to_native s = refl
crossed_progress to_cards s = refl
crossed_progress back s = refl
crossed_progress (stored b) s = go s.marks.writable
  where
    go : (t : Bool) → (pick t (with_psw s (in_mode b (psw_of s))) s).progress ≡ s.progress
    go true = refl
    go false = refl

-- MD 0 is only ever left with the permission
module _ (w : World) where
  mode_sound : (md writable : Bool) → (md || writable) ≡ true → (s : State) → s ≡ state_of (set w.state.file PSW (in_mode md (psw_of w.state))) (mark_writable w.state.marks writable) w.state.progress
      → Sound w → Sound (with_state w s)
  mode_sound md writable h s e g =
      let there = get_or-set_same w.state.file PSW (in_mode md (psw_of w.state)) 0 (rw g.whole (lit< tt)) in
      rw e (record {
        whole = length-set w.state.file PSW _ ∙ g.whole;
        fixed = rw there (fixed_mode md (psw_of w.state));
        mode = rw (there, native_mode md (psw_of w.state)) h;
        tape_in = g.tape_in;
        log_in = g.log_in;
        count_in = g.count_in;
      })

  pub crossed_sound : (c : Crossing) → Sound w → Sound (with_state w (crossed c w.state))
  unfolding crossed
  crossed_sound to_native g = mode_sound true w.state.marks.writable refl _ refl g
  crossed_sound to_cards g = mode_sound false true refl _ refl g
  crossed_sound back g = mode_sound true false refl _ refl g
  crossed_sound (stored b) g = go w.state.marks.writable refl
    where
      go : (t : Bool) → w.state.marks.writable ≡ t → Sound (with_state w (pick t (with_psw w.state (in_mode b (psw_of w.state))) w.state))
      go true e = mode_sound b w.state.marks.writable (rw e (or_true b)) _ refl g
      go false e = g

-- the lent buffers and a sound state; all that is asked of the world at the start is that it is sound
pub record Good (w v : World) : Type 0 where
  pub lent : Lent w v
  pub sound : Sound v

pub good_kept : (w : World) → Kept (Good w)
good_kept w = record {
  in_tape = λ v g. g.sound.tape_in;
  at_register = λ v n x g. record {
    lent = lent_same g.lent;
    sound = record { whole = written_long v.state.file n x ∙ g.sound.whole; fixed = rw (written_psw v.state.file n x) g.sound.fixed; mode = rw (written_psw v.state.file n x) g.sound.mode; tape_in = g.sound.tape_in; log_in = g.sound.log_in; count_in = g.sound.count_in };
  };
  at_psw = λ v u c g. record {
    lent = lent_same g.lent;
    sound = record { whole = length-set v.state.file PSW _ ∙ g.sound.whole; fixed = psw_fixed u c v.state g.sound.whole; mode = psw_mode u c v.state g.sound.whole g.sound.mode; tape_in = g.sound.tape_in; log_in = g.sound.log_in; count_in = g.sound.count_in };
  };
  at_store = λ v b s o x g. record {
    lent = record { ram_long = write_mem_length b v.ram s o x ∙ g.lent.ram_long; rom_same = g.lent.rom_same; tape_same = g.lent.tape_same; log_long = g.lent.log_long };
    sound = record { whole = g.sound.whole; fixed = g.sound.fixed; mode = g.sound.mode; tape_in = g.sound.tape_in; log_in = g.sound.log_in; count_in = g.sound.count_in };
  };
  at_record = λ v m b h r g. record {
    lent = record { ram_long = g.lent.ram_long; rom_same = g.lent.rom_same; tape_same = g.lent.tape_same; log_long = write_log_length v.log b v.state.progress.log r ∙ g.lent.log_long };
    sound = record { whole = g.sound.whole; fixed = g.sound.fixed; mode = g.sound.mode; tape_in = h; log_in = rw (write_log_length v.log b v.state.progress.log r) r; count_in = lit≤ tt };
  };
  at_halt = λ v b g. record {
    lent = lent_same g.lent;
    sound = record { whole = g.sound.whole; fixed = g.sound.fixed; mode = g.sound.mode; tape_in = g.sound.tape_in; log_in = g.sound.log_in; count_in = g.sound.count_in };
  };
  at_crossing = λ v c g. record { lent = lent_same g.lent; sound = crossed_sound v c g.sound };
}

pub stays_good : {A : Type 0} (p : Act A) (u : ℕ → Choice) (w : World) → Sound w → Leaves (Good w) (run_by u p w)
stays_good p u w s = keeps_all (Good w) (good_kept w) p u w (record { lent = lent_refl w; sound = s })
