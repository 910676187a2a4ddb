-- What comes of a tree rests only on the bytes that it reads, and RAM keeps each byte that it does not write.
use Prim.Native.Nat.{ℕ, suc, ◌+◌, ◌-◌, ◌/◌, ◌%◌, ◌≤◌, ◌<◌}
use mathlib.Core.Path.{◌≡◌, refl, ap, sym, subst, ◌∙◌}
use mathlib.Core.Bool.{Bool, true, false}
use mathlib.Core.List.{List, ◌++◌}
use native.Mathlib.Decide.{ℕ_discrete}
use native.Mathlib.Omega.{arith}
use lib.ListN.{length, get_or, set, take, drop, length-set, get_or-append}
use lib.Seq.{get_or-set_same, get_or-set_other, get_or-append-add, get_or-take, length-take-le}
use lib.Dec.{ltb, leb}
use borrow.Author.Tests.{ltb-true, ltb-false, leb-true}
use Rattle.sheet.specs.declared.State.{State}
use Rattle.sheet.specs.Width.{pick, bytes_of, wrap_of}
use Rattle.sheet.specs.Psw.{Choice, flag_of, settled}
use Rattle.sheet.specs.Registers.{file_of, written}
use Rattle.sheet.specs.Memory.{physical, next, byte_at, read_mem, write_mem, lost, lost_bytes}
use Rattle.sheet.specs.Log.{rule, key_of, record_bytes, write_log}
use Rattle.sheet.specs.World.{World, world, with_state, with_ram, psw_of, with_file, with_psw, with_halted, crossed, recorded}
use Rattle.sheet.specs.Act.{Act, pure, refuse, get, put, ask, copy, flags, load, store, input, output, halt, cross}
use Rattle.sheet.specs.Handler.{Access, short, through, recording, taped, inputs, outputs, Event, reads, writes, takes, gives, asks, copies, changes, Outcome, refused, done, then, ported, run_by, happened}
use Rattle.sheet.proofs.Reach.{Covers, Sees, Within, Misses, Spares}
use Rattle.sheet.proofs.Lent.{Leaves, none_left, leaves, LeavesAccess, none_port, leaves_port, leaves_then, write_mem_length, write_log_length, crossed_progress}

-- the bytes that worlds may differ in: everything that is lent but the tape
pub record Bytes : Type 0 where
  pub ram : List ℕ
  pub rom : List ℕ
  pub log : List ℕ

abbrev pub from : State → List ℕ → Bytes → World
from s tape m = world s m.ram m.rom tape m.log

-- the same state, as much RAM and log, the same bytes at addresses in P and in the log from `start` up to its place
pub record Alike (P : ℕ → Type 0) (start : ℕ) (s : State) (m m' : Bytes) : Type 0 where
  pub ram_long : length m.ram ≡ length m'.ram
  pub log_long : length m.log ≡ length m'.log
  pub bytes : (a : ℕ) → P a → byte_at m.ram m.rom a ≡ byte_at m'.ram m'.rom a
  pub logged : (i : ℕ) → start ≤ i → i < s.progress.log → get_or m.log i 0 ≡ get_or m'.log i 0

-- the same refusal; or the same value, state and events, and bytes that are alike again
pub data Same {A : Type 0} (P : ℕ → Type 0) (start : ℕ) (tape : List ℕ) : Outcome A → Outcome A → Type 0 where
  same_refused : {n : ℕ} {t : List Event} → Same P start tape (refused n t) (refused n t)
  same_done : {a : A} {s : State} {m m' : Bytes} {t : List Event} → Alike P start s m m' → Same P start tape (done a (from s tape m) t) (done a (from s tape m') t)

data SameAccess (P : ℕ → Type 0) (start : ℕ) (tape : List ℕ) : Access → Access → Type 0 where
  same_short : {n : ℕ} → SameAccess P start tape (short n) (short n)
  same_through : {v : ℕ} {s : State} {m m' : Bytes} → Alike P start s m m' → SameAccess P start tape (through v (from s tape m)) (through v (from s tape m'))

-- ---- one byte written to both

set_byte : (r s : List ℕ) (x v a : ℕ) → a < length r → a < length s → get_or r a 0 ≡ get_or s a 0 → get_or (set r x v) a 0 ≡ get_or (set s x v) a 0
set_byte r s x v a h k e = go (ℕ_discrete a x)
  where
    go : Dec (a ≡ x) → get_or (set r x v) a 0 ≡ get_or (set s x v) a 0
    go (yes q) = rw (← q, get_or-set_same r a v 0 h, get_or-set_same s a v 0 k)
    go (no q) = rw (get_or-set_other r x a v 0 q, get_or-set_other s x a v 0 q) e

set_alike : (r s rom rom' : List ℕ) (x v a : ℕ) → length r ≡ length s → byte_at r rom a ≡ byte_at s rom' a → byte_at (set r x v) rom a ≡ byte_at (set s x v) rom' a
unfolding byte_at
set_alike r s rom rom' x v a l e = go (ltb a (length r)) refl
  where
    go : (b : Bool) → ltb a (length r) ≡ b → byte_at (set r x v) rom a ≡ byte_at (set s x v) rom' a
    go true t =
        let f : ltb a (length s) ≡ true = rw (← l) t in
        let d : get_or r a 0 ≡ get_or s a 0 = rw (t, f) at e in
        rw (length-set r x v, length-set s x v, t, f) (set_byte r s x v a (ltb-true a (length r) t) (ltb-true a (length s) f) d)
    go false t =
        let f : ltb a (length s) ≡ false = rw (← l) t in
        rw (length-set r x v, length-set s x v, t, f) (rw (t, f) at e)

write_mem_alike : (b : Bool) (r s rom rom' : List ℕ) (g o x a : ℕ) → length r ≡ length s → byte_at r rom a ≡ byte_at s rom' a → byte_at (write_mem b r g o x) rom a ≡ byte_at (write_mem b s g o x) rom' a
unfolding write_mem
write_mem_alike false r s rom rom' g o x a l e = set_alike r s rom rom' (physical g o) (x % 256) a l e
write_mem_alike true r s rom rom' g o x a l e =
    set_alike (set r (physical g o) (x % 256)) (set s (physical g o) (x % 256)) rom rom' (physical g (next o)) (x / 256 % 256) a
    (length-set r (physical g o) (x % 256) ∙ l ∙ sym (length-set s (physical g o) (x % 256)))
    (set_alike r s rom rom' (physical g o) (x % 256) a l e)

-- what is dropped rests on RAM's length alone
lost_alike : (b : Bool) (r s : List ℕ) (g o : ℕ) → length r ≡ length s → lost_bytes b r g o ≡ lost_bytes b s g o
unfolding lost_bytes lost
lost_alike false r s g o e = rw e
lost_alike true r s g o e = rw e

-- ---- a record written to both logs

log_old : (l b : List ℕ) (at i : ℕ) → at ≤ length l → i < at → get_or (write_log l at b) i 0 ≡ get_or l i 0
unfolding write_log
log_old l b at i h k =
    let n = length-take-le at l h in
    get_or-append (take at l) (b ++ drop (at + length b) l) 0 i (omega arith) ∙ get_or-take at l i 0 k

log_new : (l b : List ℕ) (at j : ℕ) → at ≤ length l → j < length b → get_or (write_log l at b) (at + j) 0 ≡ get_or b j 0
unfolding write_log
log_new l b at j h k =
    subst (λ (n : ℕ). get_or (take at l ++ (b ++ drop (at + length b) l)) (n + j) 0 ≡ get_or b j 0) (length-take-le at l h)
    (get_or-append-add (take at l) (b ++ drop (at + length b) l) j 0 ∙ get_or-append b (drop (at + length b) l) 0 j k)

log_alike : (l l' b : List ℕ) (at i : ℕ) → at ≤ length l → at ≤ length l' → (i < at → get_or l i 0 ≡ get_or l' i 0) → i < at + length b → get_or (write_log l at b) i 0 ≡ get_or (write_log l' at b) i 0
log_alike l l' b at i h h' e k = go (ltb i at) refl
  where
    go : (t : Bool) → ltb i at ≡ t → get_or (write_log l at b) i 0 ≡ get_or (write_log l' at b) i 0
    go true t = let q = ltb-true i at t in log_old l b at i h q ∙ e q ∙ sym (log_old l' b at i h' q)
    go false t =
        let q = ltb-false i at t in
        let j : i ≡ at + (i - at) = omega arith in
        subst (λ (n : ℕ). get_or (write_log l at b) n 0 ≡ get_or (write_log l' at b) n 0) (sym j)
        (log_new l b at (i - at) h (omega arith) ∙ sym (log_new l' b at (i - at) h' (omega arith)))

module _ (P : ℕ → Type 0) (start : ℕ) (tape : List ℕ) where
  read_alike : (b : Bool) (g o : ℕ) (s : State) (m m' : Bytes) → Covers P b g o → Alike P start s m m' → read_mem b m.ram m.rom g o ≡ read_mem b m'.ram m'.rom g o
  unfolding read_mem
  read_alike false g o s m m' c l = l.bytes (physical g o) c
  read_alike true g o s m m' c l = rw (l.bytes (physical g o) c.0, l.bytes (physical g (next o)) c.1)

  store_alike : (b : Bool) (g o x : ℕ) (s : State) (m m' : Bytes) → Alike P start s m m'
      → Alike P start s (record { ram = write_mem b m.ram g o x; rom = m.rom; log = m.log }) (record { ram = write_mem b m'.ram g o x; rom = m'.rom; log = m'.log })
  store_alike b g o x s m m' l = record {
    ram_long = write_mem_length b m.ram g o x ∙ l.ram_long ∙ sym (write_mem_length b m'.ram g o x);
    log_long = l.log_long;
    bytes = λ a p. write_mem_alike b m.ram m'.ram m.rom m'.rom g o x a l.ram_long (l.bytes a p);
    logged = l.logged;
  }

  -- another state whose log's place is the same
  other : {s t : State} {m m' : Bytes} → t.progress.log ≡ s.progress.log → Alike P start s m m' → Alike P start t m m'
  other e l = record { ram_long = l.ram_long; log_long = l.log_long; bytes = l.bytes; logged = λ i h k. l.logged i h (rw (← e) k) }

  record_alike : (s : State) (m m' : Bytes) (v k : ℕ) (b : List ℕ) → Alike P start s m m' → SameAccess P start tape (recording (from s tape m) v k b) (recording (from s tape m') v k b)
  unfolding recording
  record_alike s m m' v k b l = rw (← l.log_long) (go (leb (s.progress.log + length b) (length m.log)) refl)
    where
      go : (t : Bool) → leb (s.progress.log + length b) (length m.log) ≡ t
          → SameAccess P start tape
          (pick t (through v (world (recorded s k (length b)) m.ram m.rom tape (write_log m.log s.progress.log b))) (short 6))
          (pick t (through v (world (recorded s k (length b)) m'.ram m'.rom tape (write_log m'.log s.progress.log b))) (short 6))
      go true e =
          let r = leb-true _ _ e in
          let n = l.log_long in
          same_through (record {
            ram_long = l.ram_long;
            log_long = write_log_length m.log b s.progress.log r ∙ n ∙ sym (write_log_length m'.log b s.progress.log (omega arith));
            bytes = l.bytes;
            logged = λ i h q. log_alike m.log m'.log b s.progress.log i (omega arith) (omega arith) (λ z. l.logged i h z) q;
          })
      go false e = same_short

  inputs_alike : (b : Bool) (n : ℕ) (s : State) (m m' : Bytes) → Alike P start s m m' → SameAccess P start tape (inputs b n (from s tape m)) (inputs b n (from s tape m'))
  unfolding inputs
  inputs_alike b n s m m' l = go (leb (s.progress.tape + bytes_of b) (length tape))
    where
      go : (t : Bool)
          → SameAccess P start tape
          (pick t (recording (from s tape m) (taped b tape s.progress.tape) (bytes_of b) (record_bytes rule s.progress.count (key_of false b n) (taped b tape s.progress.tape))) (short 5))
          (pick t (recording (from s tape m') (taped b tape s.progress.tape) (bytes_of b) (record_bytes rule s.progress.count (key_of false b n) (taped b tape s.progress.tape))) (short 5))
      go true = record_alike s m m' (taped b tape s.progress.tape) (bytes_of b) (record_bytes rule s.progress.count (key_of false b n) (taped b tape s.progress.tape)) l
      go false = same_short

  outputs_alike : (b : Bool) (n v : ℕ) (s : State) (m m' : Bytes) → Alike P start s m m' → SameAccess P start tape (outputs b n v (from s tape m)) (outputs b n v (from s tape m'))
  unfolding outputs
  outputs_alike b n v s m m' l = record_alike s m m' v 0 (record_bytes rule s.progress.count (key_of true b n) v) l

  same_then : {A : Type 0} (e : Event) {o q : Outcome A} → Same P start tape o q → Same P start tape (then e o) (then e q)
  same_then e same_refused = same_refused
  same_then e (same_done l) = same_done l

  within_then : {A : Type 0} (e : Event) (o : Outcome A) → Within P (happened (then e o)) → Sees P e × Within P (happened o)
  within_then e (refused n t) h = h
  within_then e (done a w t) h = h

  -- a port access, and what follows it
  ported_same : {A : Type 0} (f : ℕ → World → Outcome A) {r r' : Access} → SameAccess P start tape r r' → Within P (happened (ported r f))
      → ((v : ℕ) (s : State) (m m' : Bytes) → Alike P start s m m' → Within P (happened (f v (from s tape m))) → Same P start tape (f v (from s tape m)) (f v (from s tape m')))
      → Same P start tape (ported r f) (ported r' f)
  ported_same f same_short h g = same_refused
  ported_same f (same_through {v = v} {s = s} {m = m} {m' = m'} l) h g = g v s m m' l h

  pub rests : {A : Type 0} (p : Act A) (u : ℕ → Choice) (s : State) (m m' : Bytes) → Within P (happened (run_by u p (from s tape m))) → Alike P start s m m'
      → Same P start tape (run_by u p (from s tape m)) (run_by u p (from s tape m'))
  unfolding run_by
  rests (pure a) u s m m' r l = same_done l
  rests (refuse n) u s m m' r l = same_refused
  rests (get k) u s m m' r l = rests (k (file_of s.file)) u s m m' r l
  rests (put n v p) u s m m' r l = rests p u (with_file s (written s.file n v)) m m' r (other refl l)
  rests (ask f k) u s m m' r l =
      let b : Bool = flag_of (psw_of s) f in
      let h = within_then (asks f) (run_by u (k b) (from s tape m)) r in
      same_then (asks f) (rests (k b) u s m m' h.1 l)
  rests (copy b k) u s m m' r l =
      let x : ℕ = wrap_of b (psw_of s) in
      let h = within_then (copies b) (run_by u (k x) (from s tape m)) r in
      same_then (copies b) (rests (k x) u s m m' h.1 l)
  rests (flags c p) u s m m' r l =
      let t : State = with_psw s (settled (u 0) c (psw_of s)) in
      let h = within_then (changes c) (run_by (λ i. u (suc i)) p (from t tape m)) r in
      same_then (changes c) (rests p (λ i. u (suc i)) t m m' h.1 (other refl l))
  rests (load b g o k) u s m m' r l =
      let x : ℕ = read_mem b m.ram m.rom g o in
      let h = within_then (reads b g o) (run_by u (k x) (from s tape m)) r in
      rw (← read_alike b g o s m m' h.0 l) (same_then (reads b g o) (rests (k x) u s m m' h.1 l))
  rests (store b g o v p) u s m m' r l =
      let n : Bytes = record { ram = write_mem b m.ram g o v; rom = m.rom; log = m.log } in
      let n' : Bytes = record { ram = write_mem b m'.ram g o v; rom = m'.rom; log = m'.log } in
      let d : ℕ = lost_bytes b m.ram g o in
      let h = within_then (writes b g o v d) (run_by u p (from s tape n)) r in
      rw (← lost_alike b m.ram m'.ram g o l.ram_long)
      (same_then (writes b g o v d) (rests p u s n n' h.1 (store_alike b g o v s m m' l)))
  rests (input b n k) u s m m' r l =
      ported_same (λ v w. then (takes b n v) (run_by u (k v) w)) (inputs_alike b n s m m' l) r
      (λ v t q q' l' r'. same_then (takes b n v) (rests (k v) u t q q' (within_then (takes b n v) (run_by u (k v) (from t tape q)) r').1 l'))
  rests (output b n v p) u s m m' r l =
      ported_same (λ x w. then (gives b n v) (run_by u p w)) (outputs_alike b n v s m m' l) r
      (λ x t q q' l' r'. same_then (gives b n v) (rests p u t q q' (within_then (gives b n v) (run_by u p (from t tape q)) r').1 l'))
  rests (halt b p) u s m m' r l = rests p u (with_halted s b) m m' r (other refl l)
  rests (cross c p) u s m m' r l = rests p u (crossed c s) m m' r (other (ap (λ q. q.log) (crossed_progress c s)) l)

-- ---- bytes that are not written stay

-- a byte of RAM is x
abbrev pub HoldsAt : ℕ → ℕ → World → Type 0
HoldsAt a x w = get_or w.ram a 0 ≡ x

module _ (a x : ℕ) where
  spares_then : {A : Type 0} (e : Event) (o : Outcome A) → Spares a (happened (then e o)) → Misses a e × Spares a (happened o)
  spares_then e (refused n t) h = h
  spares_then e (done b w t) h = h

  write_holds : (b : Bool) (r : List ℕ) (g o v d : ℕ) → Misses a (writes b g o v d) → get_or r a 0 ≡ x → get_or (write_mem b r g o v) a 0 ≡ x
  unfolding write_mem
  write_holds false r g o v d h e = get_or-set_other r (physical g o) a (v % 256) 0 h ∙ e
  write_holds true r g o v d h e =
      get_or-set_other (set r (physical g o) (v % 256)) (physical g (next o)) a (v / 256 % 256) 0 h.1
      ∙ get_or-set_other r (physical g o) a (v % 256) 0 h.0
      ∙ e

  record_holds : (w : World) (v k : ℕ) (b : List ℕ) → HoldsAt a x w → LeavesAccess (HoldsAt a x) (recording w v k b)
  unfolding recording
  record_holds w v k b h = go (leb (w.state.progress.log + length b) (length w.log))
    where
      go : (t : Bool) → LeavesAccess (HoldsAt a x) (pick t (through v (world (recorded w.state k (length b)) w.ram w.rom w.tape (write_log w.log w.state.progress.log b))) (short 6))
      go true = leaves_port h
      go false = none_port

  inputs_hold : (b : Bool) (n : ℕ) (w : World) → HoldsAt a x w → LeavesAccess (HoldsAt a x) (inputs b n w)
  unfolding inputs
  inputs_hold b n w h = go (leb (w.state.progress.tape + bytes_of b) (length w.tape))
    where
      go : (t : Bool) → LeavesAccess (HoldsAt a x) (pick t (recording w (taped b w.tape w.state.progress.tape) (bytes_of b) (record_bytes rule w.state.progress.count (key_of false b n) (taped b w.tape w.state.progress.tape))) (short 5))
      go true = record_holds w (taped b w.tape w.state.progress.tape) (bytes_of b) (record_bytes rule w.state.progress.count (key_of false b n) (taped b w.tape w.state.progress.tape)) h
      go false = none_port

  outputs_hold : (b : Bool) (n v : ℕ) (w : World) → HoldsAt a x w → LeavesAccess (HoldsAt a x) (outputs b n v w)
  unfolding outputs
  outputs_hold b n v w h = record_holds w v 0 (record_bytes rule w.state.progress.count (key_of true b n) v) h

  ported_hold : {A : Type 0} (f : ℕ → World → Outcome A) {r : Access} → LeavesAccess (HoldsAt a x) r → Spares a (happened (ported r f))
      → ((v : ℕ) (w : World) → HoldsAt a x w → Spares a (happened (f v w)) → Leaves (HoldsAt a x) (f v w)) → Leaves (HoldsAt a x) (ported r f)
  ported_hold f none_port s g = none_left
  ported_hold f (leaves_port {v = v} {w = w} h) s g = g v w h s

  pub spared : {A : Type 0} (p : Act A) (u : ℕ → Choice) (w : World) → Spares a (happened (run_by u p w)) → HoldsAt a x w → Leaves (HoldsAt a x) (run_by u p w)
  unfolding run_by
  spared (pure b) u w s h = leaves h
  spared (refuse n) u w s h = none_left
  spared (get k) u w s h = spared (k (file_of w.state.file)) u w s h
  spared (put n v p) u w s h = spared p u (with_state w (with_file w.state (written w.state.file n v))) s h
  spared (ask f k) u w s h =
      let b : Bool = flag_of (psw_of w.state) f in
      leaves_then (asks f) (spared (k b) u w (spares_then (asks f) (run_by u (k b) w) s).1 h)
  spared (copy b k) u w s h =
      let y : ℕ = wrap_of b (psw_of w.state) in
      leaves_then (copies b) (spared (k y) u w (spares_then (copies b) (run_by u (k y) w) s).1 h)
  spared (flags c p) u w s h =
      let v : World = with_state w (with_psw w.state (settled (u 0) c (psw_of w.state))) in
      leaves_then (changes c) (spared p (λ i. u (suc i)) v (spares_then (changes c) (run_by (λ i. u (suc i)) p v) s).1 h)
  spared (load b g o k) u w s h =
      let y : ℕ = read_mem b w.ram w.rom g o in
      leaves_then (reads b g o) (spared (k y) u w (spares_then (reads b g o) (run_by u (k y) w) s).1 h)
  spared (store b g o v p) u w s h =
      let w' : World = with_ram w (write_mem b w.ram g o v) in
      let d : ℕ = lost_bytes b w.ram g o in
      let q = spares_then (writes b g o v d) (run_by u p w') s in
      leaves_then (writes b g o v d) (spared p u w' q.1 (write_holds b w.ram g o v d q.0 h))
  spared (input b n k) u w s h =
      ported_hold (λ v w'. then (takes b n v) (run_by u (k v) w')) (inputs_hold b n w h) s
      (λ v w' h' s'. leaves_then (takes b n v) (spared (k v) u w' (spares_then (takes b n v) (run_by u (k v) w') s').1 h'))
  spared (output b n v p) u w s h =
      ported_hold (λ y w'. then (gives b n v) (run_by u p w')) (outputs_hold b n v w h) s
      (λ y w' h' s'. leaves_then (gives b n v) (spared p u w' (spares_then (gives b n v) (run_by u p w') s').1 h'))
  spared (halt b p) u w s h = spared p u (with_state w (with_halted w.state b)) s h
  spared (cross c p) u w s h = spared p u (with_state w (crossed c w.state)) s h
