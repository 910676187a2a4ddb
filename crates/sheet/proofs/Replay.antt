-- What a tree leaves in RAM, log and places, told by its events alone. Assumes nothing.
use Prim.Native.Nat.{ℕ, suc, ◌+◌}
use mathlib.Core.Path.{◌≡◌, refl, subst}
use mathlib.Core.Bool.{Bool, true, false}
use mathlib.Core.List.{List, [], ◌∷◌}
use lib.ListN.{length}
use lib.Dec.{leb}
use Rattle.sheet.specs.Width.{pick, bytes_of, wrap_of}
use Rattle.sheet.specs.Psw.{Choice, flag_of, settled}
use Rattle.sheet.specs.Registers.{file_of, written}
use Rattle.sheet.specs.Memory.{read_mem, write_mem, lost_bytes}
use Rattle.sheet.specs.Log.{rule, key_of, record_bytes, write_log}
use Rattle.sheet.specs.World.{World, world, with_state, with_ram, psw_of, with_file, with_psw, with_halted, crossed, recorded}
use Rattle.sheet.specs.Act.{Act, pure, refuse, get, put, ask, copy, flags, load, store, input, output, halt, cross}
use Rattle.sheet.specs.Handler.{Access, short, through, recording, taped, inputs, outputs, Event, reads, writes, takes, gives, asks, copies, changes, Outcome, refused, done, then, ported, run_by}
use Rattle.sheet.proofs.Lent.{crossed_progress}

-- what events can change
pub record Track : Type 0 where
  pub ram : List ℕ
  pub log : List ℕ
  pub at : ℕ
  pub tape : ℕ
  pub count : ℕ

abbrev pub track_of : World → Track
track_of w = record { ram = w.ram; log = w.log; at = w.state.progress.log; tape = w.state.progress.tape; count = w.state.progress.count }

-- the record b, with m tape bytes taken
abbrev pub logged : List ℕ → ℕ → Track → Track
logged b m x = record { ram = x.ram; log = write_log x.log x.at b; at = x.at + length b; tape = x.tape + m; count = 0 }

abbrev pub effect : Event → Track → Track
effect (reads b g o) x = x
effect (writes b g o v d) x = record { ram = write_mem b x.ram g o v; log = x.log; at = x.at; tape = x.tape; count = x.count }
effect (takes b n v) x = logged (record_bytes rule x.count (key_of false b n) v) (bytes_of b) x
effect (gives b n v) x = logged (record_bytes rule x.count (key_of true b n) v) 0 x
effect (asks f) x = x
effect (copies b) x = x
effect (changes c) x = x

unfoldable pub replay : List Event → Track → Track
replay [] x = x
replay (e ∷ t) x = replay t (effect e x)

pub data Replays {A : Type 0} (x : Track) : Outcome A → Type 0 where
  none_done : {n : ℕ} {t : List Event} → Replays x (refused n t)
  replays : {a : A} {v : World} {t : List Event} → track_of v ≡ replay t x → Replays x (done a v t)

then_replays : {A : Type 0} (e : Event) {x : Track} {o : Outcome A} → Replays (effect e x) o → Replays x (then e o)
unfolding replay
then_replays e none_done = none_done
then_replays e (replays h) = replays h

data Through (e : ℕ → Event) (x : Track) : Access → Type 0 where
  stuck : {n : ℕ} → Through e x (short n)
  gone : {v : ℕ} {w : World} → track_of w ≡ effect (e v) x → Through e x (through v w)

inputs_through : (b : Bool) (n : ℕ) (w : World) → Through (λ v. takes b n v) (track_of w) (inputs b n w)
unfolding inputs recording
inputs_through b n w = go (leb (w.state.progress.tape + bytes_of b) (length w.tape))
  where
    v : ℕ
    v = taped b w.tape w.state.progress.tape

    r : List ℕ
    r = record_bytes rule w.state.progress.count (key_of false b n) v

    in_log : (t : Bool) → Through (λ v. takes b n v) (track_of w) (pick t (through v (world (recorded w.state (bytes_of b) (length r)) w.ram w.rom w.tape (write_log w.log w.state.progress.log r))) (short 6))
    in_log true = gone refl
    in_log false = stuck

    go : (t : Bool) → Through (λ v. takes b n v) (track_of w) (pick t (recording w v (bytes_of b) r) (short 5))
    go true = in_log (leb (w.state.progress.log + length r) (length w.log))
    go false = stuck

-- an output hands on its own value
outputs_through : (b : Bool) (n v : ℕ) (w : World) → Through (λ x. gives b n v) (track_of w) (outputs b n v w)
unfolding outputs recording
outputs_through b n v w = go (leb (w.state.progress.log + length r) (length w.log))
  where
    r : List ℕ
    r = record_bytes rule w.state.progress.count (key_of true b n) v

    go : (t : Bool) → Through (λ x. gives b n v) (track_of w) (pick t (through v (world (recorded w.state 0 (length r)) w.ram w.rom w.tape (write_log w.log w.state.progress.log r))) (short 6))
    go true = gone refl
    go false = stuck

ported_replays : {A : Type 0} (e : ℕ → Event) {x : Track} (f : ℕ → World → Outcome A) {r : Access} → Through e x r
    → ((v : ℕ) (w : World) → Replays (track_of w) (f v w)) → Replays x (ported r (λ v w. then (e v) (f v w)))
ported_replays e f stuck g = none_done
ported_replays e f (gone {v = v} {w = w} h) g = then_replays (e v) (subst (λ y. Replays y (f v w)) h (g v w))

pub replays_all : {A : Type 0} (p : Act A) (u : ℕ → Choice) (w : World) → Replays (track_of w) (run_by u p w)
unfolding run_by replay
replays_all (pure a) u w = replays refl
replays_all (refuse n) u w = none_done
replays_all (get k) u w = replays_all (k (file_of w.state.file)) u w
replays_all (put n v p) u w = replays_all p u (with_state w (with_file w.state (written w.state.file n v)))
replays_all (ask f k) u w = then_replays (asks f) (replays_all (k (flag_of (psw_of w.state) f)) u w)
replays_all (copy b k) u w = then_replays (copies b) (replays_all (k (wrap_of b (psw_of w.state))) u w)
replays_all (flags c p) u w =
    then_replays (changes c) (replays_all p (λ i. u (suc i)) (with_state w (with_psw w.state (settled (u 0) c (psw_of w.state)))))
replays_all (load b g o k) u w = then_replays (reads b g o) (replays_all (k (read_mem b w.ram w.rom g o)) u w)
replays_all (store b g o v p) u w = then_replays (writes b g o v (lost_bytes b w.ram g o)) (replays_all p u (with_ram w (write_mem b w.ram g o v)))
replays_all (input b n k) u w = ported_replays (λ v. takes b n v) (λ v w'. run_by u (k v) w') (inputs_through b n w) (λ v w'. replays_all (k v) u w')
replays_all (output b n v p) u w = ported_replays (λ x. gives b n v) (λ x w'. run_by u p w') (outputs_through b n v w) (λ x w'. replays_all p u w')
replays_all (halt b p) u w = replays_all p u (with_state w (with_halted w.state b))
replays_all (cross c p) u w =
    subst (λ q. Replays (record { ram = w.ram; log = w.log; at = q.log; tape = q.tape; count = q.count }) (run_by u p (with_state w (crossed c w.state))))
    (crossed_progress c w.state) (replays_all p u (with_state w (crossed c w.state)))
