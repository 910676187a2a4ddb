-- Trees that use no port, and trees that use at most one, with numbers in their widths.
use Prim.Native.Nat.{ℕ, suc}
use mathlib.Core.Path.{◌≡◌, refl, ◌∙◌}
use mathlib.Core.Bool.{Bool}
use mathlib.Core.List.{List, [], ◌∷◌}
use Rattle.sheet.specs.Width.{wrap_of}
use Rattle.sheet.specs.Psw.{Flag, Effect, Choice, flag_of, settled, Crossing}
use Rattle.sheet.specs.Registers.{File, file_of, written}
use Rattle.sheet.specs.Memory.{read_mem, write_mem, lost_bytes}
use Rattle.sheet.specs.World.{World, with_state, with_ram, psw_of, with_file, with_psw, with_halted, crossed}
use Rattle.sheet.specs.Act.{Act, pure, get, put, ask, copy, flags, load, store, input, output, halt, cross, ◌>>=◌, refuse}
use Rattle.sheet.specs.Handler.{Event, reads, writes, asks, copies, changes, Outcome, done, then, run_by}
use Rattle.theorems.specs.Rows.{rows_of}

-- ---- no port

pub data Quiet {A : Type 0} : Act A → Type 0 where
  q_pure : {a : A} → Quiet (pure a)
  q_get : {k : File → Act A} → ((r : File) → Quiet (k r)) → Quiet (get k)
  q_put : {n v : ℕ} {p : Act A} → Quiet p → Quiet (put n v p)
  q_ask : {f : Flag} {k : Bool → Act A} → ((b : Bool) → Quiet (k b)) → Quiet (ask f k)
  q_copy : {b : Bool} {k : ℕ → Act A} → ((v : ℕ) → Quiet (k v)) → Quiet (copy b k)
  q_flags : {c : Flag → Effect} {p : Act A} → Quiet p → Quiet (flags c p)
  q_load : {b : Bool} {g o : ℕ} {k : ℕ → Act A} → ((v : ℕ) → Quiet (k v)) → Quiet (load b g o k)
  q_store : {b : Bool} {g o v : ℕ} {p : Act A} → Quiet p → Quiet (store b g o v p)
  q_halt : {b : Bool} {p : Act A} → Quiet p → Quiet (halt b p)
  q_cross : {c : Crossing} {p : Act A} → Quiet p → Quiet (cross c p)

pub quiet_seq : {A B : Type 0} {p : Act A} {f : A → Act B} → Quiet p → ((a : A) → Quiet (f a)) → Quiet (p >>= f)
unfolding ◌>>=◌
quiet_seq {p = pure a} q_pure g = g a
quiet_seq {p = get k} (q_get h) g = q_get λ r. quiet_seq (h r) g
quiet_seq {p = put n v p} (q_put h) g = q_put (quiet_seq h g)
quiet_seq {p = ask f k} (q_ask h) g = q_ask λ b. quiet_seq (h b) g
quiet_seq {p = copy b k} (q_copy h) g = q_copy λ v. quiet_seq (h v) g
quiet_seq {p = flags c p} (q_flags h) g = q_flags (quiet_seq h g)
quiet_seq {p = load b s o k} (q_load h) g = q_load λ v. quiet_seq (h v) g
quiet_seq {p = store b s o v p} (q_store h) g = q_store (quiet_seq h g)
quiet_seq {p = halt b p} (q_halt h) g = q_halt (quiet_seq h g)
quiet_seq {p = cross c p} (q_cross h) g = q_cross (quiet_seq h g)
quiet_seq {A = A} {B = B} {p = refuse _} {f = f} x6 g = elim x6 [ ]
quiet_seq {A = A} {B = B} {p = input _ port _} {f = f} x8 g = elim x8 [ ]
quiet_seq {A = A} {B = B} {p = output _ port v _} {f = f} x9 g = elim x9 [ ]

-- its events make no record
pub data Silent {A : Type 0} : Outcome A → Type 0 where
  silent : {a : A} {v : World} {t : List Event} → ((n : ℕ) → rows_of n t ≡ []) → Silent (done a v t)

-- an event that is none to the log
silent_then : {A : Type 0} (e : Event) {o : Outcome A} → ((n : ℕ) (t : List Event) → rows_of n (e ∷ t) ≡ rows_of n t) → Silent o → Silent (then e o)
silent_then e h (silent {t = t} g) = silent λ n. h n t ∙ g n

pub quiet_silent : {A : Type 0} (p : Act A) → Quiet p → (u : ℕ → Choice) (w : World) → Silent (run_by u p w)
unfolding run_by rows_of
quiet_silent (pure a) q_pure u w = silent λ n. refl
quiet_silent (get k) (q_get h) u w = quiet_silent (k (file_of w.state.file)) (h (file_of w.state.file)) u w
quiet_silent (put n v p) (q_put h) u w = quiet_silent p h u (with_state w (with_file w.state (written w.state.file n v)))
quiet_silent (ask f k) (q_ask h) u w = silent_then (asks f) (λ n t. refl) (quiet_silent (k (flag_of (psw_of w.state) f)) (h _) u w)
quiet_silent (copy b k) (q_copy h) u w = silent_then (copies b) (λ n t. refl) (quiet_silent (k (wrap_of b (psw_of w.state))) (h _) u w)
quiet_silent (flags c p) (q_flags h) u w =
    silent_then (changes c) (λ n t. refl) (quiet_silent p h (λ i. u (suc i)) (with_state w (with_psw w.state (settled (u 0) c (psw_of w.state)))))
quiet_silent (load b g o k) (q_load h) u w = silent_then (reads b g o) (λ n t. refl) (quiet_silent (k (read_mem b w.ram w.rom g o)) (h _) u w)
quiet_silent (store b g o v p) (q_store h) u w = silent_then (writes b g o v (lost_bytes b w.ram g o)) (λ n t. refl) (quiet_silent p h u (with_ram w (write_mem b w.ram g o v)))
quiet_silent (halt b p) (q_halt h) u w = quiet_silent p h u (with_state w (with_halted w.state b))
quiet_silent (cross c p) (q_cross h) u w = quiet_silent p h u (with_state w (crossed c w.state))
quiet_silent {A = A} (refuse _) x'' u w = elim x'' [ ]
quiet_silent {A = A} (input _ port _) x4 u w = elim x4 [ ]
quiet_silent {A = A} (output _ port v _) x5 u w = elim x5 [ ]
