-- Trees that never enter the 8080 mode: they have no crossing of BRKEM's.
use Prim.Native.Nat.{ℕ}
use mathlib.Core.Path.{◌≡◌}
use mathlib.Core.Bool.{Bool, true, false}
use Rattle.sheet.specs.Psw.{Flag, Effect, Crossing, to_native, to_cards, back, stored}
use Rattle.sheet.specs.Registers.{File}
use Rattle.sheet.specs.Act.{Act, pure, refuse, get, put, ask, copy, flags, load, store, input, output, halt, cross, ◌>>=◌}

-- the crossing that enters it
abbrev pub enters : Crossing → Bool
enters to_native = false
enters to_cards = true
enters back = false
enters (stored b) = false

pub data Tame {A : Type 0} : Act A → Type 0 where
  t_pure : {a : A} → Tame (pure a)
  t_refuse : {n : ℕ} → Tame (refuse n)
  t_get : {k : File → Act A} → ((r : File) → Tame (k r)) → Tame (get k)
  t_put : {n v : ℕ} {p : Act A} → Tame p → Tame (put n v p)
  t_ask : {f : Flag} {k : Bool → Act A} → ((b : Bool) → Tame (k b)) → Tame (ask f k)
  t_copy : {b : Bool} {k : ℕ → Act A} → ((v : ℕ) → Tame (k v)) → Tame (copy b k)
  t_flags : {c : Flag → Effect} {p : Act A} → Tame p → Tame (flags c p)
  t_load : {b : Bool} {g o : ℕ} {k : ℕ → Act A} → ((v : ℕ) → Tame (k v)) → Tame (load b g o k)
  t_store : {b : Bool} {g o v : ℕ} {p : Act A} → Tame p → Tame (store b g o v p)
  t_input : {b : Bool} {n : ℕ} {k : ℕ → Act A} → ((v : ℕ) → Tame (k v)) → Tame (input b n k)
  t_output : {b : Bool} {n v : ℕ} {p : Act A} → Tame p → Tame (output b n v p)
  t_halt : {b : Bool} {p : Act A} → Tame p → Tame (halt b p)
  t_cross : {c : Crossing} {p : Act A} → enters c ≡ false → Tame p → Tame (cross c p)

pub tame_seq : {A B : Type 0} {p : Act A} {f : A → Act B} → Tame p → ((a : A) → Tame (f a)) → Tame (p >>= f)
unfolding ◌>>=◌
tame_seq {p = pure a} t_pure g = g a
tame_seq {p = refuse n} t_refuse g = t_refuse
tame_seq {p = get k} (t_get h) g = t_get λ r. tame_seq (h r) g
tame_seq {p = put n v p} (t_put h) g = t_put (tame_seq h g)
tame_seq {p = ask f k} (t_ask h) g = t_ask λ b. tame_seq (h b) g
tame_seq {p = copy b k} (t_copy h) g = t_copy λ v. tame_seq (h v) g
tame_seq {p = flags c p} (t_flags h) g = t_flags (tame_seq h g)
tame_seq {p = load b s o k} (t_load h) g = t_load λ v. tame_seq (h v) g
tame_seq {p = store b s o v p} (t_store h) g = t_store (tame_seq h g)
tame_seq {p = input b n k} (t_input h) g = t_input λ v. tame_seq (h v) g
tame_seq {p = output b n v p} (t_output h) g = t_output (tame_seq h g)
tame_seq {p = halt b p} (t_halt h) g = t_halt (tame_seq h g)
tame_seq {p = cross c p} (t_cross e h) g = t_cross e (tame_seq h g)
