-- Trees that leave SP, IX, IY, AH and the segment registers, from every world: one rule for each node and each way of joining them.
use Prim.Native.Nat.{ℕ, ◌+◌, ◌*◌, ◌/◌, ◌%◌, ◌<◌}
use mathlib.Core.Path.{◌≡◌, refl, sym, ap, ◌∙◌}
use mathlib.Core.Bool.{Bool, true, false, true≢false}
use mathlib.Core.List.{List, [], ◌∷◌}
use mathlib.Core.Logic.{◌≢◌}
use native.Mathlib.Decide.{dec_lt}
use native.Mathlib.Omega.{arith}
use lib.ListN.{length, get_or, set}
use lib.Seq.{get_or-set_same, get_or-set_other, set_out}
use lib.Dec.{leb, ltb}
use Rattle.sheet.specs.declared.Bus.{Bus}
use Rattle.sheet.specs.Width.{pick, bytes_of}
use Rattle.sheet.specs.Psw.{Flag, Effect}
use Rattle.sheet.specs.Registers.{AW, PSW, AL, File, file_of, reg_word}
use Rattle.sheet.specs.World.{World}
use Rattle.sheet.specs.Act.{Act, pure, get, flags, ◌>>=◌, registers, ◌≔◌, flag, psw, peek, poke, inp, out, halted}
use Rattle.sheet.specs.Handler.{Access, recording, inputs, outputs, Event, takes, gives, done, then, ported, run, run_by}
use Rattle.sheet.specs.Contract.{Seen, stops, ends, seen, exec}
use Rattle.sheet.specs.Operand.{set_reg}
use Rattle.sheet.proofs.Rules.{plus, and_then, exec_bind}
use Rattle.sheet.proofs.Lent.{LeavesAccess, none_port, leaves_port}
use Rattle.log_record.proofs.Picked.{picked}
use Rattle.theorems.specs.Modes.{Unmapped, is_sp, is_ix, is_iy, is_ds1, is_ps, is_ss, is_ds0, Unaffected}

-- ---- registers

pub unaffected : (f : List ℕ) → Unaffected f f
unaffected f = record { same = λ n u. refl; ah = refl }

pub unaffected_then : {f g h : List ℕ} → Unaffected f g → Unaffected g h → Unaffected f h
unaffected_then x y = record { same = λ n u. y.same n u ∙ x.same n u; ah = y.ah ∙ x.ah }

-- CW, DW, BW, BP, PC and PSW are the words that may change
abbrev pub mapped : ℕ → Bool
mapped n = get_or (false ∷ true ∷ true ∷ true ∷ false ∷ true ∷ false ∷ false ∷ false ∷ false ∷ false ∷ false ∷ true ∷ true ∷ []) n false

not_mapped : {n : ℕ} → Unmapped n → mapped n ≡ false
not_mapped is_sp = refl
not_mapped is_ix = refl
not_mapped is_iy = refl
not_mapped is_ds1 = refl
not_mapped is_ps = refl
not_mapped is_ss = refl
not_mapped is_ds0 = refl

differ : (m n : ℕ) → mapped m ≡ false → mapped n ≡ true → m ≢ n
differ m n h k e = true≢false (sym k ∙ ap (λ (x : ℕ). mapped x) (sym e) ∙ h)

set_spares : (f : List ℕ) (n v : ℕ) → mapped n ≡ true → Unaffected f (set f n v)
set_spares f n v h = record {
  same = λ m u. get_or-set_other f n m v 0 (differ m n (not_mapped u) h);
  ah = ap (λ (x : ℕ). x / 256) (get_or-set_other f n AW v 0 (differ AW n refl h));
}

-- AL alone
al_set : (x v : ℕ) → (x / 256 * 256 + v % 256) / 256 ≡ x / 256
al_set x v = omega arith

al_spares : (f : List ℕ) (v : ℕ) → Unaffected f (set f AW (get_or f AW 0 / 256 * 256 + v % 256))
al_spares f v = record { same = λ m u. get_or-set_other f AW m _ 0 (other u); ah = go (dec_lt AW (length f)) }
  where
    other : {m : ℕ} → Unmapped m → m ≢ AW
    other is_sp e = omega arith
    other is_ix e = omega arith
    other is_iy e = omega arith
    other is_ds1 e = omega arith
    other is_ps e = omega arith
    other is_ss e = omega arith
    other is_ds0 e = omega arith

    go : Dec (AW < length f) → get_or (set f AW (get_or f AW 0 / 256 * 256 + v % 256)) AW 0 / 256 ≡ get_or f AW 0 / 256
    go (yes l) = ap (λ (x : ℕ). x / 256) (get_or-set_same f AW (get_or f AW 0 / 256 * 256 + v % 256) 0 l) ∙ al_set (get_or f AW 0) v
    go (no l) = ap (λ (g : List ℕ). get_or g AW 0 / 256) (set_out f AW (get_or f AW 0 / 256 * 256 + v % 256) (omega arith))

-- ---- trees

pub data Left {A : Type 0} (f : List ℕ) : Seen A → Type 0 where
  left_so : {a : A} {w : World} {m : Bus} → Unaffected f w.state.file → Left f (ends a w m)
  refused : {k : ℕ} → Left f (stops k)

pub record Spares (A : Type 0) (p : Act A) : Type 0 where
  pub at : (w : World) → Left w.state.file (exec p w)

pub plus_left : {A : Type 0} {f : List ℕ} (n : Bus) (e : Seen A) → Left f e → Left f (plus n e)
plus_left n (ends a w m) (left_so r) = left_so r
plus_left n (stops k) refused = refused

since : {A : Type 0} {f g : List ℕ} → Unaffected f g → (e : Seen A) → Left g e → Left f e
since r (ends a w m) (left_so q) = left_so (unaffected_then r q)
since r (stops k) refused = refused

and_then_lem : {A B : Type 0} {f : List ℕ} (e : Seen A) (g : A → World → Seen B) → Left f e → ((a : A) (v : World) → Left v.state.file (g a v)) → Left f (and_then e g)
and_then_lem (ends a v n) g (left_so r) h = plus_left n (g a v) (since r (g a v) (h a v))
and_then_lem (stops k) g refused h = refused

pub seq : {A B : Type 0} {p : Act A} {f : A → Act B} → Spares A p → ((a : A) → Spares B (f a)) → Spares B (p >>= f)
seq {p = p} {f = f} x y = record { at = λ w. rw (exec_bind p f w) (and_then_lem (exec p w) (λ a v. exec (f a) v) (x.at w) (λ a v. (y a).at v)) }

pub either : {A : Type 0} {p q : Act A} (c : Bool) → Spares A p → Spares A q → Spares A (pick c p q)
either {A} = picked (λ (r : Act A). Spares A r)

-- ---- nodes

pub of_pure : {A : Type 0} {a : A} → Spares A (pure a)
unfolding exec run run_by
of_pure = record { at = λ w. left_so (unaffected _) }

pub of_get : {A : Type 0} {k : File → Act A} → ((r : File) → Spares A (k r)) → Spares A (get k)
unfolding exec run run_by
of_get h = record { at = λ w. (h (file_of w.state.file)).at w }

pub of_registers : Spares File registers
of_registers = of_get λ r. of_pure

pub of_flag : {f : Flag} → Spares Bool (flag f)
unfolding exec run run_by
of_flag = record { at = λ w. left_so (unaffected _) }

pub of_psw : {b : Bool} → Spares ℕ (psw b)
unfolding exec run run_by
of_psw = record { at = λ w. left_so (unaffected _) }

pub of_flags : {c : Flag → Effect} → Spares Unit (flags c (pure tt))
unfolding exec run run_by
of_flags = record { at = λ w. left_so (set_spares w.state.file PSW _ refl) }

pub of_peek : {b : Bool} {g o : ℕ} → Spares ℕ (peek b g o)
unfolding exec run run_by
of_peek = record { at = λ w. left_so (unaffected _) }

pub of_poke : {b : Bool} {g o v : ℕ} → Spares Unit (poke b g o v)
unfolding exec run run_by
of_poke = record { at = λ w. left_so (unaffected _) }

pub of_halted : {b : Bool} → Spares Unit (halted b)
unfolding exec run run_by
of_halted = record { at = λ w. left_so (unaffected _) }

-- a word that may change; and AL
pub of_set : {n v : ℕ} → mapped n ≡ true → Spares Unit (n ≔ v)
unfolding exec run run_by
of_set {n} {v} h = record { at = λ w. left_so (picked (Unaffected w.state.file) (ltb n PSW) (set_spares w.state.file n v h) (unaffected _)) }

pub of_al : (v : ℕ) → Spares Unit (set_reg false AL v)
unfolding set_reg reg_word exec run run_by ◌>>=◌
of_al v = record { at = λ w. left_so (al_spares w.state.file v) }

-- ---- ports

abbrev Recorded : World → Access → Type 0
Recorded w r = LeavesAccess (λ v. Unaffected w.state.file v.state.file) r

recording_spares : (w : World) (v m : ℕ) (b : List ℕ) → Recorded w (recording w v m b)
unfolding recording
recording_spares w v m b = picked (λ (r : Access). Recorded w r) (leb (w.state.progress.log + length b) (length w.log)) (leaves_port (unaffected _)) none_port

inputs_spares : (b : Bool) (n : ℕ) (w : World) → Recorded w (inputs b n w)
unfolding inputs
inputs_spares b n w = picked (λ (r : Access). Recorded w r) (leb (w.state.progress.tape + bytes_of b) (length w.tape)) (recording_spares w _ _ _) none_port

outputs_spares : (b : Bool) (n v : ℕ) (w : World) → Recorded w (outputs b n v w)
unfolding outputs
outputs_spares b n v w = recording_spares w _ _ _

ported_spares : {A : Type 0} (w : World) (e : ℕ → Event) (a : ℕ → A) {r : Access} → Recorded w r → Left w.state.file (seen (ported r (λ v x. then (e v) (done (a v) x []))))
ported_spares w e a none_port = refused
ported_spares w e a (leaves_port h) = left_so h

pub of_inp : {b : Bool} {n : ℕ} → Spares ℕ (inp b n)
unfolding exec run run_by
of_inp {b} {n} = record { at = λ w. ported_spares w (takes b n) (λ v. v) (inputs_spares b n w) }

pub of_out : {b : Bool} {n v : ℕ} → Spares Unit (out b n v)
unfolding exec run run_by
of_out {b} {n} {v} = record { at = λ w. ported_spares w (λ x. gives b n v) (λ x. tt) (outputs_spares b n v w) }
