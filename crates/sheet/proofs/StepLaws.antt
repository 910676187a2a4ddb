-- What an accepted call says of the world that it began in, and what it leaves.
use Prim.Native.Nat.{ℕ, ◌+◌}
use mathlib.Core.Path.{◌≡◌, refl}
use mathlib.Core.Bool.{Bool, true, false, not, ◌&&◌, and-eq-true_iff}
use mathlib.Core.List.{List}
use native.Mathlib.Nat.{min-le_right}
use native.Mathlib.Omega.{arith}
use lib.ListN.{length}
use lib.Dec.{leb}
use borrow.Author.Tests.{leb-true}
use Rattle.sheet.specs.declared.Instr.{Instr}
use Rattle.sheet.specs.Width.{pick}
use Rattle.sheet.specs.Psw.{IE, Choice, flag_of, fixed_of}
use Rattle.sheet.specs.Log.{ceiling, rule}
use Rattle.sheet.specs.World.{World, psw_of}
use Rattle.sheet.specs.Handler.{Event, Outcome, refused, done, run_by}
use Rattle.sheet.specs.Reading.{Read, known, unknown}
use Rattle.sheet.specs.Step.{fits, psw_good, places_good, sound, refusal, stepping, starting, decoded, awake, step_by, interrupting, interrupt_by, instruction_in}
use Rattle.sheet.proofs.Lent.{Leaves, leaves, Sound, Good, stays_good}

-- an outcome that is refused is not done
pub no_done : {n : ℕ} {s t : List Event} {v : World} → ◌≡◌ {A = Outcome Unit} (refused n s) (done tt v t) → ⊥
no_done e = let z : ◌≡◌ {A = ℕ} 0 1 = cc in omega arith

-- ---- what was accepted

pub record Stepped (u : ℕ → Choice) (w v : World) (t : List Event) : Type 0 where
  pub instr : Instr
  pub size : ℕ
  pub fit : fits w ≡ true
  pub good : sound w ≡ true
  pub up : w.state.marks.halted ≡ false
  pub read : instruction_in w ≡ known instr size
  pub ran : run_by u (stepping instr size) (starting instr w) ≡ done tt v t

pub begins : (u : ℕ → Choice) (w v : World) (t : List Event) → step_by u w ≡ done tt v t → Stepped u w v t
unfolding step_by awake decoded
begins u w v t e = go (fits w) (sound w) w.state.marks.halted (instruction_in w) refl refl refl refl e
  where
    go : (f s h : Bool) (r : Read Instr) → fits w ≡ f → sound w ≡ s → w.state.marks.halted ≡ h → instruction_in w ≡ r
        → pick f (pick s (pick h (refusal 8) (decoded u r w)) (refusal 2)) (refusal 1) ≡ done tt v t → Stepped u w v t
    go true true false (known i n) a b c d q = record { instr = i; size = n; fit = a; good = b; up = c; read = d; ran = q }
    go true true false (unknown k n) a b c d q = absurd (no_done q)
    go true true true r a b c d q = absurd (no_done q)
    go true false h r a b c d q = absurd (no_done q)
    go false s h r a b c d q = absurd (no_done q)

pub record Interrupted (u : ℕ → Choice) (vector : ℕ) (maskable : Bool) (w v : World) (t : List Event) : Type 0 where
  pub fit : fits w ≡ true
  pub good : sound w ≡ true
  pub unloaded : w.state.marks.loaded ≡ false
  pub unmasked : (maskable && not (flag_of (psw_of w.state) IE)) ≡ false
  pub ran : run_by u (interrupting vector) w ≡ done tt v t

pub enters : (u : ℕ → Choice) (vector : ℕ) (maskable : Bool) (w v : World) (t : List Event) → interrupt_by u vector maskable w ≡ done tt v t
    → Interrupted u vector maskable w v t
unfolding interrupt_by
enters u vector maskable w v t e = go (fits w) (sound w) w.state.marks.loaded (maskable && not (flag_of (psw_of w.state) IE)) refl refl refl refl e
  where
    go : (f s l m : Bool) → fits w ≡ f → sound w ≡ s → w.state.marks.loaded ≡ l → (maskable && not (flag_of (psw_of w.state) IE)) ≡ m
        → pick f (pick s (pick l (refusal 13) (pick m (refusal 7) (run_by u (interrupting vector) w))) (refusal 2)) (refusal 1) ≡ done tt v t → Interrupted u vector maskable w v t
    go true true false false a b c d q = record { fit = a; good = b; unloaded = c; unmasked = d; ran = q }
    go true true false true a b c d q = absurd (no_done q)
    go true true true m a b c d q = absurd (no_done q)
    go true false l m a b c d q = absurd (no_done q)
    go false s l m a b c d q = absurd (no_done q)

-- ---- what is left

-- number 2's test, as a record
pub sound_is : (w : World) → length w.state.file ≡ 14 → sound w ≡ true → Sound w
unfolding sound
sound_is w n e =
    let (psw, e₁) = (and-eq-true_iff (psw_good w.state) _).0 e in
    let (a, md) = (and-eq-true_iff (fixed_of (psw_of w.state)) _).0 psw in
    let (g, m) = (and-eq-true_iff (places_good w.state w.tape w.log) _).0 e₁ in
    let (b, e₂) = (and-eq-true_iff (leb w.state.progress.tape (length w.tape)) _).0 g in
    let (c, d) = (and-eq-true_iff (leb w.state.progress.log (length w.log)) _).0 e₂ in
    record { whole = n; fixed = a; mode = md; tape_in = leb-true _ _ b; log_in = leb-true _ _ c; count_in = leb-true _ _ d }

pub starting_sound : (i : Instr) (w : World) → Sound w → Sound (starting i w)
unfolding starting
starting_sound i w s = record { whole = s.whole; fixed = s.fixed; mode = s.mode; tape_in = s.tape_in; log_in = s.log_in; count_in = min-le_right (w.state.progress.count + 1) (ceiling rule) }

good_of : {w v : World} {t : List Event} → Leaves {A = Unit {0}} (Good w) (done tt v t) → Good w v
good_of (leaves g) = g

-- an accepted call hands on a sound state and the same lent buffers
module _ (u : ℕ → Choice) (w v : World) (t : List Event) (n : length w.state.file ≡ 14) where
  pub step_leaves : step_by u w ≡ done tt v t → Good w v
  unfolding starting
  step_leaves e =
      let a = begins u w v t e in
      let s = starting_sound a.instr w (sound_is w n a.good) in
      let g = good_of (rw a.ran at (stays_good (stepping a.instr a.size) u (starting a.instr w) s)) in
      record { lent = record { ram_long = g.lent.ram_long; rom_same = g.lent.rom_same; tape_same = g.lent.tape_same; log_long = g.lent.log_long }; sound = g.sound }

  pub interrupt_leaves : (vector : ℕ) (maskable : Bool) → interrupt_by u vector maskable w ≡ done tt v t → Good w v
  interrupt_leaves vector maskable e =
      let a = enters u vector maskable w v t e in
      good_of (rw a.ran at (stays_good (interrupting vector) u w (sound_is w n a.good)))
