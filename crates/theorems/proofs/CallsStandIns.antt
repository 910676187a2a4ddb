-- What no stand-in may satisfy: of an engine that keeps the promises of step, of an interrupt call or of reading, none of these things is true.
use Prim.Native.Nat.{ℕ, zero, suc, ◌≤◌}
use mathlib.Core.Path.{◌≡◌, refl, sym, ◌∙◌, ap}
use mathlib.Core.Bool.{Bool, true, false, and-eq-true_iff}
use mathlib.Core.List.{List, [], ◌∷◌}
use native.Mathlib.Omega.{arith}
use lib.ListN.{get_or}
use lib.Dec.{leb, lit≤}
use borrow.Author.Tests.{leb-true}
use Rattle.sheet.specs.declared.State.{State}
use Rattle.sheet.specs.declared.Bus.{Bus}
use Rattle.sheet.specs.declared.Entry.{Entry}
use Rattle.sheet.specs.declared.Entry.TheVariants as entry
use Rattle.sheet.specs.Width.{wrap_of}
use Rattle.sheet.specs.Psw.{settled, in_mode}
use Rattle.sheet.specs.Registers.{AW, SP}
use Rattle.sheet.specs.Memory.{byte_at, read_mem, write_mem, bus_cycles, lost, lost_bytes}
use Rattle.sheet.specs.Act.{◌>>=◌}
use Rattle.sheet.specs.World.{World, crossed}
use Rattle.sheet.specs.Handler.{Event, done, run_by, nothing, tally}
use Rattle.sheet.specs.Contract.{Report, report}
use Rattle.sheet.specs.declared.GapRule.{GapRule}
use Rattle.sheet.specs.Log.{entry_of, read_log, entry_number}
use Rattle.sheet.specs.Traps.{push, push_psw, push_ps_pc, jump_far, save, vectored, trap}
use Rattle.sheet.specs.Traps as traps
use Rattle.sheet.specs.Step.{fits, sound, awake, step_by, step, step_report, interrupting, interrupt_by, interrupt, interrupt_report}
use Rattle.sheet.proofs.SmallTable.{small_table}
use Rattle.log_record.proofs.Vectors.{sample_first}
use Rattle.theorems.specs.Bounds.{Bytes}
use Rattle.sheet.specs.Lendable.{every, lendable}
use Rattle.mach_tally.specs.Sums.{cycles_only}
use Rattle.theorems.specs.StandIns.{MeetsStep, MeetsInterrupt, MeetsReader, number_of, world_of, bus_of, subtracting, subtracted, adjusting, adjusted, asleep, callable, entered, masked, sample_log}

-- ---- buffers

-- such buffers hold bytes
pub bytes_of : (l : List ℕ) → every 255 l ≡ true → Bytes l
bytes_of [] e i = lit≤ tt
bytes_of (x ∷ l) e zero = leb-true x 255 ((and-eq-true_iff (leb x 255) (every 255 l)).0 e).0
bytes_of (x ∷ l) e (suc i) = bytes_of l ((and-eq-true_iff (leb x 255) (every 255 l)).0 e).1 i

-- ---- two reports

-- what they share, where the same is said of both
pub shared : {R A : Type 0} (part : R → A) {x y r s : R} {a : A} → x ≡ r → y ≡ s → part x ≡ a → part y ≡ a → part r ≡ part s
shared part e f p q = ap part (sym e) ∙ p ∙ sym q ∙ ap part f

-- ---- a halted machine

pub asleep_refused : step_report asleep ≡ report 8 asleep nothing
unfolding step_report step step_by awake fits sound
asleep_refused = refl

-- ---- step

module _ (engine : World → Report) (meets : MeetsStep engine) where
  at_subtracting : engine subtracting ≡ report 0 subtracted (cycles_only 3)
  at_subtracting = sym (meets subtracting refl) ∙ small_table.sub4s

  at_adjusting : engine adjusting ≡ report 0 adjusted (cycles_only 0)
  at_adjusting = sym (meets adjusting refl) ∙ small_table.adj4a

  at_asleep : engine asleep ≡ report 8 asleep nothing
  at_asleep = sym (meets asleep refl) ∙ asleep_refused

  -- an engine that always refuses
  pub not_always_refusing : ((w : World) → lendable w ≡ true → number_of (engine w) ≡ 0 → ⊥) → ⊥
  not_always_refusing h = h subtracting refl (rw at_subtracting)

  -- one that never does
  pub not_always_accepting : ((w : World) → lendable w ≡ true → number_of (engine w) ≡ 0) → ⊥
  not_always_accepting h =
      let z : number_of (engine asleep) ≡ 8 = rw at_asleep in
      let y = h asleep refl in
      omega arith

  -- one that does nothing
  pub not_idle : ((w : World) → lendable w ≡ true → world_of (engine w) ≡ w) → ⊥
  not_idle h =
      let y : adjusted ≡ adjusting = ap world_of (sym at_adjusting) ∙ h adjusting refl in
      let x : ◌≡◌ {A = ℕ} 0x61 0xfb = ap (λ (w : World). get_or w.state.file AW 0) y in
      omega arith

  -- one with a fixed answer, in whatever part
  pub not_fixed_number : (n : ℕ) → ((w : World) → lendable w ≡ true → number_of (engine w) ≡ n) → ⊥
  not_fixed_number n h = let z : ◌≡◌ {A = ℕ} 8 0 = shared number_of at_asleep at_adjusting (h asleep refl) (h adjusting refl) in omega arith

  pub not_fixed_state : (s : State) → ((w : World) → lendable w ≡ true → (world_of (engine w)).state ≡ s) → ⊥
  not_fixed_state s h =
      let y = shared (λ r. (world_of r).state) at_adjusting at_subtracting (h adjusting refl) (h subtracting refl) in
      let x : ◌≡◌ {A = ℕ} 0x61 0 = ap (λ (t : State). get_or t.file AW 0) y in
      omega arith

  -- one with invented cycle counts: they are the sum over the definition's events
  pub cycles_counted : (w v : World) (t : List Event) → lendable w ≡ true → step w ≡ done tt v t → bus_of (engine w) ≡ tally t
  unfolding step_report
  cycles_counted w v t l e = rw (← (meets w l), e)

  pub not_fixed_cycles : (b : Bus) → ((w : World) → lendable w ≡ true → bus_of (engine w) ≡ b) → ⊥
  not_fixed_cycles b h =
      let x : ◌≡◌ {A = ℕ} 0 3 = ap (λ (n : Bus). n.cycles) (shared bus_of at_adjusting at_subtracting (h adjusting refl) (h subtracting refl)) in
      omega arith

-- ---- an interrupt call

pub takes_it : interrupt_report 0 false callable ≡ report 0 entered (cycles_only 5)
unfolding interrupt_report interrupt interrupt_by fits sound interrupting trap vectored traps.entered save push_psw push_ps_pc jump_far push ◌>>=◌ run_by crossed in_mode tally wrap_of settled read_mem write_mem byte_at bus_cycles lost lost_bytes
takes_it = refl

pub is_masked : interrupt_report 0 true masked ≡ report 7 masked nothing
unfolding interrupt_report interrupt interrupt_by fits sound
is_masked = refl

module _ (engine : ℕ → Bool → World → Report) (meets : MeetsInterrupt engine) where
  at_callable : engine 0 false callable ≡ report 0 entered (cycles_only 5)
  at_callable = sym (meets 0 false callable (lit≤ tt) refl) ∙ takes_it

  at_masked : engine 0 true masked ≡ report 7 masked nothing
  at_masked = sym (meets 0 true masked (lit≤ tt) refl) ∙ is_masked

  -- one number for every call: always refusing, or never
  pub interrupt_not_fixed_number : (n : ℕ) → ((vector : ℕ) (maskable : Bool) (w : World) → vector ≤ 255 → lendable w ≡ true → number_of (engine vector maskable w) ≡ n) → ⊥
  interrupt_not_fixed_number n h =
      let x : ◌≡◌ {A = ℕ} 7 0 = shared number_of at_masked at_callable (h 0 true masked (lit≤ tt) refl) (h 0 false callable (lit≤ tt) refl) in
      omega arith

  pub interrupt_not_idle : ((vector : ℕ) (maskable : Bool) (w : World) → vector ≤ 255 → lendable w ≡ true → world_of (engine vector maskable w) ≡ w) → ⊥
  interrupt_not_idle h =
      let y : entered ≡ callable = ap world_of (sym at_callable) ∙ h 0 false callable (lit≤ tt) refl in
      let x : ◌≡◌ {A = ℕ} 4 10 = ap (λ (w : World). get_or w.state.file SP 0) y in
      omega arith

  pub interrupt_not_fixed_cycles : (b : Bus) → ((vector : ℕ) (maskable : Bool) (w : World) → vector ≤ 255 → lendable w ≡ true → bus_of (engine vector maskable w) ≡ b) → ⊥
  interrupt_not_fixed_cycles b h =
      let y = shared bus_of at_masked at_callable (h 0 true masked (lit≤ tt) refl) (h 0 false callable (lit≤ tt) refl) in
      let x : ◌≡◌ {A = ℕ} 0 5 = ap (λ (n : Bus). n.cycles) y in
      omega arith

-- ---- the log reader

first_record : (g : GapRule) → read_log g sample_log 0 ≡ entry.Record 5 385 0x41 4
unfolding read_log entry_of
first_record g = ap (entry_of 0) (sample_first g)

past_the_end : (g : GapRule) → read_log g sample_log 10 ≡ entry.Beyond
unfolding read_log
past_the_end g = refl

-- not one number for all logs of a rule, and so not one answer
pub reader_not_fixed : (reader : GapRule → List ℕ → ℕ → Entry) → MeetsReader reader → (g : GapRule) (n : ℕ) → ((log : List ℕ) (at : ℕ) → every 255 log ≡ true → entry_number (reader g log at) ≡ n) → ⊥
reader_not_fixed reader meets g n h =
    let first = sym (meets g sample_log 0 refl) ∙ first_record g in
    let last = sym (meets g sample_log 10 refl) ∙ past_the_end g in
    let x : ◌≡◌ {A = ℕ} 0 2 = shared entry_number first last (h sample_log 0 refl) (h sample_log 10 refl) in
    omega arith
