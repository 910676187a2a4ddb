-- What a run's loop has come to, and what each return of a run's code comes to.
use Prim.Native.Nat.{ℕ, suc, ◌+◌, ◌-◌, ◌*◌, ◌≤◌, ◌<◌, zero-le}
use mathlib.Core.Bool.{Bool, true, false, true≢false}
use mathlib.Core.List.{List, []}
use mathlib.Core.Path.{◌≡◌, refl, ap, ◌∙◌}
use native.Mathlib.Omega.{arith}
use lib.ListN.{length}
use borrow.Author.Tests.{le-leb}
use Rattle.sheet.specs.declared.Bus.{Bus}
use Rattle.sheet.specs.declared.State.{State}
use Rattle.sheet.specs.declared.Marks.{Marks}
use Rattle.sheet.specs.declared.Progress.{Progress}
use Rattle.sheet.specs.World.{World, world, state_of}
use Rattle.sheet.specs.Handler.{Event, Outcome, refused, done, kept, nothing, ◌⊕◌, tally}
use Rattle.sheet.specs.Contract.{stops, ends, seen}
use Rattle.sheet.specs.Step.{fits, marks_good, sound, refusal, awake, step_by}
use Rattle.sheet.specs.Run.{FinishedStep, begun_in, Ran, ran, more, onward, steps_by, runs_by, runs, RunReport, tally_all, run_reported, ran_report}
use Rattle.sheet.proofs.Rules.{no_first, no_last, ⊕_assoc}
use Rattle.sheet.proofs.Lent.{Lent, Sound}
use Rattle.sheet.proofs.StepLaws.{step_leaves}
use Rattle.sheet.proofs.MarkLaws.{step_unmixed}
use Rattle.mach_tally.specs.Sums.{Free, Joins}
use Rattle.mach_tally.specs.Bounds.{Within}
use Rattle.mach_tally.proofs.Bounds.{within_none, within_more, within_both}
use Rattle.step_answer.specs.Calls.{check_number}
use Rattle.step_answer.specs.Steps.{Advances}
use Rattle.step_answer.specs.Runs.{Runs}
use Rattle.step_answer.proofs.CheckLaws.{passed, checked_passed, checked_refused}

-- k steps that come to c, in front of what a run reports
abbrev before : ℕ → Bus → RunReport → RunReport
before k c (run_reported r w m b) = run_reported r w (k + m) (c ⊕ b)

-- a budget that is not spent
one_step : (j : ℕ) (w : World) → steps_by (λ i. kept) (suc j) w ≡ onward w (step_by kept w) (steps_by (λ i. kept) j)
unfolding steps_by
one_step j w = refl

no_step : (w : World) → steps_by (λ i. kept) 0 w ≡ ran 0 w [] []
unfolding steps_by
no_step w = refl

-- a run that goes on after one step
report_more : (s : FinishedStep) (r : Ran) (k : ℕ) (c : Bus) → before k c (ran_report (more s r)) ≡ before (k + 1) (c ⊕ tally s.events) (ran_report r)
unfolding tally_all
report_more s (ran n w l u) k c =
    let a : k + suc (length l) ≡ k + 1 + length l = omega arith in
    rw (a, ⊕_assoc c (tally s.events) (tally_all l))

-- ---- what an outcome is, by what is seen of it

-- it is done: it leaves v, and its events come to b
pub record Done (o : Outcome Unit) (v : World) (b : Bus) : Type 0 where
  pub events : List Event
  pub is : o ≡ done tt v events
  pub sum : tally events ≡ b

pub as_done : (o : Outcome Unit) (v : World) (b : Bus) → seen o ≡ ends tt v b → Done o v b
as_done (refused k t) v b e = absurd (true≢false cc)
as_done (done tt u t) v b e = let x : u ≡ v = cc in let y : tally t ≡ b = cc in record { events = t; is = rw x; sum = y }

pub as_refused : (o : Outcome Unit) (k : ℕ) → seen o ≡ stops k → (t : List Event) × (o ≡ refused k t)
as_refused (refused j t) k e = let x : j ≡ k = cc in (t, rw x)
as_refused (done tt u t) k e = absurd (true≢false cc)

-- a step that passes the checks
pub step_on : (v : World) → (fits v ≡ true) × (sound v ≡ true) → step_by kept v ≡ awake kept v
unfolding step_by
step_on v = checked_passed v refusal (awake kept v)

-- an accepted call leaves a world that passes the checks again
pub sound_so : (w : World) → Sound w → marks_good w.state.marks ≡ true → sound w ≡ true
unfolding sound
sound_so w s m = rw (s.fixed, s.mode, le-leb _ _ s.tape_in, le-leb _ _ s.log_in, le-leb _ _ s.count_in, m)

pub fits_so : (w v : World) → Lent w v → fits w ≡ true → fits v ≡ true
unfolding fits
fits_so w v l f = rw (l.ram_long, l.rom_same) f

-- ---- the loop

-- k steps are done, from w to v, and come to c: the rest of the run is the rest from v, which passes the checks
pub record Continues (w v : World) (k : ℕ) (c : Bus) : Type 0 where
  pub accepted : (fits w ≡ true) × (sound w ≡ true)
  pub most : Within c (1028 * k)
  pub whole : length v.state.file ≡ 14
  pub good : (fits v ≡ true) × (sound v ≡ true)
  pub rest : (j : ℕ) → ran_report (steps_by (λ i. kept) (k + j) w) ≡ before k c (ran_report (steps_by (λ i. kept) j v))

before_none : (r : RunReport) → r ≡ before 0 nothing r
before_none (run_reported n w m b) =
    let a : 0 + m ≡ m = omega arith in
    rw (a, no_first b)

continues_start : (w : World) → length w.state.file ≡ 14 → check_number w ≡ 0 → Continues w w 0 nothing
continues_start w h e =
    record {
      accepted = passed w e;
      most = within_none;
      whole = h;
      good = passed w e;
      rest = λ j. (let z : 0 + j ≡ j = omega arith in rw z (before_none (ran_report (steps_by (λ i. kept) j w))));
    }

-- the run keeps the state in its parts
pub continues_none : (s : State) (ram rom tape log : List ℕ) (c : Bus) → length s.file ≡ 14 → check_number (world s ram rom tape log) ≡ 0 → Free c
    → Continues (world s ram rom tape log) (world s ram rom tape log) 0 c
continues_none s ram rom tape log c h e k = rw k.is (continues_start (world s ram rom tape log) h e)

module _ {w : World} {s : State} {ram rom tape log : List ℕ} {k : ℕ} {c : Bus} (p : Continues w (world s ram rom tape log) k c) where
  v : World
  v = world s ram rom tape log

  pub continues_more : {t : Bool} {number : ℕ} {s' : State} {ram' log' : List ℕ} {n r : Bus} → t ≡ true → Advances s ram rom tape log t number s' ram' log' n → Joins c n r
      → Continues w (world s' ram' rom tape log') (k + 1) r
  unfolding v
  continues_more {s' = s'} {ram' = ram'} {log' = log'} {n = n} h a q =
      let d = as_done (step_by kept v) v' n (rw h at (ap seen (step_on v p.good) ∙ a.is)) in
      let g = step_leaves kept v v' d.events p.whole d.is in
      rw q.is
      (record {
        accepted = p.accepted;
        most = within_more (omega arith) (within_both p.most a.most);
        whole = g.sound.whole;
        good = (fits_so v v' g.lent p.good.0, sound_so v' g.sound (step_unmixed kept v v' d.events p.whole d.is));
        rest = λ j. rest_of d j;
      })
    where
      v' : World
      v' = world s' ram' rom tape log'

      one_more : Done (step_by kept v) v' n → (j : ℕ) → before k c (ran_report (steps_by (λ i. kept) (suc j) v)) ≡ before (k + 1) (c ⊕ n) (ran_report (steps_by (λ i. kept) j v'))
      one_more d j = rw (one_step j v, d.is) (report_more (begun_in v d.events) (steps_by (λ i. kept) j v') k c ∙ rw d.sum)

      rest_of : Done (step_by kept v) v' n → (j : ℕ) → ran_report (steps_by (λ i. kept) (k + 1 + j) w) ≡ before (k + 1) (c ⊕ n) (ran_report (steps_by (λ i. kept) j v'))
      rest_of d j = let z : k + 1 + j ≡ k + suc j = omega arith in rw z (p.rest (suc j) ∙ one_more d j)

  continues_stop : (budget number : ℕ) → k < budget → seen (awake kept v) ≡ stops number
      → ran_report (steps_by (λ i. kept) budget w) ≡ run_reported number v k c
  unfolding v tally_all
  continues_stop budget number h a =
      let d = as_refused (step_by kept v) number (ap seen (step_on v p.good) ∙ a) in
      let z : budget ≡ k + suc (budget - k - 1) = omega arith in
      let x : k + 0 ≡ k = omega arith in
      rw z (p.rest (suc (budget - k - 1)) ∙ rw (one_step (budget - k - 1) v, d.1, x, no_last c))

  continues_end : (budget : ℕ) → k ≡ budget → ran_report (steps_by (λ i. kept) budget w) ≡ run_reported 0 v k c
  unfolding v tally_all
  continues_end budget h =
      let z : budget ≡ k + 0 = omega arith in
      let x : k + 0 ≡ k = omega arith in
      rw z (p.rest 0 ∙ rw (no_step v, x, no_last c))

-- ---- the run

pub runs_on : (budget : ℕ) (w : World) → (fits w ≡ true) × (sound w ≡ true) → runs budget w ≡ steps_by (λ i. kept) budget w
unfolding runs runs_by
runs_on budget w = checked_passed w (λ n. ran n w [] []) (steps_by (λ i. kept) budget w)

module _ {budget : ℕ} {s : State} {ram rom tape log f ram₁ log₁ : List ℕ} {m : Marks} {q : Progress} {k : ℕ} {c : Bus}
    (p : Continues (world s ram rom tape log) (world (state_of f m q) ram₁ rom tape log₁) k c) where
  -- the state that is handed back is put together from the registers after the refused call, which left them
  pub runs_stop : {t : Bool} {number : ℕ} {m' : Marks} {q' : Progress} {x : State} {f' ram' log' : List ℕ} {n : Bus} → k < budget → t ≡ false
      → Advances (state_of f m q) ram₁ rom tape log₁ t number (state_of f' m' q') ram' log' n → x ≡ state_of f' m q
      → Runs budget s ram rom tape log number x ram' log' k c
  unfolding v
  runs_stop {number = number} h e a u =
      let (s-same, ram-same, log-same, no-cycles) = a.same e in
      let file_same = ap (λ (y : State). y.file) s-same in
      record {
        within = omega arith;
        most = p.most.cycles;
        is = rw (u, file_same, ram-same, log-same) (ap ran_report (runs_on budget _ p.accepted) ∙ continues_stop p budget number h (rw e at a.is));
      }

  pub runs_end : {x : State} → k ≤ budget → budget ≤ k → x ≡ state_of f m q → Runs budget s ram rom tape log 0 x ram₁ log₁ k c
  unfolding v
  runs_end h l u = record { within = h; most = p.most.cycles; is = rw u (ap ran_report (runs_on budget _ p.accepted) ∙ continues_end p budget (omega arith)) }

pub runs_refused : (budget : ℕ) (s : State) (ram rom tape log : List ℕ) (number : ℕ) (n : Bus) → number ≡ check_number (world s ram rom tape log) → (number ≡ 0 → ⊥) → Free n
    → Runs budget s ram rom tape log number s ram log 0 n
unfolding runs runs_by tally_all
runs_refused budget s ram rom tape log number n e z k =
    let w : World = world s ram rom tape log in
    rw k.is
    (record { within = zero-le; most = zero-le; is = ap ran_report (checked_refused w (λ n. ran n w [] []) (steps_by (λ i. kept) budget w) number e z) })
