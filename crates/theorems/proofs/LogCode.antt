-- From reset on, whatever steps, runs and interrupt calls code answered: the log's used part is read back by the reader in code to exactly the records of the port accesses.
use Prim.Native.Nat.{ℕ, zero, suc, ◌+◌, ◌<◌, zero-le}
use mathlib.Core.Path.{◌≡◌, refl, sym, ap, subst, ◌∙◌}
use mathlib.Core.Bool.{Bool, true, false}
use mathlib.Core.List.{List, [], ◌∷◌, ◌++◌, append_assoc}
use native.Mathlib.Omega.{arith}
use lib.ListN.{take}
use Rattle.sheet.specs.declared.Bus.{Bus}
use Rattle.sheet.specs.Width.{pick}
use Rattle.sheet.specs.Log.{rule}
use Rattle.sheet.specs.World.{World, world, crossed}
use Rattle.sheet.specs.Handler.{Event, Outcome, refused, done, kept, run_by}
use Rattle.sheet.specs.Act.{◌>>=◌}
use Rattle.sheet.specs.Contract.{seen, report, report_of}
use Rattle.sheet.specs.Traps.{push, push_psw, push_ps_pc, jump_far, save, vectored, entered, trap}
use Rattle.sheet.specs.Step.{fits, sound, step, step_by, step_report, interrupting, interrupt, interrupt_report, reset}
use Rattle.sheet.specs.Run.{FinishedStep, begun_in, Ran, ran, more, onward, steps_by, runs_by, runs, run_reported, ran_report}
use Rattle.sheet.proofs.StepLaws.{enters}
use Rattle.log_record.specs.Whole.{Row, AllSound, log_bytes, at_end, Reads, ends, meets}
use Rattle.sheet.specs.Lendable.{lendable}
use Rattle.theorems.specs.RepeatCode.{StepCall, step_call, InterruptCall, interrupt_call}
use Rattle.theorems.specs.Rows.{rows_of, since, rows_along, since_along, leading, finished, steps_from, world_after}
use Rattle.theorems.specs.LogCode.{RunCall, run_call, Called, nothing_yet, then_step, then_run, then_interrupt, ReadBack, all_read, read_then}
use Rattle.theorems.proofs.Log.{Logged, run_log, used_read}

-- ---- where a call led

reported_left : (w v : World) (o : Outcome Unit) (n : ℕ) (b : Bus) → report_of w (seen o) ≡ report n v b → leading w o (λ x. x) ≡ v
reported_left w v (refused k t) n b e = cc
reported_left w v (done tt u t) n b e = cc

one_step : (w : World) → world_after 1 w ≡ leading w (step w) (λ x. x)
unfolding world_after
one_step w = refl

step_led : {u v : World} {n : ℕ} {b : Bus} → StepCall u n v b → world_after 1 u ≡ v
unfolding step_report
step_led {u} (step_call s) = one_step u ∙ reported_left u _ (step u) _ _ s.is

abbrev left_by : Ran → World
left_by (ran n w l t) = w

abbrev steps_of : Ran → List FinishedStep
steps_of (ran n w l t) = l

more_left : (s : FinishedStep) (r : Ran) → left_by (more s r) ≡ left_by r
more_left s (ran n w l t) = refl

more_steps : (s : FinishedStep) (r : Ran) → steps_of (more s r) ≡ s ∷ steps_of r
more_steps s (ran n w l t) = refl

steps_led : (k : ℕ) (w : World) → left_by (steps_by (λ i. kept) k w) ≡ world_after k w
unfolding steps_by world_after step
steps_led zero w = refl
steps_led (suc k) w = go (step w) (λ u. steps_led k u)
  where
    go : (o : Outcome Unit) → ((u : World) → left_by (steps_by (λ i. kept) k u) ≡ world_after k u) → left_by (onward w o (steps_by (λ i. kept) k)) ≡ leading w o (world_after k)
    go (refused n t) g = refl
    go (done tt u t) g = more_left (begun_in w t) (steps_by (λ i. kept) k u) ∙ g u

stays : (k : ℕ) (w : World) (n : ℕ) (t : List Event) → step w ≡ refused n t → world_after k w ≡ w
unfolding world_after
stays zero w n t e = refl
stays (suc k) w n t e = rw e

pub runs_led : (k : ℕ) (w : World) → left_by (runs k w) ≡ world_after k w
unfolding runs runs_by step step_by
runs_led k w = go (fits w) (sound w) refl refl
  where
    go : (f s : Bool) → fits w ≡ f → sound w ≡ s → left_by (pick f (pick s (steps_by (λ i. kept) k w) (ran 2 w [] [])) (ran 1 w [] [])) ≡ world_after k w
    go true true f s = steps_led k w
    go true false f s = sym (stays k w 2 [] (rw (f, s)))
    go false s f g = sym (stays k w 1 [] (rw f))

report_left : (r : Ran) (n : ℕ) (v : World) (k : ℕ) (b : Bus) → ran_report r ≡ run_reported n v k b → left_by r ≡ v
report_left (ran m w j t) n v k b e = cc

run_led : {budget : ℕ} {u v : World} {n k : ℕ} {b : Bus} → RunCall budget u n v k b → world_after budget u ≡ v
run_led {budget} {u} (run_call r) = sym (runs_led budget u) ∙ report_left (runs budget u) _ _ _ _ r.is

-- ---- the steps of a run are those whose records are due

some_steps : (k : ℕ) (w : World) → steps_of (steps_by (λ i. kept) k w) ≡ steps_from k w
unfolding steps_by steps_from step
some_steps zero w = refl
some_steps (suc k) w = go (step w) (λ u. some_steps k u)
  where
    go : (o : Outcome Unit) → ((u : World) → steps_of (steps_by (λ i. kept) k u) ≡ steps_from k u) → steps_of (onward w o (steps_by (λ i. kept) k)) ≡ finished w o (steps_from k)
    go (refused n t) g = refl
    go (done tt u t) g = more_steps (begun_in w t) (steps_by (λ i. kept) k u) ∙ ap (λ l. begun_in w t ∷ l) (g u)

no_steps : (k : ℕ) (w : World) (n : ℕ) (t : List Event) → step w ≡ refused n t → steps_from k w ≡ []
unfolding steps_from
no_steps zero w n t e = refl
no_steps (suc k) w n t e = rw e

pub run_steps : (k : ℕ) (w : World) → steps_of (runs k w) ≡ steps_from k w
unfolding runs runs_by step step_by
run_steps k w = go (fits w) (sound w) refl refl
  where
    go : (f s : Bool) → fits w ≡ f → sound w ≡ s → steps_of (pick f (pick s (steps_by (λ i. kept) k w) (ran 2 w [] [])) (ran 1 w [] [])) ≡ steps_from k w
    go true true f s = some_steps k w
    go true false f s = sym (no_steps k w 2 [] (rw (f, s)))
    go false s f g = sym (no_steps k w 1 [] (rw f))

-- ---- an interrupt call leaves the log, its place and the count as they are

abbrev log_of : World → Outcome Unit → List ℕ
log_of w (refused n t) = w.log
log_of w (done a v t) = v.log

abbrev place_of : World → Outcome Unit → ℕ
place_of w (refused n t) = w.state.progress.log
place_of w (done a v t) = v.state.progress.log

abbrev count_of : World → Outcome Unit → ℕ
count_of w (refused n t) = w.state.progress.count
count_of w (done a v t) = v.state.progress.count

record SameLog (w v : World) : Type 0 where
  log : v.log ≡ w.log
  place : v.state.progress.log ≡ w.state.progress.log
  count : v.state.progress.count ≡ w.state.progress.count

interrupting_keeps : (x : ℕ) (w v : World) (t : List Event) → run_by kept (interrupting x) w ≡ done tt v t → SameLog w v
unfolding interrupting trap vectored entered save push_psw push_ps_pc jump_far push ◌>>=◌ run_by crossed
interrupting_keeps x w v t e = record { log = sym (ap (log_of w) e); place = sym (ap (place_of w) e); count = sym (ap (count_of w) e) }

interrupted : (x : ℕ) (m : Bool) (w v : World) (o : Outcome Unit) (n : ℕ) (b : Bus) → interrupt x m w ≡ o → report_of w (seen o) ≡ report n v b → SameLog w v
unfolding interrupt
interrupted x m w v (refused k t) n b q e = let z : w ≡ v = cc in subst (SameLog w) z (record { log = refl; place = refl; count = refl })
interrupted x m w v (done tt u t) n b q e = let z : u ≡ v = cc in subst (SameLog w) z (interrupting_keeps x w u t (enters kept x m w u t q).ran)

interrupt_led : {x : ℕ} {m : Bool} {u v : World} {n : ℕ} {b : Bus} → InterruptCall x m u n v b → SameLog u v
unfolding interrupt_report
interrupt_led {x} {m} {u} (interrupt_call i) = interrupted x m u _ (interrupt x m u) _ _ refl i.is

-- ---- all calls

rows_both : (n : ℕ) (l m : List FinishedStep) → rows_along n (l ++ m) ≡ rows_along n l ++ rows_along (since_along n l) m
unfolding rows_along since_along
rows_both n [] m = refl
rows_both n (s ∷ l) m =
    let k = since (n + 1) s.events in
    rw (rows_both k l m) (sym (append_assoc (rows_of (n + 1) s.events) (rows_along k l) (rows_along (since_along k l) m)))

since_both : (n : ℕ) (l m : List FinishedStep) → since_along n (l ++ m) ≡ since_along (since_along n l) m
unfolding since_along
since_both n [] m = refl
since_both n (s ∷ l) m = since_both (since (n + 1) s.events) l m

-- a step is a run of one
only : (u : World) → lendable u ≡ true → (j : ℕ) → j < 1 → lendable (world_after j u) ≡ true
unfolding world_after
only u h zero i = h
only u h (suc j) i = absurd (omega arith)

-- the log that calls leave, where it was used for no record before
pub calls_log : {w v : World} {l : List FinishedStep} → Called w l v → Logged 0 [] w → Logged (since_along 0 l) (rows_along 0 l) v
unfolding rows_along since_along
calls_log nothing_yet g = g
calls_log (then_step {l = l} {u = u} c h s) g =
    rw (rows_both 0 l (steps_from 1 u), since_both 0 l (steps_from 1 u), ← step_led s) (run_log 1 u (since_along 0 l) (rows_along 0 l) (only u h) (calls_log c g))
calls_log (then_run {l = l} {u = u} {budget = budget} c h r) g =
    rw (rows_both 0 l (steps_from budget u), since_both 0 l (steps_from budget u), ← run_led r) (run_log budget u (since_along 0 l) (rows_along 0 l) h (calls_log c g))
calls_log (then_interrupt c i) g =
    let k = interrupt_led i in
    let o = calls_log c g in
    record {
      used = record { within = rw (k.place, k.log) o.used.within; same = rw (k.place, k.log) o.used.same; count = k.count ∙ o.used.count };
      sound = o.sound;
    }

reset_logged : (ram rom tape log : List ℕ) → Logged 0 [] (world reset ram rom tape log)
unfolding reset log_bytes AllSound
reset_logged ram rom tape log = record { used = record { within = zero-le; same = refl; count = refl }; sound = tt }

read_back : {log : List ℕ} {at : ℕ} {rs : List Row} → Reads rule log at rs at_end → ReadBack log at rs
read_back (ends q) = all_read λ e a. a.answer ∙ q
read_back (meets q r) = read_then (λ e a. a.answer ∙ q) (read_back r)

-- THE PORT LOG, DEMAND 2
pub code_log : {ram rom tape log : List ℕ} {l : List FinishedStep} {v : World} → Called (world reset ram rom tape log) l v
    → ReadBack (take v.state.progress.log v.log) 0 (rows_along 0 l)
code_log {ram} {rom} {tape} {log} {l} {v} c = read_back (used_read (since_along 0 l) (rows_along 0 l) v (calls_log c (reset_logged ram rom tape log)))
