-- A run is its single steps: what it reports, how it stops, and how two runs make one.
use Prim.Native.Nat.{ℕ, zero, suc, ◌+◌, ◌-◌, ◌≤◌, ◌<◌}
use mathlib.Core.Path.{◌≡◌, refl, ap, sym, ◌∙◌}
use mathlib.Core.Bool.{Bool, true, false}
use mathlib.Core.List.{List, [], ◌∷◌, ◌++◌, append-nil}
use native.Mathlib.Nat.{zero-add, add-zero}
use native.Mathlib.Omega.{arith}
use lib.ListN.{length, length-append}
use Rattle.sheet.specs.Width.{pick}
use Rattle.sheet.specs.World.{World}
use Rattle.sheet.specs.Handler.{Event, Outcome, refused, done, kept, ◌⊕◌, tally}
use Rattle.sheet.specs.Step.{fits, sound, step}
use Rattle.sheet.specs.Run.{FinishedStep, begun_in, Ran, ran, more, onward, steps_by, runs_by, runs, tally_all, run_reported, ran_report}
use Rattle.sheet.proofs.Rules.{no_first, ⊕_assoc}
use Rattle.theorems.specs.Runs.{Walk, none, step_then, RunOf, unfit, unsound, spent, stopped, after}
use Rattle.sheet.proofs.MarkLaws.{step_unmixed}
use Rattle.step_answer.proofs.RunLaws.{sound_so, fits_so, runs_on}
use Rattle.sheet.proofs.StepLaws.{step_leaves}

-- ---- a run is its single steps

-- a walk has as many finished steps as it says
pub walk_long : (k : ℕ) (w v : World) (l : List FinishedStep) → Walk w k v l → length l ≡ k
walk_long zero w v l none = refl
walk_long (suc k) w v l (step_then {u = u} {l = m} e g) = ap suc (walk_long k u v m g)

-- what comes after the checks
data Goes (budget : ℕ) (w : World) : Ran → Type 0 where
  all_done : {v : World} {l : List FinishedStep} → Walk w budget v l → Goes budget w (ran 0 v l [])
  not_all : {k n : ℕ} {v : World} {l : List FinishedStep} {s : List Event} → k < budget → Walk w k v l → step v ≡ refused n s → Goes budget w (ran n v l s)

goes_more : (budget : ℕ) (w u : World) (s : List Event) → step w ≡ done tt u s → (r : Ran) → Goes budget u r → Goes (suc budget) w (more (begun_in w s) r)
goes_more budget w u s e (ran n v l t) (all_done g) = all_done (step_then e g)
goes_more budget w u s e (ran n v l t) (not_all {k = k} h g d) = let i : suc k < suc budget = omega arith in not_all i (step_then e g) d

goes : (budget : ℕ) (w : World) → Goes budget w (steps_by (λ i. kept) budget w)
unfolding steps_by step
goes zero w = all_done none
goes (suc budget) w = go (step w) refl (λ u. goes budget u)
  where
    go : (o : Outcome Unit) → step w ≡ o → ((u : World) → Goes budget u (steps_by (λ i. kept) budget u)) → Goes (suc budget) w (onward w o (steps_by (λ i. kept) budget))
    go (refused n t) e g = let l : 0 < suc budget = omega arith in not_all l none e
    go (done tt u s) e g = goes_more budget w u s e (steps_by (λ i. kept) budget u) (g u)

as_run : (budget : ℕ) (w : World) → fits w ≡ true → sound w ≡ true → (r : Ran) → Goes budget w r → RunOf budget w r
as_run budget w f s (ran n v l t) (all_done g) = spent f s g
as_run budget w f s (ran n v l t) (not_all h g d) = stopped f s h g d

-- every run
pub run_is : (budget : ℕ) (w : World) → RunOf budget w (runs budget w)
unfolding runs runs_by
run_is budget w = go (fits w) (sound w) refl refl
  where
    go : (f s : Bool) → fits w ≡ f → sound w ≡ s → RunOf budget w (pick f (pick s (steps_by (λ i. kept) budget w) (ran 2 w [] [])) (ran 1 w [] []))
    go true true f s = as_run budget w f s (steps_by (λ i. kept) budget w) (goes budget w)
    go true false f s = unsound f s
    go false s f g = unfit f

-- ---- steps in front of a run

more_after : (s : FinishedStep) (l : List FinishedStep) (r : Ran) → more s (after l r) ≡ after (s ∷ l) r
more_after s l (ran n v m t) = refl

none_before : (r : Ran) → r ≡ after [] r
none_before (ran n v m s) = refl

front : (m : ℕ) (w u : World) (s : List Event) → step w ≡ done tt u s → steps_by (λ i. kept) (suc m) w ≡ more (begun_in w s) (steps_by (λ i. kept) m u)
unfolding steps_by step
front m w u s e = rw e

-- of k + j steps, the k that are known, and j more from where they lead
steps_then : (k j : ℕ) (w v : World) (l : List FinishedStep) → Walk w k v l → steps_by (λ i. kept) (k + j) w ≡ after l (steps_by (λ i. kept) j v)
steps_then zero j w v l none = rw (zero-add j) (none_before (steps_by (λ i. kept) j w))
steps_then (suc k) j w v l (step_then {u = u} {s = s} {l = m} e g) =
    let z : suc k + j ≡ suc (k + j) = omega arith in
    rw z (front (k + j) w u s e ∙ ap (more (begun_in w s)) (steps_then k j u v m g) ∙ more_after (begun_in w s) m (steps_by (λ i. kept) j v))

-- ---- a run is nothing else

none_after : (n : ℕ) (v : World) (l : List FinishedStep) (s : List Event) → after l (ran n v [] s) ≡ ran n v l s
none_after n v l s = rw (append-nil l)

refused_at_once : (j n : ℕ) (v : World) (s : List Event) → step v ≡ refused n s → steps_by (λ i. kept) (suc j) v ≡ ran n v [] s
unfolding steps_by step
refused_at_once j n v s e = rw e

spent_is : (k : ℕ) (w v : World) (l : List FinishedStep) → Walk w k v l → steps_by (λ i. kept) k w ≡ ran 0 v l []
unfolding steps_by
spent_is k w v l g = rw (add-zero k) at (steps_then k 0 w v l g ∙ none_after 0 v l [])

stopped_is : (budget k n : ℕ) (w v : World) (l : List FinishedStep) (s : List Event) → k < budget → Walk w k v l → step v ≡ refused n s → steps_by (λ i. kept) budget w ≡ ran n v l s
stopped_is budget k n w v l s h g d =
    let e : budget ≡ k + suc (budget - (k + 1)) = omega arith in
    rw e (steps_then k (suc (budget - (k + 1))) w v l g ∙ rw (refused_at_once (budget - (k + 1)) n v s d) (none_after n v l s))

pub run_only : (budget : ℕ) (w : World) (r : Ran) → RunOf budget w r → runs budget w ≡ r
unfolding runs runs_by
run_only budget w (ran n v l t) (unfit f) = rw f
run_only budget w (ran n v l t) (unsound f s) = rw (f, s)
run_only budget w (ran n v l t) (spent f s g) = runs_on budget w (f, s) ∙ spent_is budget w v l g
run_only budget w (ran n v l t) (stopped {k = k} f s h g d) = runs_on budget w (f, s) ∙ stopped_is budget k n w v l t h g d

-- ---- a stopped run keeps exactly what came before

-- the steps of a run
done_steps : (budget : ℕ) (w : World) (n : ℕ) (v : World) (l : List FinishedStep) (t : List Event) → RunOf budget w (ran n v l t) → Walk w (length l) v l
done_steps budget w n v l t (unfit x) = none
done_steps budget w n v l t (unsound x y) = none
done_steps budget w n v l t (spent x y g) = rw (walk_long budget w v l g) g
done_steps budget w n v l t (stopped {k = k} x y h g d) = rw (walk_long k w v l g) g

-- by themselves they lead to the same world, and are the same steps
pub stopped_keeps : (budget : ℕ) (w : World) (n : ℕ) (v : World) (l : List FinishedStep) (t : List Event) → fits w ≡ true → sound w ≡ true → runs budget w ≡ ran n v l t
    → runs (length l) w ≡ ran 0 v l []
stopped_keeps budget w n v l t f s e =
    run_only (length l) w (ran 0 v l []) (spent f s (done_steps budget w n v l t (rw e at (run_is budget w))))

abbrev done_of : Ran → ℕ
done_of (ran n v l t) = length l

-- never more steps than the budget
pub within_budget : (budget : ℕ) (w : World) (n : ℕ) (v : World) (l : List FinishedStep) (t : List Event) → runs budget w ≡ ran n v l t → length l ≤ budget
within_budget budget w n v l t e = go (ran n v l t) (rw e at (run_is budget w))
  where
    go : (r : Ran) → RunOf budget w r → done_of r ≤ budget
    go (ran n v l t) (unfit x) = omega arith
    go (ran n v l t) (unsound x y) = omega arith
    go (ran n v l t) (spent x y g) = let z = walk_long budget w v l g in omega arith
    go (ran n v l t) (stopped {k = k} x y h g d) = let z = walk_long k w v l g in omega arith

-- ---- a run of a + b steps

-- steps lead from a good world to a good one
steps_leave : (k : ℕ) (w v : World) (l : List FinishedStep) → length w.state.file ≡ 14 → fits w ≡ true → sound w ≡ true → Walk w k v l → (fits v ≡ true) × (sound v ≡ true)
unfolding step
steps_leave zero w v l n f s none = (f, s)
steps_leave (suc k) w v l n f s (step_then {u = u} {s = q} {l = r} e g) =
    let i = step_leaves kept w u q n e in
    steps_leave k u v r i.sound.whole (fits_so w u i.lent f) (sound_so u i.sound (step_unmixed kept w u q n e)) g

module _ (a b : ℕ) (w v : World) (n : ℕ) (l : List FinishedStep) (t : List Event) (whole : length w.state.file ≡ 14) (e : runs a w ≡ ran n v l t) (long : length l ≡ a) where
  -- where the first a steps are all done, b more from where they lead make up a run of a + b
  split_good : fits w ≡ true → sound w ≡ true → runs (a + b) w ≡ after l (runs b v)
  split_good f s =
      let g = rw long at (done_steps a w n v l t (rw e at (run_is a w))) in
      runs_on (a + b) w (f, s) ∙ steps_then a b w v l g ∙ ap (after l) (sym (runs_on b v (steps_leave a w v l whole f s g)))

  -- where the checks refuse there is no step, and both runs answer alike
  at_once : (m : ℕ) → ((c : ℕ) → runs c w ≡ ran m w [] []) → runs (a + b) w ≡ after l (runs b v)
  at_once m h =
      let q : ran n v l t ≡ ran m w [] [] = sym e ∙ h a in
      let x : v ≡ w = cc in
      let z : l ≡ [] = cc in
      rw (h (a + b), x, z, h b)

  pub run_splits : runs (a + b) w ≡ after l (runs b v)
  run_splits = go (fits w) (sound w) refl refl
    where
      go : (f s : Bool) → fits w ≡ f → sound w ≡ s → runs (a + b) w ≡ after l (runs b v)
      go true true f s = split_good f s
      go true false f s = at_once 2 (λ c. run_only c w (ran 2 w [] []) (unsound f s))
      go false s f g = at_once 1 (λ c. run_only c w (ran 1 w [] []) (unfit f))

-- ---- cycles

tally_all_both : (l m : List FinishedStep) → tally_all (l ++ m) ≡ tally_all l ⊕ tally_all m
unfolding tally_all
tally_all_both [] m = sym (no_first (tally_all m))
tally_all_both (s ∷ l) m = rw (tally_all_both l m) (sym (⊕_assoc (tally s.events) (tally_all l) (tally_all m)))

-- so in what is reported: the steps add up, and so do the cycles
pub run_splits_report : (a b : ℕ) (w v x : World) (n m : ℕ) (l k : List FinishedStep) (t s : List Event) → length w.state.file ≡ 14
    → runs a w ≡ ran n v l t → length l ≡ a → runs b v ≡ ran m x k s → ran_report (runs (a + b) w) ≡ run_reported m x (a + length k) (tally_all l ⊕ tally_all k)
run_splits_report a b w v x n m l k t s whole e long h =
    rw (run_splits a b w v n l t whole e long, h, length-append l k, long, tally_all_both l k)
