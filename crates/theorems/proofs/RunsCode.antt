-- The call run in code, by its contract: it is its single calls of step, it keeps what came before, and two runs make one.
use Prim.Native.Nat.{ℕ, zero, suc, ◌+◌, ◌*◌, ◌≤◌, ◌<◌}
use mathlib.Core.Path.{◌≡◌, refl, ◌∙◌}
use mathlib.Core.Bool.{true}
use mathlib.Core.List.{List, [], ◌∷◌}
use native.Mathlib.Nat.{le_refl}
use native.Mathlib.Omega.{arith}
use lib.ListN.{length}
use Rattle.sheet.specs.declared.Bus.{Bus}
use Rattle.sheet.specs.declared.State.{State}
use Rattle.sheet.specs.World.{World, world}
use Rattle.sheet.specs.Handler.{Event, refused, ◌⊕◌}
use Rattle.sheet.specs.Contract.{seen, report}
use Rattle.sheet.specs.Step.{fits, sound, step, step_report}
use Rattle.sheet.specs.Run.{FinishedStep, begun_in, Ran, ran, runs, tally_all, run_reported, ran_report}
use Rattle.step_answer.specs.Steps.{Steps}
use Rattle.step_answer.specs.Runs.{Runs}
use Rattle.theorems.specs.Bounds.{Bytes}
use Rattle.theorems.specs.Runs.{Walk, none, step_then, spent, stopped}
use Rattle.theorems.specs.RunsCode.{StepsCalled, no_call, call_then}
use Rattle.theorems.proofs.Calls.{stops_at, step_done}
use Rattle.theorems.proofs.Runs.{walk_long, run_only, stopped_keeps, run_splits_report}
use Rattle.step_answer.proofs.RunLaws.{as_refused}

-- ---- calls of step are steps

-- the walk that k calls make, whose steps come to the sum of what they return
record Walked (w v : World) (k : ℕ) (b : Bus) : Type 0 where
  steps : List FinishedStep
  walk : Walk w k v steps
  sum : tally_all steps ≡ b
  most : b.cycles ≤ 1028 * k

walked : (rom tape : List ℕ) → Bytes rom → (k : ℕ) (s v : State) (ram ram₂ log log₂ : List ℕ) (b : Bus) → StepsCalled rom tape s ram log k v ram₂ log₂ b
    → Walked (world s ram rom tape log) (world v ram₂ rom tape log₂) k b
unfolding tally_all
walked rom tape h zero s v ram ram₂ log log₂ b no_call = record { steps = []; walk = none; sum = refl; most = le_refl 0 }
walked rom tape h (suc k) s v ram ram₂ log log₂ b (call_then {u = u} {ram₁ = ram₁} {log₁ = log₁} {b = a} {c = c} g x more) =
    let d = step_done (world s ram rom tape log) (world u ram₁ rom tape log₁) a g h x.is in
    let r = walked rom tape h k u v ram₁ ram₂ log₁ log₂ c more in
    let m = x.most in
    let n = r.most in
    let top : a.cycles + c.cycles ≤ 1028 * suc k = omega arith in
    record { steps = begun_in (world s ram rom tape log) d.events ∷ r.steps; walk = step_then d.is r.walk; sum = rw (d.sum, r.sum); most = top }

refuses : (w v : World) (n : ℕ) (b : Bus) → step_report w ≡ report n v b → (n ≡ 0 → ⊥) → (t : List Event) × (step w ≡ refused n t)
unfolding step_report
refuses w v n b e h = as_refused (step w) n (stops_at w v (seen (step w)) n b e h)

-- ---- a run is its single calls

module _ {s v : State} {ram rom tape log ram' log' : List ℕ} {k : ℕ} {b : Bus} (bytes : Bytes rom)
    (fit : fits (world s ram rom tape log) ≡ true) (good : sound (world s ram rom tape log) ≡ true) (calls : StepsCalled rom tape s ram log k v ram' log' b) where
  -- as many as the budget
  pub calls_are_a_run : Runs k s ram rom tape log 0 v ram' log' k b
  calls_are_a_run =
      let r = walked rom tape bytes k s v ram ram' log log' b calls in
      let e = run_only k (world s ram rom tape log) _ (spent fit good r.walk) in
      record { within = le_refl k; most = r.most; is = rw (e, walk_long k _ _ r.steps r.walk, r.sum) }

  -- or fewer, and the next one is refused
  pub calls_then_a_refusal : {budget n : ℕ} {u : State} {ram₂ log₂ : List ℕ} {c : Bus}
      → k < budget → Steps v ram' rom tape log' n u ram₂ log₂ c → (n ≡ 0 → ⊥) → Runs budget s ram rom tape log n v ram' log' k b
  calls_then_a_refusal {budget} {n} {u} {ram₂} {log₂} {c} l x h =
      let r = walked rom tape bytes k s v ram ram' log log' b calls in
      let d = refuses (world v ram' rom tape log') (world u ram₂ rom tape log₂) n c x.is h in
      let e = run_only budget (world s ram rom tape log) _ (stopped fit good l r.walk d.1) in
      let i : k ≤ budget = omega arith in
      record { within = i; most = r.most; is = rw (e, walk_long k _ _ r.steps r.walk, r.sum) }

-- ---- what a run reports, as what it came to

record CameTo (r : Ran) (n : ℕ) (v : World) (k : ℕ) (b : Bus) : Type 0 where
  steps : List FinishedStep
  refused : List Event
  is : r ≡ ran n v steps refused
  long : length steps ≡ k
  sum : tally_all steps ≡ b

came_to : (r : Ran) (n : ℕ) (v : World) (k : ℕ) (b : Bus) → ran_report r ≡ run_reported n v k b → CameTo r n v k b
came_to (ran m w l t) n v k b e =
    let x : m ≡ n = cc in
    let y : w ≡ v = cc in
    let z : length l ≡ k = cc in
    let u : tally_all l ≡ b = cc in
    record { steps = l; refused = t; is = rw (x, y); long = z; sum = u }

-- a stopped run: the steps that it has done are a run by themselves, which answers 0
pub stopped_run_keeps : {budget : ℕ} {s : State} {ram rom tape log : List ℕ} {n : ℕ} {v : State} {ram' log' : List ℕ} {k : ℕ} {b : Bus}
    → fits (world s ram rom tape log) ≡ true → sound (world s ram rom tape log) ≡ true
    → Runs budget s ram rom tape log n v ram' log' k b → Runs k s ram rom tape log 0 v ram' log' k b
stopped_run_keeps {budget} {s} {ram} {rom} {tape} {log} {n} {v} {ram'} {log'} {k} {b} f g r =
    let c = came_to (runs budget (world s ram rom tape log)) n (world v ram' rom tape log') k b r.is in
    let e = rw c.long at (stopped_keeps budget (world s ram rom tape log) n (world v ram' rom tape log') c.steps c.refused f g c.is) in
    record { within = le_refl k; most = r.most; is = rw (e, c.long, c.sum) }

-- a run of which all steps were done, and a run from there
pub two_runs : {x y : ℕ} {s : State} {ram rom tape log : List ℕ} {n m : ℕ} {u v : State} {ram₁ ram₂ log₁ log₂ : List ℕ} {k : ℕ} {b c : Bus}
    → length s.file ≡ 14 → Runs x s ram rom tape log n u ram₁ log₁ x b → Runs y u ram₁ rom tape log₁ m v ram₂ log₂ k c
    → Runs (x + y) s ram rom tape log m v ram₂ log₂ (x + k) (b ⊕ c)
two_runs {x} {y} {s} {ram} {rom} {tape} {log} {n} {m} {u} {v} {ram₁} {ram₂} {log₁} {log₂} {k} {b} {c} l p q =
    let d = came_to (runs x (world s ram rom tape log)) n (world u ram₁ rom tape log₁) x b p.is in
    let e = came_to (runs y (world u ram₁ rom tape log₁)) m (world v ram₂ rom tape log₂) k c q.is in
    let z = run_splits_report x y (world s ram rom tape log) (world u ram₁ rom tape log₁) (world v ram₂ rom tape log₂) n m d.steps e.steps d.refused e.refused l d.is d.long e.is in
    let i = q.within in
    let j = p.most in
    let g = q.most in
    let within : x + k ≤ x + y = omega arith in
    let most : b.cycles + c.cycles ≤ 1028 * (x + k) = omega arith in
    record { within = within; most = most; is = z ∙ rw (e.long, d.sum, e.sum) }
