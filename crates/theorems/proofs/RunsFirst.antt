-- A first step that is refused by 1 or 2 is what a run of any budget answers, also of budget 0.
use Prim.Native.Nat.{ℕ, ◌≤◌, zero-le}
use mathlib.Core.Path.{◌≡◌}
use mathlib.Core.List.{List, []}
use native.Mathlib.Omega.{arith}
use Rattle.sheet.specs.declared.Bus.{Bus}
use Rattle.sheet.specs.declared.State.{State}
use Rattle.sheet.specs.World.{World, world}
use Rattle.sheet.specs.Handler.{nothing}
use Rattle.sheet.specs.Contract.{Seen, stops, seen}
use Rattle.sheet.specs.Step.{step, step_report}
use Rattle.sheet.specs.Run.{ran, runs, tally_all}
use Rattle.step_answer.specs.Steps.{Steps}
use Rattle.step_answer.specs.Runs.{Runs}
use Rattle.theorems.specs.Bounds.{Bytes}
use Rattle.theorems.specs.Runs as outcome
use Rattle.theorems.specs.Outcomes.{StepOf, too_large, unsound, asleep, fourth_prefix, no_instruction, short_tape, full_log, finished}
use Rattle.theorems.proofs.Calls.{stops_at}
use Rattle.theorems.proofs.Runs.{run_only}
use Rattle.theorems.proofs.Outcomes.{fits_not, fits_so, sound_not, step_is_of}

-- what refuses by 1 or 2 refuses a run
refused_first : (budget : ℕ) (w : World) (n : ℕ) (s : Seen Unit) → s ≡ stops n → n ≤ 2 → StepOf w s → runs budget w ≡ ran n w [] []
refused_first budget w n s e l (too_large h) = let z : n ≡ 1 = cc in rw z (run_only budget w (ran 1 w [] []) (outcome.unfit (fits_not w h)))
refused_first budget w n s e l (unsound h u) = let z : n ≡ 2 = cc in rw z (run_only budget w (ran 2 w [] []) (outcome.unsound (fits_so w h) (sound_not w u)))
refused_first budget w n s e l (asleep p h) = let z : n ≡ 8 = cc in absurd (omega arith)
refused_first budget w n s e l (fourth_prefix p h m q) = let z : n ≡ 4 = cc in absurd (omega arith)
refused_first budget w n s e l (no_instruction p h q) = let z : n ≡ 3 = cc in absurd (omega arith)
refused_first budget w n s e l (short_tape p h q k) = let z : n ≡ 5 = cc in absurd (omega arith)
refused_first budget w n s e l (full_log p h q k m) = let z : n ≡ 6 = cc in absurd (omega arith)
refused_first budget w n s e l (finished p h q k m r) = let z : ◌≡◌ {A = ℕ} 0 1 = cc in absurd (omega arith)

pub call_refused_first : {s : State} {ram rom tape log : List ℕ} {n budget : ℕ} {s' : State} {ram' log' : List ℕ} {b : Bus}
    → Bytes ram → Bytes rom → Steps s ram rom tape log n s' ram' log' b → 1 ≤ n → n ≤ 2 → Runs budget s ram rom tape log n s ram log 0 nothing
unfolding step_report tally_all
call_refused_first {s} {ram} {rom} {tape} {log} {n} {budget} {s'} {ram'} {log'} {b} h g c i j =
    let w = world s ram rom tape log in
    let e = stops_at w (world s' ram' rom tape log') (seen (step w)) n b c.is (λ z. omega arith) in
    let r = refused_first budget w n (seen (step w)) e j (step_is_of w h g) in
    record { within = zero-le; most = zero-le; is = rw r }
