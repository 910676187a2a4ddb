-- The same for run: steps and cycles cannot be invented either.
use Prim.Native.Nat.{ℕ, ◌≤◌}
use mathlib.Core.Path.{◌≡◌, refl, sym, ◌∙◌, ap}
use mathlib.Core.Bool.{true}
use mathlib.Core.List.{[]}
use native.Mathlib.Omega.{arith}
use lib.ListN.{get_or}
use lib.Dec.{lit≤, lit<}
use Rattle.sheet.specs.Registers.{PC}
use Rattle.sheet.specs.World.{World}
use Rattle.sheet.specs.Handler.{refused, nothing}
use Rattle.sheet.specs.Step.{fits, sound, awake, step_by, step}
use Rattle.sheet.specs.Run.{runs, tally_all, RunReport, run_reported, ran_report}
use Rattle.sheet.proofs.SmallTable.{small_table}
use Rattle.step_answer.proofs.RunLaws.{Done}
use Rattle.theorems.specs.Runs.{none, step_then, spent, stopped}
use Rattle.sheet.specs.Lendable.{lendable}
use Rattle.mach_tally.specs.Sums.{cycles_only}
use Rattle.theorems.specs.StandIns.{MeetsRun, answer_of, left_by, steps_of, cycles_of, subtracting, subtracted, asleep}
use Rattle.theorems.proofs.Calls.{step_done}
use Rattle.theorems.proofs.CallsStandIns.{bytes_of, shared}
use Rattle.theorems.proofs.Runs.{run_only}

-- ---- two runs: one step of SUB4S, and five of a halted machine

one_step : Done (step subtracting) subtracted (cycles_only 3)
one_step = step_done subtracting subtracted (cycles_only 3) (bytes_of subtracting.ram refl) (bytes_of subtracting.rom refl) small_table.sub4s

run_one : ran_report (runs 1 subtracting) ≡ run_reported 0 subtracted 1 (cycles_only 3)
unfolding fits sound tally_all
run_one =
    let r = run_only 1 subtracting _ (spent refl refl (step_then one_step.is none)) in
    rw (r, one_step.sum)

asleep_refuses : step asleep ≡ refused 8 []
unfolding step step_by awake fits sound
asleep_refuses = refl

run_asleep : ran_report (runs 5 asleep) ≡ run_reported 8 asleep 0 nothing
unfolding fits sound tally_all
run_asleep = rw (run_only 5 asleep _ (stopped refl refl (lit< tt) none asleep_refuses))

-- ---- engines

module _ (engine : ℕ → World → RunReport) (meets : MeetsRun engine) where
  at_one : engine 1 subtracting ≡ run_reported 0 subtracted 1 (cycles_only 3)
  at_one = sym (meets 1 subtracting (lit≤ tt) refl) ∙ run_one

  at_asleep : engine 5 asleep ≡ run_reported 8 asleep 0 nothing
  at_asleep = sym (meets 5 asleep (lit≤ tt) refl) ∙ run_asleep

  -- an engine that always stops with a refusal
  pub not_always_refusing : ((budget : ℕ) (w : World) → budget ≤ 65535 → lendable w ≡ true → answer_of (engine budget w) ≡ 0 → ⊥) → ⊥
  not_always_refusing h = h 1 subtracting (lit≤ tt) refl (rw at_one)

  -- one that does nothing
  pub not_idle : ((budget : ℕ) (w : World) → budget ≤ 65535 → lendable w ≡ true → left_by (engine budget w) ≡ w) → ⊥
  not_idle h =
      let y : subtracted ≡ subtracting = ap left_by (sym at_one) ∙ h 1 subtracting (lit≤ tt) refl in
      let x : ◌≡◌ {A = ℕ} 2 0 = ap (λ (w : World). get_or w.state.file PC 0) y in
      omega arith

  -- one with invented step counts: the budget itself, or a fixed number
  pub not_the_budget : ((budget : ℕ) (w : World) → budget ≤ 65535 → lendable w ≡ true → steps_of (engine budget w) ≡ budget) → ⊥
  not_the_budget h =
      let z : steps_of (engine 5 asleep) ≡ 0 = rw at_asleep in
      let y = h 5 asleep (lit≤ tt) refl in
      omega arith

  pub not_fixed_steps : (k : ℕ) → ((budget : ℕ) (w : World) → budget ≤ 65535 → lendable w ≡ true → steps_of (engine budget w) ≡ k) → ⊥
  not_fixed_steps k h = let z : ◌≡◌ {A = ℕ} 0 1 = shared steps_of at_asleep at_one (h 5 asleep (lit≤ tt) refl) (h 1 subtracting (lit≤ tt) refl) in omega arith

  -- one with invented cycle counts
  pub not_fixed_cycles : (c : ℕ) → ((budget : ℕ) (w : World) → budget ≤ 65535 → lendable w ≡ true → cycles_of (engine budget w) ≡ c) → ⊥
  not_fixed_cycles c h = let z : ◌≡◌ {A = ℕ} 0 3 = shared cycles_of at_asleep at_one (h 5 asleep (lit≤ tt) refl) (h 1 subtracting (lit≤ tt) refl) in omega arith
