-- What each return of the code comes to, over plain values.
use Prim.Native.Nat.{ℕ, zero, suc, ◌≤◌, ◌<◌}
use mathlib.Core.Bool.{false}
use mathlib.Core.Path.{◌≡◌, refl}
use mathlib.Core.List.{List}
use lib.ListN.{get_or, length, replicate}
use Rattle.sheet.specs.declared.Bus.{Bus}
use Rattle.sheet.specs.declared.State.{State}
use Rattle.sheet.specs.World.{World, world}
use Rattle.step_answer.specs.Runs.{Runs}
use Rattle.step_answer.specs.Steps.{Advances}
use Rattle.step_answer.proofs.RunLaws.{Continues, runs_stop, runs_end}
use Rattle.quick_reading.specs.declared.Slot.{Slot}
use Rattle.quick_reading.specs.Readings.{general, unused, Remembers}

-- ---- nothing is remembered at first

unused_at : (n i : ℕ) → get_or (replicate n unused) i unused ≡ unused
unused_at zero zero = refl
unused_at zero (suc i) = refl
unused_at (suc n) zero = refl
unused_at (suc n) (suc i) = unused_at n i

pub none_yet : (m : List Slot) → m ≡ replicate 1024 unused → length m ≡ 1024 → Remembers m
none_yet m e l = record { long = l; at = λ i h. rw (e, unused_at 1024 i) (general refl) }

-- ---- the ends of a run: a refusal, or the budget

pub goes_stop : {s₀ s s' : State} {ram₀ rom tape log₀ ram log ram' log' : List ℕ} {k budget number : ℕ} {c n : Bus} → Continues (world s₀ ram₀ rom tape log₀) (world s ram rom tape log) k c → k < budget
    → Advances s ram rom tape log false number s' ram' log' n → Runs budget s₀ ram₀ rom tape log₀ number s' ram' log' k c
goes_stop {s = s} {s' = s'} {budget = budget} p h a = runs_stop {budget = budget} {f = s.file} {m = s.marks} {q = s.progress} p {m' = s'.marks} {q' = s'.progress} {f' = s'.file} h refl a (rw (a.same refl).0 refl)

pub goes_end : {s₀ s : State} {ram₀ rom tape log₀ ram log : List ℕ} {k budget : ℕ} {c : Bus} → Continues (world s₀ ram₀ rom tape log₀) (world s ram rom tape log) k c → k ≤ budget → budget ≤ k → Runs budget s₀ ram₀ rom tape log₀ 0 s ram log k c
goes_end {s = s} {budget = budget} p h l = runs_end {budget = budget} {f = s.file} {m = s.marks} {q = s.progress} p h l refl
