-- The calls in code, by their contracts: one result only, and what a refusal hands back.
use Prim.Native.Nat.{ℕ}
use mathlib.Core.Path.{◌≡◌, sym, ◌∙◌, ap}
use mathlib.Core.Bool.{Bool}
use mathlib.Core.List.{List, []}
use Rattle.sheet.specs.declared.Bus.{Bus}
use Rattle.sheet.specs.declared.State.{State}
use Rattle.sheet.specs.declared.Entry.{Entry}
use Rattle.sheet.specs.World.{World, world}
use Rattle.sheet.specs.Handler.{nothing}
use Rattle.sheet.specs.Contract.{Report, report}
use Rattle.sheet.specs.Step.{reset}
use Rattle.sheet.specs.Run.{RunReport, run_reported}
use Rattle.sheet.specs.declared.GapRule.{GapRule}
use Rattle.log_reader.specs.Answer.{Answers}
use Rattle.step_answer.specs.Calls.{Interrupts}
use Rattle.step_answer.specs.Steps.{Steps}
use Rattle.step_answer.specs.Runs.{Runs}
use Rattle.theorems.specs.StandIns.{subtracting, subtracted, asleep}
use Rattle.theorems.proofs.Calls.{report_once, step_hands_back, interrupt_hands_back}
use Rattle.theorems.proofs.CallsStandIns.{asleep_refused}
use Rattle.sheet.proofs.SmallTable.{small_table}
use Rattle.mach_tally.specs.Sums.{cycles_only}

-- ---- what code returns and lends back, as a world

-- worlds that are alike have like parts, and so have reports
parts : (s s₂ : State) (ram ram₂ rom tape log log₂ : List ℕ) → world s ram rom tape log ≡ world s₂ ram₂ rom tape log₂ → (s ≡ s₂) × (ram ≡ ram₂) × (log ≡ log₂)
parts s s₂ ram ram₂ rom tape log log₂ e = (ap (λ (w : World). w.state) e, ap (λ (w : World). w.ram) e, ap (λ (w : World). w.log) e)

reported : {r : Report} {n n₂ : ℕ} {s s₂ : State} {ram ram₂ rom tape log log₂ : List ℕ} {b b₂ : Bus} → r ≡ report n (world s ram rom tape log) b → r ≡ report n₂ (world s₂ ram₂ rom tape log₂) b₂
    → (n ≡ n₂) × (s ≡ s₂) × (ram ≡ ram₂) × (log ≡ log₂) × (b ≡ b₂)
reported e f =
    let (number, left, bus) = report_once _ _ _ _ _ _ _ e f in
    let (state, ram, log) = parts _ _ _ _ _ _ _ _ left in
    (number, state, ram, log, bus)

-- ---- one result only

pub step_once : {s : State} {ram rom tape log : List ℕ} {n n₂ : ℕ} {s' s₂ : State} {ram' ram₂ log' log₂ : List ℕ} {b b₂ : Bus}
    → Steps s ram rom tape log n s' ram' log' b → Steps s ram rom tape log n₂ s₂ ram₂ log₂ b₂
    → (n ≡ n₂) × (s' ≡ s₂) × (ram' ≡ ram₂) × (log' ≡ log₂) × (b ≡ b₂)
step_once x y = reported x.is y.is

pub interrupt_once : {vector : ℕ} {maskable : Bool} {s : State} {ram rom tape log : List ℕ} {n n₂ : ℕ} {s' s₂ : State} {ram' ram₂ : List ℕ} {b b₂ : Bus}
    → Interrupts vector maskable s ram rom tape log n s' ram' b → Interrupts vector maskable s ram rom tape log n₂ s₂ ram₂ b₂
    → (n ≡ n₂) × (s' ≡ s₂) × (ram' ≡ ram₂) × (b ≡ b₂)
interrupt_once x y = let (number, state, ram, log, bus) = reported x.is y.is in (number, state, ram, bus)

report_of_run_once : (r : RunReport) (n n₂ : ℕ) (w w₂ : World) (k k₂ : ℕ) (b b₂ : Bus) → r ≡ run_reported n w k b → r ≡ run_reported n₂ w₂ k₂ b₂ → (n ≡ n₂) × (w ≡ w₂) × (k ≡ k₂) × (b ≡ b₂)
report_of_run_once r n n₂ w w₂ k k₂ b b₂ e f = (cc, cc, cc, cc)

pub run_once : {budget : ℕ} {s : State} {ram rom tape log : List ℕ} {n n₂ : ℕ} {s' s₂ : State} {ram' ram₂ log' log₂ : List ℕ} {k k₂ : ℕ} {b b₂ : Bus}
    → Runs budget s ram rom tape log n s' ram' log' k b → Runs budget s ram rom tape log n₂ s₂ ram₂ log₂ k₂ b₂
    → (n ≡ n₂) × (s' ≡ s₂) × (ram' ≡ ram₂) × (log' ≡ log₂) × (k ≡ k₂) × (b ≡ b₂)
run_once x y =
    let (number, left, steps, bus) = report_of_run_once _ _ _ _ _ _ _ _ _ x.is y.is in
    let (state, ram, log) = parts _ _ _ _ _ _ _ _ left in
    (number, state, ram, log, steps, bus)

pub reset_once : {s s₂ : State} → s ≡ reset → s₂ ≡ reset → s ≡ s₂
reset_once e f = e ∙ sym f

-- what the log reader answers at a place
pub entry_once : {g : GapRule} {log : List ℕ} {at : ℕ} {e e₂ : Entry} → Answers g log at e → Answers g log at e₂ → e ≡ e₂
entry_once x y = x.answer ∙ sym y.answer

-- ---- what a refusal hands back

pub step_refused : {s : State} {ram rom tape log : List ℕ} {n : ℕ} {s' : State} {ram' log' : List ℕ} {b : Bus}
    → Steps s ram rom tape log n s' ram' log' b → (n ≡ 0 → ⊥) → (s' ≡ s) × (ram' ≡ ram) × (log' ≡ log) × (b ≡ nothing)
step_refused x h =
    let (left, bus) = step_hands_back _ _ _ _ x.is h in
    let (state, ram, log) = parts _ _ _ _ _ _ _ _ left in
    (state, ram, log, bus)

pub interrupt_refused : {vector : ℕ} {maskable : Bool} {s : State} {ram rom tape log : List ℕ} {n : ℕ} {s' : State} {ram' : List ℕ} {b : Bus}
    → Interrupts vector maskable s ram rom tape log n s' ram' b → (n ≡ 0 → ⊥) → (s' ≡ s) × (ram' ≡ ram) × (b ≡ nothing)
interrupt_refused x h =
    let (left, bus) = interrupt_hands_back _ _ _ _ _ _ x.is h in
    let (state, ram, log) = parts _ _ _ _ _ _ _ _ left in
    (state, ram, bus)

-- ---- no stand-in: whatever code answers on two machines

pub code_subtracts : {n : ℕ} {s' : State} {ram' log' : List ℕ} {b : Bus} → Steps subtracting.state subtracting.ram [] [] [] n s' ram' log' b
    → (n ≡ 0) × (s' ≡ subtracted.state) × (ram' ≡ subtracted.ram) × (b ≡ cycles_only 3)
code_subtracts x = let (number, state, ram, log, bus) = reported x.is small_table.sub4s in (number, state, ram, bus)

pub code_asleep : {n : ℕ} {s' : State} {ram' log' : List ℕ} {b : Bus} → Steps asleep.state asleep.ram [] [] [] n s' ram' log' b → (n ≡ 8) × (s' ≡ asleep.state) × (b ≡ nothing)
code_asleep x = let (number, state, ram, log, bus) = reported x.is asleep_refused in (number, state, bus)
