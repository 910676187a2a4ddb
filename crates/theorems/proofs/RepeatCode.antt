-- Demand 3 of the code, by the contracts of its calls.
use Prim.Native.Nat.{ℕ, zero, suc, ◌≤◌, zero-le}
use mathlib.Core.Path.{◌≡◌, refl, sym, ap, subst, ◌∙◌}
use mathlib.Core.Bool.{Bool}
use mathlib.Core.List.{List, [], ◌∷◌, ◌++◌}
use lib.ListN.{length}
use Rattle.sheet.specs.declared.Bus.{Bus}
use Rattle.sheet.specs.declared.State.{State}
use Rattle.sheet.specs.World.{World, world}
use Rattle.sheet.specs.Handler.{Event, reads, writes, takes, gives, asks, copies, changes, Outcome, refused, done, kept, happened, nothing, cost, tally, ◌⊕◌}
use Rattle.sheet.specs.Contract.{seen, Report, report, report_of}
use Rattle.sheet.specs.Step.{step, interrupt, step_report, interrupt_report}
use Rattle.sheet.proofs.StepLaws.{step_leaves}
use Rattle.sheet.proofs.Rules.{no_first, no_last, ⊕_assoc}
use Rattle.theorems.specs.Bounds.{Bytes}
use Rattle.theorems.specs.Repeat.{Block, single, singles, Answered, shown, After, Demand3}
use Rattle.theorems.specs.RepeatEngines.{accesses, Tells, accepts, refuses}
use Rattle.theorems.specs.RepeatCode.{StepCall, step_call, InterruptCall, interrupt_call, code, total, events_of}
use Rattle.theorems.proofs.Repeat.{Faithful, demand3}
use Rattle.theorems.proofs.BoundsStep.{at_most_1028}

-- what a report tells
abbrev Told : World → Outcome Unit → Report → Type 0
Told w out (report number v n) = Tells tally w out number v n

told : (w : World) (out : Outcome Unit) → Told w out (report_of w (seen out))
unfolding tally
told w (refused n t) = refuses refl
told w (done a v t) = accepts refl

step_tells : {w v : World} {number : ℕ} {n : Bus} → StepCall w number v n → Tells tally w (step w) number v n
unfolding step_report
step_tells {w} (step_call h) = subst (Told w (step w)) h.is (told w (step w))

interrupt_tells : {x : ℕ} {m : Bool} {w v : World} {number : ℕ} {n : Bus} → InterruptCall x m w number v n → Tells tally w (interrupt x m w) number v n
unfolding interrupt_report
interrupt_tells {x} {m} {w} (interrupt_call h) = subst (Told w (interrupt x m w)) h.is (told w (interrupt x m w))

-- what a step comes to is summed over the accesses
pub tally_accesses : (t : List Event) → tally t ≡ tally (accesses t)
unfolding tally accesses
tally_accesses [] = refl
tally_accesses (reads b g o ∷ t) = ap (λ n. cost (reads b g o) ⊕ n) (tally_accesses t)
tally_accesses (writes b g o v d ∷ t) = ap (λ n. cost (writes b g o v d) ⊕ n) (tally_accesses t)
tally_accesses (takes b p v ∷ t) = ap (λ n. cost (takes b p v) ⊕ n) (tally_accesses t)
tally_accesses (gives b p v ∷ t) = ap (λ n. cost (gives b p v) ⊕ n) (tally_accesses t)
tally_accesses (asks f ∷ t) = no_first (tally t) ∙ tally_accesses t
tally_accesses (copies b ∷ t) = no_first (tally t) ∙ tally_accesses t
tally_accesses (changes c ∷ t) = no_first (tally t) ∙ tally_accesses t

pub code_faithful : Faithful code
code_faithful = record {
  step_tells = step_tells;
  interrupt_tells = interrupt_tells;
  same_shown = λ t t' e. tally_accesses t ∙ ap tally e ∙ sym (tally_accesses t');
}

pub code_demand3 : Demand3 code
code_demand3 = demand3 code code_faithful

-- such a call has an answer wherever code can be called: over fourteen registers and memory of bytes
answer : (w : World) (n : ℕ) (s : State) (ram log : List ℕ) (b : Bus) → b.cycles ≤ 1028 → step_report w ≡ report n (world s ram w.rom w.tape log) b → Answered code w
answer w n s ram log b m e = (n, world s ram w.rom w.tape log, b, step_call (record { most = m; is = e }))

pub code_answers : (w : World) → length w.state.file ≡ 14 → Bytes w.ram → Bytes w.rom → Answered code w
unfolding step_report step
code_answers w whole ram rom = go (step w) refl
  where
    go : (out : Outcome Unit) → step w ≡ out → Answered code w
    go (refused n t) e = answer w n w.state w.ram w.log nothing zero-le (rw e)
    go (done a v t) e =
        let g = (step_leaves kept w v t whole e).lent in
        answer w 0 v.state v.ram v.log (tally t) (at_most_1028 w v t ram rom e) (rw (e, ← g.rom_same, ← g.tape_same))

-- ---- the own steps' cycles and dropped bytes together

pub tally_both : (t u : List Event) → tally (t ++ u) ≡ tally t ⊕ tally u
unfolding tally
tally_both [] u = sym (no_first (tally u))
tally_both (e ∷ t) u = rw (tally_both t u) (sym (⊕_assoc (cost e) (tally t) (tally u)))

total_last : (l : List Bus) (n : Bus) → total (l ++ (n ∷ [])) ≡ total l ⊕ n
unfolding total
total_last [] n = no_last n ∙ sym (no_first n)
total_last (m ∷ l) n = ap (λ x. m ⊕ x) (total_last l n) ∙ sym (⊕_assoc m (total l) n)

total_shown : (i : Block) (w : World) (j : ℕ) → total (shown code i w j) ≡ tally (events_of i w j)
unfolding total shown events_of tally
total_shown i w zero = refl
total_shown i w (suc j) =
    let n : Bus = tally (happened (single i (singles i w j))) in
    total_last (shown code i w j) n ∙ ap (λ x. x ⊕ n) (total_shown i w j) ∙ sym (tally_both (events_of i w j) (happened (single i (singles i w j))))

-- what own steps 1 to j report comes to the sum over the accesses of j single primitives
pub own_cycles : {i : Block} {w v : World} {K : ℕ → Type 0} {p j : ℕ} {l : List Bus} → After code i w K p j l v → total l ≡ tally (events_of i w j)
own_cycles {i} {w} {j = j} a = ap total a.accesses ∙ total_shown i w j

pub own_dropped : {i : Block} {w v : World} {K : ℕ → Type 0} {p j : ℕ} {l : List Bus} → After code i w K p j l v → (total l).dropped ≡ (tally (events_of i w j)).dropped
own_dropped a = ap (λ (b : Bus). b.dropped) (own_cycles a)
