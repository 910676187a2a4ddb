-- What the reports of step and interrupt say by themselves: one result only, and what a refusal hands back.
use Prim.Native.Nat.{ℕ, ◌≤◌}
use mathlib.Core.Path.{◌≡◌}
use mathlib.Core.Bool.{Bool}
use mathlib.Core.List.{List, [], ◌∷◌}
use native.Mathlib.Omega.{arith}
use lib.Dec.{lit≤}
use Rattle.sheet.specs.declared.Bus.{Bus}
use Rattle.sheet.specs.World.{World}
use Rattle.sheet.specs.Handler.{nothing}
use Rattle.sheet.specs.Contract.{Seen, stops, ends, seen, Report, report, report_of}
use Rattle.sheet.specs.Step.{step, step_report, interrupt, interrupt_report}
use Rattle.theorems.specs.Bounds.{Bytes, step_top, interrupt_top, step_refusals, interrupt_refusals, Among, first, later, Comes, ends_in, stops_by}
use Rattle.step_answer.proofs.RunLaws.{Done, as_done}
use Rattle.theorems.proofs.BoundsStep.{step_comes, interrupt_comes}

-- ---- one report

pub report_once : (r : Report) (n n' : ℕ) (w w' : World) (b b' : Bus) → r ≡ report n w b → r ≡ report n' w' b' → (n ≡ n') × (w ≡ w') × (b ≡ b')
report_once r n n' w w' b b' e f = (cc, cc, cc)

-- ---- what a refusal hands back

-- a number other than 0 is a refusal's
pub stops_at : (w v : World) (e : Seen Unit) (n : ℕ) (b : Bus) → report_of w e ≡ report n v b → (n ≡ 0 → ⊥) → e ≡ stops n
stops_at w v (stops k) n b q h = let z : k ≡ n = cc in rw z
stops_at w v (ends tt x m) n b q h = absurd (h (cc))

-- the world that was given, and no cycle
hands_back : (w v : World) (e : Seen Unit) (n : ℕ) (b : Bus) → report_of w e ≡ report n v b → (n ≡ 0 → ⊥) → (v ≡ w) × (b ≡ nothing)
hands_back w v e n b q h = let z : report n w nothing ≡ report n v b = rw (stops_at w v e n b q h) at q in (cc, cc)

pub step_hands_back : (w v : World) (n : ℕ) (b : Bus) → step_report w ≡ report n v b → (n ≡ 0 → ⊥) → (v ≡ w) × (b ≡ nothing)
unfolding step_report
step_hands_back w v n b = hands_back w v (seen (step w)) n b

pub interrupt_hands_back : (vector : ℕ) (maskable : Bool) (w v : World) (n : ℕ) (b : Bus) → interrupt_report vector maskable w ≡ report n v b → (n ≡ 0 → ⊥) → (v ≡ w) × (b ≡ nothing)
unfolding interrupt_report
interrupt_hands_back vector maskable w v n b = hands_back w v (seen (interrupt vector maskable w)) n b

-- ---- 0 is given exactly for what was done

-- every number of a list is positive
abbrev Positive : List ℕ → Type 0
Positive [] = Unit {0}
Positive (j ∷ l) = (1 ≤ j) × Positive l

positive : (l : List ℕ) (k : ℕ) → Positive l → Among k l → 1 ≤ k
positive (j ∷ l) k h first = h.0
positive (j ∷ l) k h (later a) = positive l k h.1 a
positive [] k h x'' = elim x'' [ ]

ends_at_zero : (n : ℕ) (refusals : List ℕ) → Positive refusals → (w v : World) (b : Bus) (e : Seen Unit) → Comes n refusals e → report_of w e ≡ report 0 v b → e ≡ ends tt v b
ends_at_zero n refusals p w v b (ends tt x m) (ends_in h) q =
    let y : x ≡ v = cc in
    let z : m ≡ b = cc in
    rw (y, z)
ends_at_zero n refusals p w v b (stops k) (stops_by a) q =
    let z : k ≡ 0 = cc in
    let l = positive refusals k p a in
    absurd (omega arith)

pub step_done : (w v : World) (b : Bus) → Bytes w.ram → Bytes w.rom → step_report w ≡ report 0 v b → Done (step w) v b
unfolding step_report
step_done w v b h g e =
    as_done (step w) v b (ends_at_zero step_top step_refusals (lit≤ tt, (lit≤ tt, (lit≤ tt, (lit≤ tt, (lit≤ tt, (lit≤ tt, (lit≤ tt, tt))))))) w v b (seen (step w)) (step_comes w h g) e)

pub interrupt_done : (vector : ℕ) (maskable : Bool) (w v : World) (b : Bus) → interrupt_report vector maskable w ≡ report 0 v b → Done (interrupt vector maskable w) v b
unfolding interrupt_report
interrupt_done vector maskable w v b e =
    as_done (interrupt vector maskable w) v b (ends_at_zero interrupt_top interrupt_refusals (lit≤ tt, (lit≤ tt, (lit≤ tt, (lit≤ tt, tt)))) w v b (seen (interrupt vector maskable w)) (interrupt_comes vector maskable w) e)
