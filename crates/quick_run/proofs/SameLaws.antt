-- One promise, one result.
use Prim.Native.Nat.{ℕ}
use mathlib.Core.List.{List, [], ◌∷◌}
use mathlib.Core.Path.{◌≡◌, refl, sym, ap, ◌∙◌}
use lib.ListN.{get_or}
use Rattle.std.specs.Prelude.{Result, Ok, Err}
use Rattle.sheet.specs.declared.Refusal.{Refusal}
use Rattle.sheet.specs.declared.Refusal.TheVariants as refusal
use Rattle.sheet.specs.declared.State.{State}
use Rattle.sheet.specs.Refusals.{number_in, refusal_number}
use Rattle.sheet.proofs.RefusalLaws.{refusal_some}
use Rattle.step_answer.specs.declared.Ran.{Ran}
use Rattle.step_answer.specs.Runs.{Runs}
use Rattle.theorems.proofs.CallsCode.{run_once}

-- a refusal by its number
abbrev numbered : ℕ → Refusal
numbered n =
    get_or
    (refusal.TooMuchMemory ∷ refusal.TooMuchMemory ∷ refusal.BadState ∷ refusal.UnknownInstruction ∷ refusal.FourthPrefix ∷ refusal.TapeTooShort ∷ refusal.NoRoom ∷ refusal.Masked ∷ refusal.Halted ∷ refusal.MalformedRecord ∷ refusal.MalformedLine
    ∷ refusal.WrongChecksum ∷ refusal.OutsideImage ∷ refusal.AfterSegmentLoad ∷ refusal.NotAListing ∷ refusal.NotAListing ∷ refusal.NotAListing ∷ refusal.ImageTooLong ∷ [])
    n refusal.ImageTooLong

by_number : (e : Refusal) → numbered (refusal_number e) ≡ e
by_number refusal.TooMuchMemory = refl
by_number refusal.BadState = refl
by_number refusal.UnknownInstruction = refl
by_number refusal.FourthPrefix = refl
by_number refusal.TapeTooShort = refl
by_number refusal.NoRoom = refl
by_number refusal.Masked = refl
by_number refusal.Halted = refl
by_number refusal.MalformedRecord = refl
by_number refusal.MalformedLine = refl
by_number refusal.WrongChecksum = refl
by_number refusal.OutsideImage = refl
by_number refusal.AfterSegmentLoad = refl
by_number refusal.NotAListing = refl
by_number refusal.ImageTooLong = refl

same_end : (x y : Result Unit Refusal) → number_in x ≡ number_in y → x ≡ y
same_end (Ok a) (Ok b) h = refl
same_end (Ok a) (Err e) h = absurd (refusal_some e (sym h))
same_end (Err e) (Ok a) h = absurd (refusal_some e h)
same_end (Err e) (Err u) h = let z : e ≡ u = sym (by_number e) ∙ (ap numbered h ∙ by_number u) in rw z

pub quick_run_is_run : (budget : ℕ) (s : State) (ram rom tape log ram₂ log₂ ram' log' ram'' log'' : List ℕ) (a b : Ran) → (ram₂ ≡ ram) × (log₂ ≡ log)
    → Runs budget s ram rom tape log (number_in a.end) a.state ram' log' a.steps a.bus → Runs budget s ram₂ rom tape log₂ (number_in b.end) b.state ram'' log'' b.steps b.bus
    → (b ≡ a) × (ram'' ≡ ram') × (log'' ≡ log')
quick_run_is_run budget s ram rom tape log ram₂ log₂ ram' log' ram'' log'' a b (e, h) x y =
    let (number, state, left, written, steps, bus) = run_once (rw (e, h) at y) x in
    (rw (same_end b.end a.end number, state, steps, bus), left, written)
