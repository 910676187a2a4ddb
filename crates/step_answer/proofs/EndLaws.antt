-- A run's number says how it ended: no two refusals have the same.
use Prim.Native.Nat.{ℕ}
use mathlib.Core.List.{List, [], ◌∷◌}
use mathlib.Core.Path.{◌≡◌, refl, sym, ap, ◌∙◌}
use lib.ListN.{get_or}
use Rattle.std.specs.Prelude.{Result, Ok, Err}
use Rattle.sheet.specs.declared.Refusal.{Refusal}
use Rattle.sheet.specs.declared.Refusal.TheVariants.{TooMuchMemory, BadState, UnknownInstruction, FourthPrefix, TapeTooShort, NoRoom, Masked, Halted, MalformedRecord, MalformedLine, WrongChecksum, OutsideImage, AfterSegmentLoad, NotAListing, ImageTooLong}
use Rattle.sheet.specs.Refusals.{refusal_number, number_in}
use Rattle.sheet.proofs.RefusalLaws.{refusal_some}

-- the refusals by their numbers; no refusal has 0, 14 or 15
by_number : List Refusal
by_number = BadState ∷ TooMuchMemory ∷ BadState ∷ UnknownInstruction ∷ FourthPrefix ∷ TapeTooShort ∷ NoRoom ∷ Masked ∷ Halted ∷ MalformedRecord ∷ MalformedLine ∷ WrongChecksum ∷ OutsideImage ∷ AfterSegmentLoad ∷ BadState ∷ BadState ∷ NotAListing ∷ ImageTooLong ∷ []

back : (r : Refusal) → get_or by_number (refusal_number r) BadState ≡ r
unfolding by_number
back TooMuchMemory = refl
back BadState = refl
back UnknownInstruction = refl
back FourthPrefix = refl
back TapeTooShort = refl
back NoRoom = refl
back Masked = refl
back Halted = refl
back MalformedRecord = refl
back MalformedLine = refl
back WrongChecksum = refl
back OutsideImage = refl
back AfterSegmentLoad = refl
back NotAListing = refl
back ImageTooLong = refl

pub refusal_known : (a b : Refusal) → refusal_number a ≡ refusal_number b → a ≡ b
refusal_known a b e = sym (back a) ∙ ap (λ n. get_or by_number n BadState) e ∙ back b

pub end_known : (a b : Result Unit Refusal) → number_in a ≡ number_in b → a ≡ b
end_known (Ok u) (Ok v) e = refl
end_known (Ok u) (Err b) e = absurd (refusal_some b (sym e))
end_known (Err a) (Ok v) e = absurd (refusal_some a e)
end_known (Err a) (Err b) e = ap (λ (r : Refusal). Err r) (refusal_known a b e)
