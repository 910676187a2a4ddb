-- Refusals: the number of each, and the number of a call's answer.
-- 01:33-48; 02 a, e, f
use Rattle.std.specs.Prelude.{ℕ, Result, Ok, Err}
use Rattle.sheet.specs.declared.Refusal.{Refusal}
use Rattle.sheet.specs.declared.Refusal.TheVariants as refusal

abbrev pub refusal_number : Refusal → ℕ
refusal_number refusal.TooMuchMemory = 1
refusal_number refusal.BadState = 2
refusal_number refusal.UnknownInstruction = 3
refusal_number refusal.FourthPrefix = 4
refusal_number refusal.TapeTooShort = 5
refusal_number refusal.NoRoom = 6
refusal_number refusal.Masked = 7
refusal_number refusal.Halted = 8
refusal_number refusal.MalformedRecord = 9
refusal_number refusal.MalformedLine = 10
refusal_number refusal.WrongChecksum = 11
refusal_number refusal.OutsideImage = 12
refusal_number refusal.AfterSegmentLoad = 13
refusal_number refusal.NotAListing = 16
refusal_number refusal.ImageTooLong = 17

-- 0 where it is done
abbrev pub number_in : {A : Type 0} → Result A Refusal → ℕ
number_in (Ok a) = 0
number_in (Err r) = refusal_number r
