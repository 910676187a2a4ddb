-- No refusal has the number 0, which says that a call is done.
use Rattle.std.proofs.Common.{◌≡◌, ℕ, arith}
use Rattle.sheet.specs.declared.Refusal.{Refusal}
use Rattle.sheet.specs.declared.Refusal.TheVariants as refusal
use Rattle.sheet.specs.Refusals.{refusal_number}

pub refusal_some : (r : Refusal) → refusal_number r ≡ 0 → ⊥
refusal_some refusal.TooMuchMemory e = omega arith
refusal_some refusal.BadState e = omega arith
refusal_some refusal.UnknownInstruction e = omega arith
refusal_some refusal.FourthPrefix e = omega arith
refusal_some refusal.TapeTooShort e = omega arith
refusal_some refusal.NoRoom e = omega arith
refusal_some refusal.Masked e = omega arith
refusal_some refusal.Halted e = omega arith
refusal_some refusal.MalformedRecord e = omega arith
refusal_some refusal.MalformedLine e = omega arith
refusal_some refusal.WrongChecksum e = omega arith
refusal_some refusal.OutsideImage e = omega arith
refusal_some refusal.AfterSegmentLoad e = omega arith
refusal_some refusal.NotAListing e = omega arith
refusal_some refusal.ImageTooLong e = omega arith
