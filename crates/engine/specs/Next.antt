-- The instruction that is next.
use Rattle.std.specs.Prelude.{ℕ, List, get_or}
use Rattle.sheet.specs.declared.Instr.{Instr}
use Rattle.sheet.specs.Width.{pick}
use Rattle.sheet.specs.Psw.{native_of}
use Rattle.sheet.specs.Registers.{PS, PC, PSW}
use Rattle.sheet.specs.FirstByte.{instruction}
use Rattle.sheet.specs.CardCodes.{card_instruction}
use Rattle.sheet.specs.Step.{code_byte}
use Rattle.code_answer.specs.Answer.{Answer, Decodes}

-- what stands at PS:PC in the mode in force
pub record NextIn (f ram rom : List ℕ) (r : Answer Instr) : Type 0 where
  pub is : Decodes (pick (native_of (get_or f PSW 0)) instruction card_instruction) (code_byte ram rom (get_or f PS 0) (get_or f PC 0)) 0 r
