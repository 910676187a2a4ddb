-- A reading that may be done at once.
use Rattle.std.specs.Prelude.{ℕ, ◌≡◌, true, false, List, get_or}
use Rattle.sheet.specs.declared.State.{State}
use Rattle.sheet.specs.Psw.{BRK, flag_of, native_of}
use Rattle.sheet.specs.Registers.{PS, PC, PSW}
use Rattle.sheet.specs.FirstByte.{instruction}
use Rattle.sheet.specs.Step.{code_byte}
use Rattle.code_answer.specs.Answer.{known_as, Decodes}
use Rattle.quick_place.specs.Packed.{size_of}
use Rattle.quick_pack.specs.Readings.{instr_of}

-- unless it is 0, the machine is awake, not traced, in native mode and without the permission, and r is the instruction at PS:PC
pub record Ready (s : State) (ram rom : List ℕ) (r : ℕ) : Type 0 where
  pub awake : (r ≡ 0 → ⊥) → s.marks.halted ≡ false
  pub closed : (r ≡ 0 → ⊥) → s.marks.writable ≡ false
  pub native : (r ≡ 0 → ⊥) → native_of (get_or s.file PSW 0) ≡ true
  pub untraced : (r ≡ 0 → ⊥) → flag_of (get_or s.file PSW 0) BRK ≡ false
  pub reads : (r ≡ 0 → ⊥) → Decodes instruction (code_byte ram rom (get_or s.file PS 0) (get_or s.file PC 0)) 0 (known_as (instr_of r) (size_of r))
