-- Shifts, which the reg field names.
use Prim.Native.Nat.{ℕ}
use mathlib.Core.Path.{◌≡◌, refl}
use Rattle.std.specs.Prelude.{Option, None, Some, Ok, Err, ok_or}
use Rattle.sheet.specs.declared.Instr.{Instr}
use Rattle.sheet.specs.declared.Refusal.{Refusal}
use Rattle.sheet.specs.declared.Refusal.TheVariants.{UnknownInstruction}
use lib.ListN.{get_or}
use Rattle.sheet.specs.declared.Place.{Place}
use Rattle.sheet.specs.declared.Places.{Places}
use Rattle.sheet.specs.declared.Places.TheVariants.{Counted}
use Rattle.sheet.specs.declared.Amount.TheVariants.{Given}
use Rattle.sheet.specs.declared.Shift.{Shift}
use Rattle.sheet.specs.declared.Prefixes.{Prefixes}
use Rattle.sheet.specs.Groups.{Shifts}
use Rattle.sheet.specs.Reading.{Reading, byte}
use Rattle.sheet.specs.Encoding.{W, reg_field}
use Rattle.sheet.specs.FirstByte.{shifts, with_shift, shift_group, with_counted}
use Rattle.sheet.specs.Contract.{Reads}
use Rattle.sheet.proofs.ReadingLaws.{reads_seq, reads_got}
use Rattle.code_answer.specs.Answer.{Answer, known_as, Decodes}
use Rattle.code_answer.proofs.DecodesLaws.{Exits, left_by, decodes_known, decodes_no, decodes_seq}
use Rattle.code_operand.specs.Operands.{Operands, shift_of}

pub counted_reads : {src : ℕ → ℕ} {i j n : ℕ} → Reads ℕ byte src i n j → Reads Places with_counted src i (Counted (Given n)) j
unfolding with_counted
counted_reads x = reads_seq _ x reads_got

shift_some : (o : Option Shift) (s : Shift) → Ok s ≡ ok_or o UnknownInstruction → o ≡ Some s
shift_some (Some t) s e = cc
shift_some None s e = cc

shift_none : (o : Option Shift) (e : Refusal) → Err e ≡ ok_or o UnknownInstruction → (o ≡ None) × (e ≡ UnknownInstruction)
shift_none (Some t) e h = cc
shift_none None e h = (refl, cc)

module _ {p : Prefixes} {src : ℕ → ℕ} {i reg j : ℕ} {a : Place} (o : Operands p src i reg a j) where
  pub shift_group_lem : (count : Reading Places) (n : ℕ) {s : Shift} {c : Places} {k : ℕ} {r : Answer Instr} → Ok s ≡ shift_of reg → Reads Places count src j c k → r ≡ known_as (Shifts s (W n) a c) k
      → Decodes (shift_group p count n) src i r
  unfolding shift_group with_shift
  shift_group_lem count n h x e =
      let q : get_or shifts (reg_field o.m) None ≡ Some _ = rw o.field at (shift_some _ _ h) in
      decodes_seq _ o.code (rw q (decodes_seq _ o.named (decodes_seq _ x (decodes_known e))))

  pub no_shift : (count : Reading Places) (n : ℕ) (e : Refusal) {r : Answer Instr} → Err e ≡ shift_of reg → Exits r e → Decodes (shift_group p count n) src i r
  unfolding shift_group with_shift
  no_shift count n e h x =
      let (g, t) = shift_none _ e h in
      let q : get_or shifts (reg_field o.m) None ≡ None = rw o.field at g in
      left_by x t (decodes_seq _ o.code (rw q decodes_no))
