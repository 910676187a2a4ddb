-- What each return of the code comes to, over plain values.
use Rattle.std.specs.Prelude.{Ok}
use Prim.Native.Nat.{ℕ}
use mathlib.Core.Path.{◌≡◌}
use mathlib.Core.Bool.{Bool}
use Rattle.sheet.specs.declared.Place.{Place}
use Rattle.sheet.specs.declared.Prefixes.{Prefixes}
use Rattle.sheet.specs.declared.Source.TheVariants.{Immediate}
use Rattle.sheet.specs.declared.Transfer.TheVariants.{Mov}
use Rattle.sheet.specs.declared.Instr.{Instr}
use Rattle.sheet.specs.Groups.{Transfers}
use Rattle.sheet.specs.Reading.{got, ◌>>=◌, immediate}
use Rattle.sheet.specs.SecondByte.{plain_place}
use Rattle.code_answer.specs.Answer.{Answer, known_as, Takes, Decodes}
use Rattle.code_answer.proofs.DecodesLaws.{decodes_seq, decodes_known}
use Rattle.code_operand.specs.Operands.{Operands, plain_of}
use Rattle.code_operand.proofs.OperandsLaws.{field_is_0, plain_reads}

-- an immediate to a place
pub move_immediate_lem : {p : Prefixes} {src : ℕ → ℕ} {i reg j : ℕ} {a : Place} (o : Operands p src i reg a j) (w : Bool) {t : Place} {v k : ℕ} {r : Answer Instr} → Ok t ≡ plain_of reg a → Takes ℕ (immediate w) src j v k 2
    → r ≡ known_as (Transfers (Mov w t (Immediate v))) k → Decodes (plain_place p >>= (λ x. immediate w >>= (λ v. got (Transfers (Mov w x (Immediate v)))))) src i r
move_immediate_lem {reg = reg} {a = a} o w {t = t} z x e = let (f, g) = field_is_0 reg a t z in decodes_seq _ (plain_reads o f) (decodes_seq _ x.reads (decodes_known (rw g at e)))
