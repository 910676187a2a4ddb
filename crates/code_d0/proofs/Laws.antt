-- What each return of the code comes to, over plain values.
use Rattle.sheet.specs.declared.Instr.{Instr}
use Rattle.std.specs.Prelude.{Err}
use Rattle.sheet.specs.declared.Refusal.TheVariants.{UnknownInstruction}
use Prim.Native.Nat.{ℕ}
use mathlib.Core.Path.{◌≡◌}
use borrow.Author.Tests.{eq-eqb, ne_eqb}
use Rattle.sheet.specs.declared.Convert.{Convert}
use Rattle.sheet.specs.Groups.{Converts}
use Rattle.sheet.specs.Reading.{byte}
use Rattle.sheet.specs.FirstByte.{after_ten}
use Rattle.sheet.specs.Contract.{Reads}
use Rattle.code_answer.specs.Answer.{Answer, known_as, Decodes}
use Rattle.code_answer.proofs.DecodesLaws.{decodes_seq, decodes_allowed, decodes_barred, decodes_known}

module _ {src : ℕ → ℕ} {i j t : ℕ} (x : Reads ℕ byte src i t j) where
  pub ten_follows : (c : Convert) {r : Answer Instr} → t ≡ 0x0a → r ≡ known_as (Converts c) j → Decodes (after_ten c) src i r
  unfolding after_ten
  ten_follows c h e = decodes_seq _ x (decodes_allowed _ (eq-eqb t 0x0a h) (decodes_known e))

  pub no_ten : (c : Convert) → (t ≡ 0x0a → ⊥) → Decodes (after_ten c) src i (Err UnknownInstruction)
  unfolding after_ten
  no_ten c h = decodes_seq _ x (decodes_barred _ (ne_eqb t 0x0a h))
