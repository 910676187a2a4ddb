-- Instructions that a number follows, or nothing.
use Prim.Native.Nat.{ℕ}
use mathlib.Core.Path.{◌≡◌}
use mathlib.Core.Bool.{Bool}
use Rattle.sheet.specs.declared.Instr.{Instr}
use Rattle.sheet.specs.declared.Source.{Source}
use Rattle.sheet.specs.declared.Source.TheVariants.{Immediate}
use Rattle.sheet.specs.Reading.{byte, word, signed_byte, immediate}
use Rattle.sheet.specs.FirstByte.{with_byte, with_word, with_short, with_far, with_acc}
use Rattle.sheet.specs.Contract.{Reads}
use Rattle.code_answer.specs.Answer.{Answer, known_as, Takes, Decodes}
use Rattle.code_answer.proofs.DecodesLaws.{decodes_known, decodes_seq}

module _ {src : ℕ → ℕ} {i : ℕ} {r : Answer Instr} where
  module _ {j v : ℕ} (k : ℕ → Instr) where
    pub with_byte_lem : Reads ℕ byte src i v j → r ≡ known_as (k v) j → Decodes (with_byte k) src i r
    unfolding with_byte
    with_byte_lem x e = decodes_seq _ x (decodes_known e)

    pub with_word_lem : Reads ℕ word src i v j → r ≡ known_as (k v) j → Decodes (with_word k) src i r
    unfolding with_word
    with_word_lem x e = decodes_seq _ x (decodes_known e)

    pub with_short_lem : Reads ℕ signed_byte src i v j → r ≡ known_as (k v) j → Decodes (with_short k) src i r
    unfolding with_short
    with_short_lem x e = decodes_seq _ x (decodes_known e)

  pub with_far_lem : {n j v w : ℕ} (k : ℕ → ℕ → Instr) → Reads ℕ word src i v n → Reads ℕ word src n w j → r ≡ known_as (k w v) j → Decodes (with_far k) src i r
  unfolding with_far
  with_far_lem k x y e = decodes_seq _ x (decodes_seq _ y (decodes_known e))

  pub with_acc_lem : {j v : ℕ} (w : Bool) (k : Source → Instr) → Takes ℕ (immediate w) src i v j 2 → r ≡ known_as (k (Immediate v)) j → Decodes (with_acc k w) src i r
  unfolding with_acc
  with_acc_lem w k x e = decodes_seq _ x.reads (decodes_known e)
