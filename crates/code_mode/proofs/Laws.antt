-- An answer of the 8080 mode's decoder as one of the decoder's.
use Prim.Native.Nat.{ℕ}
use mathlib.Core.Path.{◌≡◌, refl}
use mathlib.Core.Bool.{Bool, true, false}
use Rattle.sheet.specs.declared.cards.Card.{Card}
use Rattle.std.specs.Prelude.{Err}
use Rattle.sheet.specs.declared.Refusal.{Refusal}
use Rattle.sheet.specs.declared.Instr.{Instr}
use Rattle.sheet.specs.declared.Instr.TheVariants.{Cards}
use Rattle.sheet.specs.Width.{pick}
use Rattle.sheet.specs.FirstByte.{instruction}
use Rattle.sheet.specs.CardCodes.{card, card_instruction}
use Rattle.code_answer.specs.Answer.{Answer, known_as, Decodes}
use Rattle.code_answer.proofs.DecodesLaws.{Exits, left_by, decodes_known, decodes_refused_by, decodes_seq, known_reads, unknown_refuses}

module _ {src : ℕ → ℕ} where
  pub card_known : {c : Card} {n : ℕ} {r : Answer Instr} → Decodes card src 0 (known_as c n) → r ≡ known_as (Cards c) n → Decodes card_instruction src 0 r
  unfolding card_instruction
  card_known x e = decodes_seq _ (known_reads _ _ x) (decodes_known e)

  pub card_unknown : (e : Refusal) {r : Answer Instr} → Decodes card src 0 (Err e) → Exits r e → Decodes card_instruction src 0 r
  unfolding card_instruction
  card_unknown e x y = left_by y refl (decodes_refused_by _ e (unknown_refuses e x))

module _ {src : ℕ → ℕ} {r : Answer Instr} {native : Bool} where
  pub in_native : native ≡ true → Decodes instruction src 0 r → Decodes (pick native instruction card_instruction) src 0 r
  in_native e h = rw e h

  pub in_cards : native ≡ false → Decodes card_instruction src 0 r → Decodes (pick native instruction card_instruction) src 0 r
  in_cards e h = rw e h
