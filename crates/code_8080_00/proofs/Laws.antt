-- What each row of the codes 00 to BF comes to, from the value of its field, what follows it, and the answer.
use Prim.Native.Nat.{ℕ, ◌/◌, ◌%◌}
use mathlib.Core.Path.{◌≡◌}
use mathlib.Core.Bool.{true, false, ◌&&◌}
use lib.Dec.{eqb}
use borrow.Author.Tests.{eq-eqb, ne_eqb, eqb-true}
use Rattle.code_answer.proofs.CodeLaws.{not_both}
use Rattle.sheet.specs.declared.Address.TheVariants.{Direct}
use Rattle.sheet.specs.declared.Place.{Place}
use Rattle.sheet.specs.declared.Place.TheVariants.{Register}
use Rattle.sheet.specs.declared.Source.TheVariants.{Held, Immediate}
use Rattle.sheet.specs.declared.Operation.{Operation}
use Rattle.sheet.specs.declared.Shift.TheVariants.{Rol, Ror, Rolc, Rorc}
use Rattle.sheet.specs.declared.Transfer.TheVariants.{Mov, LoadAcc, StoreAcc}
use Rattle.sheet.specs.declared.Control.TheVariants.{Nop, Halt, SetCy, NotCy}
use Rattle.sheet.specs.declared.cards.CardPoint.TheVariants.{Ldax, Stax}
use Rattle.sheet.specs.declared.cards.CardArithmetic.TheVariants.{Two, Inr, Dcr, Inx, Dcx, Dad, Rotate, Daa, Cma}
use Rattle.sheet.specs.declared.cards.Card.TheVariants.{Transfers, Controls, Points, Calculates}
use Rattle.sheet.specs.Registers.{CW, DW, BW, in_ds0}
use Rattle.sheet.specs.Reading.{byte, word}
use Rattle.sheet.specs.CardPlaces.{memory_at, operand_at, card_pair_at}
use Rattle.sheet.specs.CardCodes.{card_operation_at, lxi_or_dad, load_or_store, on_al_or_cy, cards00, cards01, cards10}
use Rattle.sheet.specs.Contract.{Reads}
use Rattle.std.specs.Prelude.{Err}
use Rattle.sheet.specs.declared.Refusal.TheVariants.{UnknownInstruction}
use Rattle.sheet.specs.declared.cards.Card.{Card}
use Rattle.code_answer.specs.Answer.{Answer, known_as, Decodes}
use Rattle.code_answer.proofs.DecodesLaws.{decodes_known, decodes_no}
use Rattle.code_8080_answer.proofs.CardLaws.{card_true, card_false, card_byte_lem, card_word_lem}

module _ {src : ℕ → ℕ} {i : ℕ} {r : Answer Card} where
  -- a low field that is known
  pub at00 : (d l n : ℕ) → l ≡ n → Decodes (cards00 d n) src i r → Decodes (cards00 d l) src i r
  at00 d l n e x = rw e x

  pub nop_is : (d : ℕ) → d ≡ 0 → r ≡ known_as (Controls Nop) i → Decodes (cards00 d 0) src i r
  unfolding cards00
  nop_is d e h = card_true _ _ (eq-eqb d 0 e) (decodes_known h)

  pub dad_is : (d : ℕ) {pair : ℕ} → pair ≡ card_pair_at (d / 2) → d % 2 ≡ 1 → r ≡ known_as (Calculates (Dad pair)) i → Decodes (cards00 d 1) src i r
  unfolding cards00 lxi_or_dad
  dad_is d p e h = card_true _ _ (eq-eqb (d % 2) 1 e) (decodes_known (rw p at h))

  pub lxi_is : (d : ℕ) {pair v j : ℕ} → pair ≡ card_pair_at (d / 2) → (d % 2 ≡ 1 → ⊥) → Reads ℕ word src i v j → r ≡ known_as (Transfers (Mov true (Register pair) (Immediate v))) j → Decodes (cards00 d 1) src i r
  unfolding cards00 lxi_or_dad
  lxi_is d p e x h = card_false _ _ (ne_eqb (d % 2) 1 e) (card_word_lem _ x (rw p at h))

  pub stax_b : (d : ℕ) → d ≡ 0 → r ≡ known_as (Points (Stax CW)) i → Decodes (cards00 d 2) src i r
  unfolding cards00 load_or_store
  stax_b d e h = rw e (decodes_known h)

  pub ldax_b : (d : ℕ) → d ≡ 1 → r ≡ known_as (Points (Ldax CW)) i → Decodes (cards00 d 2) src i r
  unfolding cards00 load_or_store
  ldax_b d e h = rw e (decodes_known h)

  pub stax_d : (d : ℕ) → d ≡ 2 → r ≡ known_as (Points (Stax DW)) i → Decodes (cards00 d 2) src i r
  unfolding cards00 load_or_store
  stax_d d e h = rw e (decodes_known h)

  pub ldax_d : (d : ℕ) → d ≡ 3 → r ≡ known_as (Points (Ldax DW)) i → Decodes (cards00 d 2) src i r
  unfolding cards00 load_or_store
  ldax_d d e h = rw e (decodes_known h)

  pub shld : (d : ℕ) {v j : ℕ} → d ≡ 4 → Reads ℕ word src i v j → r ≡ known_as (Transfers (Mov true (memory_at v) (Held (Register BW)))) j → Decodes (cards00 d 2) src i r
  unfolding cards00 load_or_store
  shld d e x h = rw e (card_word_lem _ x h)

  pub lhld : (d : ℕ) {v j : ℕ} → d ≡ 5 → Reads ℕ word src i v j → r ≡ known_as (Transfers (Mov true (Register BW) (Held (memory_at v)))) j → Decodes (cards00 d 2) src i r
  unfolding cards00 load_or_store
  lhld d e x h = rw e (card_word_lem _ x h)

  pub sta : (d : ℕ) {v j : ℕ} → d ≡ 6 → Reads ℕ word src i v j → r ≡ known_as (Transfers (StoreAcc false (Direct in_ds0 v))) j → Decodes (cards00 d 2) src i r
  unfolding cards00 load_or_store
  sta d e x h = rw e (card_word_lem _ x h)

  pub lda : (d : ℕ) {v j : ℕ} → d ≡ 7 → Reads ℕ word src i v j → r ≡ known_as (Transfers (LoadAcc false (Direct in_ds0 v))) j → Decodes (cards00 d 2) src i r
  unfolding cards00 load_or_store
  lda d e x h = rw e (card_word_lem _ x h)

  pub dcx_is : (d : ℕ) {pair : ℕ} → pair ≡ card_pair_at (d / 2) → d % 2 ≡ 1 → r ≡ known_as (Calculates (Dcx pair)) i → Decodes (cards00 d 3) src i r
  unfolding cards00
  dcx_is d p e h = rw (eq-eqb (d % 2) 1 e) (decodes_known (rw p at h))

  pub inx_is : (d : ℕ) {pair : ℕ} → pair ≡ card_pair_at (d / 2) → (d % 2 ≡ 1 → ⊥) → r ≡ known_as (Calculates (Inx pair)) i → Decodes (cards00 d 3) src i r
  unfolding cards00
  inx_is d p e h = rw (ne_eqb (d % 2) 1 e) (decodes_known (rw p at h))

  pub mvi_is : (d : ℕ) {v j : ℕ} {to : Place} → to ≡ operand_at d → Reads ℕ byte src i v j → r ≡ known_as (Transfers (Mov false to (Immediate v))) j → Decodes (cards00 d 6) src i r
  unfolding cards00
  mvi_is d p x h = card_byte_lem _ x (rw p at h)

  pub stc : (d : ℕ) → d ≡ 6 → r ≡ known_as (Controls SetCy) i → Decodes (cards00 d 7) src i r
  unfolding cards00 on_al_or_cy
  stc d e h = rw e (decodes_known h)

  pub cmc : (d : ℕ) → d ≡ 7 → r ≡ known_as (Controls NotCy) i → Decodes (cards00 d 7) src i r
  unfolding cards00 on_al_or_cy
  cmc d e h = rw e (decodes_known h)

  pub rlc : (d : ℕ) → d ≡ 0 → r ≡ known_as (Calculates (Rotate Rol)) i → Decodes (cards00 d 7) src i r
  unfolding cards00 on_al_or_cy
  rlc d e h = rw e (decodes_known h)

  pub rrc : (d : ℕ) → d ≡ 1 → r ≡ known_as (Calculates (Rotate Ror)) i → Decodes (cards00 d 7) src i r
  unfolding cards00 on_al_or_cy
  rrc d e h = rw e (decodes_known h)

  pub ral : (d : ℕ) → d ≡ 2 → r ≡ known_as (Calculates (Rotate Rolc)) i → Decodes (cards00 d 7) src i r
  unfolding cards00 on_al_or_cy
  ral d e h = rw e (decodes_known h)

  pub rar : (d : ℕ) → d ≡ 3 → r ≡ known_as (Calculates (Rotate Rorc)) i → Decodes (cards00 d 7) src i r
  unfolding cards00 on_al_or_cy
  rar d e h = rw e (decodes_known h)

  pub daa : (d : ℕ) → d ≡ 4 → r ≡ known_as (Calculates Daa) i → Decodes (cards00 d 7) src i r
  unfolding cards00 on_al_or_cy
  daa d e h = rw e (decodes_known h)

  pub cma : (d : ℕ) → d ≡ 5 → r ≡ known_as (Calculates Cma) i → Decodes (cards00 d 7) src i r
  unfolding cards00 on_al_or_cy
  cma d e h = rw e (decodes_known h)

  pub inr_is : (d : ℕ) {to : Place} → to ≡ operand_at d → r ≡ known_as (Calculates (Inr to)) i → Decodes (cards00 d 4) src i r
  unfolding cards00
  inr_is d p h = decodes_known (rw p at h)

  pub dcr_is : (d : ℕ) {to : Place} → to ≡ operand_at d → r ≡ known_as (Calculates (Dcr to)) i → Decodes (cards00 d 5) src i r
  unfolding cards00
  dcr_is d p h = decodes_known (rw p at h)

  pub hlt : (d s : ℕ) → d ≡ 6 → s ≡ 6 → r ≡ known_as (Controls Halt) i → Decodes (cards01 d s) src i r
  unfolding cards01
  hlt d s e f h = let t : (eqb d 6 && eqb s 6) ≡ true = rw (eq-eqb d 6 e, eq-eqb s 6 f) in card_true _ _ t (decodes_known h)

  pub mov_is : (d s : ℕ) {to from : Place} → (d ≡ 6 → s ≡ 6 → ⊥) → to ≡ operand_at d → from ≡ operand_at s → r ≡ known_as (Transfers (Mov false to (Held from))) i → Decodes (cards01 d s) src i r
  unfolding cards01
  mov_is d s e p q h = card_false _ _ (not_both (eqb d 6) (eqb s 6) (λ k l. e (eqb-true d 6 k) (eqb-true s 6 l))) (decodes_known (rw (p, q) at h))

  pub two_is : (d s : ℕ) {op : Operation} {from : Place} → op ≡ card_operation_at d → from ≡ operand_at s → r ≡ known_as (Calculates (Two op (Held from))) i → Decodes (cards10 d s) src i r
  unfolding cards10
  two_is d s p q h = decodes_known (rw (p, q) at h)

-- ---- codes that name nothing

module _ {src : ℕ → ℕ} {i : ℕ} where
  pub no_nop : (d : ℕ) → (d ≡ 0 → ⊥) → Decodes (cards00 d 0) src i (Err UnknownInstruction)
  unfolding cards00
  no_nop d e = card_false _ _ (ne_eqb d 0 e) decodes_no
