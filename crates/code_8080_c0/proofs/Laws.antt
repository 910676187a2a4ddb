-- What each row of the codes C0 to FF comes to, from the value of its field, what follows it, and the answer.
use Prim.Native.Nat.{ℕ, ◌≤◌}
use mathlib.Core.Path.{◌≡◌, refl}
use mathlib.Core.Bool.{Bool, true, false}
use lib.Dec.{eqb}
use native.Mathlib.Omega.{arith}
use borrow.Author.Tests.{eq-eqb, ne_eqb, eqb-true, eqb-false}
use Rattle.sheet.specs.declared.Place.TheVariants.{Register}
use Rattle.sheet.specs.declared.Source.TheVariants.{Held, Immediate}
use Rattle.sheet.specs.declared.Operation.{Operation}
use Rattle.sheet.specs.declared.Transfer.TheVariants.{Mov, Xch}
use Rattle.sheet.specs.declared.Port.TheVariants.{Numbered}
use Rattle.sheet.specs.declared.Io.TheVariants.{In, Out}
use Rattle.sheet.specs.declared.Control.TheVariants.{Di, Ei}
use Rattle.sheet.specs.declared.cards.CardArithmetic.TheVariants.{Two}
use Rattle.sheet.specs.declared.cards.CardBranch.TheVariants.{Jmp, JumpIf, Call, CallIf, Ret, RetIf, Rst, Pchl}
use Rattle.sheet.specs.declared.cards.CardStack.TheVariants.{Push, PushPsw, Pop, PopPsw, Xthl}
use Rattle.sheet.specs.declared.cards.CardMode.TheVariants.{Calln, Retem}
use Rattle.sheet.specs.declared.cards.Card.TheVariants.{Transfers, Ports, Controls, Calculates, Branches, Stacks, Modes}
use Rattle.sheet.specs.Registers.{CW, DW, BW, BP}
use Rattle.sheet.specs.Reading.{byte, word}
use Rattle.sheet.specs.CardPlaces.{condition_at}
use Rattle.sheet.specs.CardCodes.{card_operation_at, pop_or_return, jump_or_port, after_ed, push_or_call, cards11}
use Rattle.sheet.specs.Contract.{Reads}
use Rattle.std.specs.Prelude.{Err}
use Rattle.sheet.specs.declared.Refusal.TheVariants.{UnknownInstruction}
use Rattle.sheet.specs.declared.cards.Card.{Card}
use Rattle.code_answer.specs.Answer.{Answer, known_as, Decodes}
use Rattle.code_answer.proofs.DecodesLaws.{decodes_known, decodes_no, decodes_seq}
use Rattle.code_8080_answer.proofs.CardLaws.{card_true, card_false, card_byte_lem, card_word_lem}

module _ {src : ℕ → ℕ} {i : ℕ} {r : Answer Card} where
  -- a low field that is known
  pub at11 : (d l n : ℕ) → l ≡ n → Decodes (cards11 d n) src i r → Decodes (cards11 d l) src i r
  at11 d l n e x = rw e x

  pub ret_if_is : (d : ℕ) {n : ℕ} → n ≡ condition_at d → r ≡ known_as (Branches (RetIf n)) i → Decodes (cards11 d 0) src i r
  unfolding cards11
  ret_if_is d p h = decodes_known (rw p at h)

  pub jump_if_is : (d : ℕ) {n v j : ℕ} → n ≡ condition_at d → Reads ℕ word src i v j → r ≡ known_as (Branches (JumpIf n v)) j → Decodes (cards11 d 2) src i r
  unfolding cards11
  jump_if_is d p x h = card_word_lem _ x (rw p at h)

  pub call_if_is : (d : ℕ) {n v j : ℕ} → n ≡ condition_at d → Reads ℕ word src i v j → r ≡ known_as (Branches (CallIf n v)) j → Decodes (cards11 d 4) src i r
  unfolding cards11
  call_if_is d p x h = card_word_lem _ x (rw p at h)

  pub pop_b : (d : ℕ) → d ≡ 0 → r ≡ known_as (Stacks (Pop CW)) i → Decodes (cards11 d 1) src i r
  unfolding cards11 pop_or_return
  pop_b d e h = rw e (decodes_known h)

  pub pop_d : (d : ℕ) → d ≡ 2 → r ≡ known_as (Stacks (Pop DW)) i → Decodes (cards11 d 1) src i r
  unfolding cards11 pop_or_return
  pop_d d e h = rw e (decodes_known h)

  pub pop_h : (d : ℕ) → d ≡ 4 → r ≡ known_as (Stacks (Pop BW)) i → Decodes (cards11 d 1) src i r
  unfolding cards11 pop_or_return
  pop_h d e h = rw e (decodes_known h)

  pub pop_psw : (d : ℕ) → d ≡ 6 → r ≡ known_as (Stacks PopPsw) i → Decodes (cards11 d 1) src i r
  unfolding cards11 pop_or_return
  pop_psw d e h = rw e (decodes_known h)

  pub ret : (d : ℕ) → d ≡ 1 → r ≡ known_as (Branches Ret) i → Decodes (cards11 d 1) src i r
  unfolding cards11 pop_or_return
  ret d e h = rw e (decodes_known h)

  pub pchl : (d : ℕ) → d ≡ 5 → r ≡ known_as (Branches Pchl) i → Decodes (cards11 d 1) src i r
  unfolding cards11 pop_or_return
  pchl d e h = rw e (decodes_known h)

  pub sphl : (d : ℕ) → d ≡ 7 → r ≡ known_as (Transfers (Mov true (Register BP) (Held (Register BW)))) i → Decodes (cards11 d 1) src i r
  unfolding cards11 pop_or_return
  sphl d e h = rw e (decodes_known h)

  pub xthl : (d : ℕ) → d ≡ 4 → r ≡ known_as (Stacks Xthl) i → Decodes (cards11 d 3) src i r
  unfolding cards11 jump_or_port
  xthl d e h = rw e (decodes_known h)

  pub xchg : (d : ℕ) → d ≡ 5 → r ≡ known_as (Transfers (Xch true DW (Register BW))) i → Decodes (cards11 d 3) src i r
  unfolding cards11 jump_or_port
  xchg d e h = rw e (decodes_known h)

  pub di : (d : ℕ) → d ≡ 6 → r ≡ known_as (Controls Di) i → Decodes (cards11 d 3) src i r
  unfolding cards11 jump_or_port
  di d e h = rw e (decodes_known h)

  pub ei : (d : ℕ) → d ≡ 7 → r ≡ known_as (Controls Ei) i → Decodes (cards11 d 3) src i r
  unfolding cards11 jump_or_port
  ei d e h = rw e (decodes_known h)

  pub jmp : (d : ℕ) {v j : ℕ} → d ≡ 0 → Reads ℕ word src i v j → r ≡ known_as (Branches (Jmp v)) j → Decodes (cards11 d 3) src i r
  unfolding cards11 jump_or_port
  jmp d e x h = rw e (card_word_lem _ x h)

  pub out : (d : ℕ) {v j : ℕ} → d ≡ 2 → Reads ℕ byte src i v j → r ≡ known_as (Ports (Out false (Numbered v))) j → Decodes (cards11 d 3) src i r
  unfolding cards11 jump_or_port
  out d e x h = rw e (card_byte_lem _ x h)

  pub inp : (d : ℕ) {v j : ℕ} → d ≡ 3 → Reads ℕ byte src i v j → r ≡ known_as (Ports (In false (Numbered v))) j → Decodes (cards11 d 3) src i r
  unfolding cards11 jump_or_port
  inp d e x h = rw e (card_byte_lem _ x h)

  pub calln_is : {b n j k : ℕ} → Reads ℕ byte src i b j → b ≡ 0xed → Reads ℕ byte src j n k → r ≡ known_as (Modes (Calln n)) k → Decodes (cards11 5 5) src i r
  unfolding cards11 push_or_call after_ed
  calln_is x e y h = decodes_seq _ x (card_true _ _ (eq-eqb _ 0xed e) (card_byte_lem _ y h))

  pub retem_is : {b j : ℕ} → Reads ℕ byte src i b j → b ≡ 0xfd → r ≡ known_as (Modes Retem) j → Decodes (cards11 5 5) src i r
  unfolding cards11 push_or_call after_ed
  retem_is {b} x e h = let t : eqb b 0xed ≡ false = rw e in decodes_seq _ x (card_false _ _ t (card_true _ _ (eq-eqb _ 0xfd e) (decodes_known h)))

  pub push_b : (d : ℕ) → d ≡ 0 → r ≡ known_as (Stacks (Push CW)) i → Decodes (cards11 d 5) src i r
  unfolding cards11 push_or_call
  push_b d e h = rw e (decodes_known h)

  pub push_d : (d : ℕ) → d ≡ 2 → r ≡ known_as (Stacks (Push DW)) i → Decodes (cards11 d 5) src i r
  unfolding cards11 push_or_call
  push_d d e h = rw e (decodes_known h)

  pub push_h : (d : ℕ) → d ≡ 4 → r ≡ known_as (Stacks (Push BW)) i → Decodes (cards11 d 5) src i r
  unfolding cards11 push_or_call
  push_h d e h = rw e (decodes_known h)

  pub push_psw : (d : ℕ) → d ≡ 6 → r ≡ known_as (Stacks PushPsw) i → Decodes (cards11 d 5) src i r
  unfolding cards11 push_or_call
  push_psw d e h = rw e (decodes_known h)

  pub call : (d : ℕ) {v j : ℕ} → d ≡ 1 → Reads ℕ word src i v j → r ≡ known_as (Branches (Call v)) j → Decodes (cards11 d 5) src i r
  unfolding cards11 push_or_call
  call d e x h = rw e (card_word_lem _ x h)

  pub ed : (d : ℕ) → d ≡ 5 → Decodes (cards11 5 5) src i r → Decodes (cards11 d 5) src i r
  ed d e h = rw e h

  pub immediate_is : (d : ℕ) {v j : ℕ} {op : Operation} → op ≡ card_operation_at d → Reads ℕ byte src i v j → r ≡ known_as (Calculates (Two op (Immediate v))) j → Decodes (cards11 d 6) src i r
  unfolding cards11
  immediate_is d p x h = card_byte_lem _ x (rw p at h)

  pub rst : (d l : ℕ) → l ≡ 7 → r ≡ known_as (Branches (Rst d)) i → Decodes (cards11 d l) src i r
  unfolding cards11
  rst d l e h = rw e (decodes_known h)

-- ---- codes that name nothing

module _ {src : ℕ → ℕ} {i : ℕ} where
  pub no_d9 : (d : ℕ) → d ≡ 3 → Decodes (cards11 d 1) src i (Err UnknownInstruction)
  unfolding cards11 pop_or_return
  no_d9 d e = rw e decodes_no

  pub no_cb : (d : ℕ) → d ≡ 1 → Decodes (cards11 d 3) src i (Err UnknownInstruction)
  unfolding cards11 jump_or_port
  no_cb d e = rw e decodes_no

  pub no_ed : {b j : ℕ} → Reads ℕ byte src i b j → (b ≡ 0xed → ⊥) → (b ≡ 0xfd → ⊥) → Decodes (cards11 5 5) src i (Err UnknownInstruction)
  unfolding cards11 push_or_call after_ed
  no_ed x e f = decodes_seq _ x (card_false _ _ (ne_eqb _ 0xed e) (card_false _ _ (ne_eqb _ 0xfd f) decodes_no))

  pub no_dd : (d : ℕ) → d ≡ 3 → Decodes (cards11 d 5) src i (Err UnknownInstruction)
  unfolding cards11 push_or_call
  no_dd d e = rw e decodes_no

  pub no_fd : (d : ℕ) → d ≡ 7 → Decodes (cards11 d 5) src i (Err UnknownInstruction)
  unfolding cards11 push_or_call
  no_fd d e = rw e decodes_no

  pub no_3_or_7 : (d : ℕ) → 3 ≤ d → d ≤ 7 → (d ≡ 4 → ⊥) → (d ≡ 5 → ⊥) → (d ≡ 6 → ⊥) → Decodes (cards11 d 5) src i (Err UnknownInstruction)
  no_3_or_7 d l m e f g = go (eqb d 3) refl
    where
      go : (c : Bool) → eqb d 3 ≡ c → Decodes (cards11 d 5) src i (Err UnknownInstruction)
      go true q = no_dd d (eqb-true d 3 q)
      go false q = let z = eqb-false d 3 q in no_fd d (omega (arith, e, f, g, z))
