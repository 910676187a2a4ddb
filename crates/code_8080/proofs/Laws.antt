-- What an instruction comes to, from the answer for its first byte.
use Prim.Native.Nat.{ℕ, ◌/◌, ◌%◌}
use mathlib.Core.Path.{◌≡◌}
use Rattle.sheet.specs.Reading.{byte}
use Rattle.sheet.specs.CardCodes.{cards00, cards01, cards10, cards11, card_of, card}
use Rattle.sheet.specs.Contract.{Reads}
use Rattle.sheet.specs.declared.cards.Card.{Card}
use Rattle.code_answer.specs.Answer.{Answer, Decodes}
use Rattle.code_answer.proofs.DecodesLaws.{decodes_seq}

module _ {src : ℕ → ℕ} {i : ℕ} {r : Answer Card} where
  pub quarter_0 : (b : ℕ) → b / 64 ≡ 0 → Decodes (cards00 (b / 8 % 8) (b % 8)) src i r → Decodes (card_of b) src i r
  unfolding card_of
  quarter_0 b e h = rw e h

  pub quarter_1 : (b : ℕ) → b / 64 ≡ 1 → Decodes (cards01 (b / 8 % 8) (b % 8)) src i r → Decodes (card_of b) src i r
  unfolding card_of
  quarter_1 b e h = rw e h

  pub quarter_2 : (b : ℕ) → b / 64 ≡ 2 → Decodes (cards10 (b / 8 % 8) (b % 8)) src i r → Decodes (card_of b) src i r
  unfolding card_of
  quarter_2 b e h = rw e h

  pub quarter_3 : (b : ℕ) → b / 64 ≡ 3 → Decodes (cards11 (b / 8 % 8) (b % 8)) src i r → Decodes (card_of b) src i r
  unfolding card_of
  quarter_3 b e h = rw e h

  pub card_is : {b j : ℕ} → Reads ℕ byte src i b j → Decodes (card_of b) src j r → Decodes card src i r
  unfolding card
  card_is x h = decodes_seq _ x h
