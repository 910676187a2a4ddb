-- Readings of the 8080 mode: a test, a number that follows; and what stands at a table's end.
use Prim.Native.Nat.{ℕ, zero, suc, ◌≤◌}
use mathlib.Core.Path.{◌≡◌, refl, sym}
use mathlib.Core.Bool.{Bool, true, false}
use mathlib.Core.List.{List, [], ◌∷◌, ◌++◌}
use native.Mathlib.Omega.{arith}
use lib.ListN.{length, get_or}
use Rattle.sheet.specs.declared.Place.TheVariants.{Register}
use Rattle.sheet.specs.declared.Operation.TheVariants.{Add, Or, Addc, Subc, And, Sub, Xor, Cmp}
use Rattle.sheet.specs.declared.cards.Card.{Card}
use Rattle.sheet.specs.Reading.{Reading, byte, word}
use Rattle.sheet.specs.Width.{pick}
use Rattle.sheet.specs.Registers.{CW, DW, BW, BP, AL, CL}
use Rattle.sheet.specs.CardPlaces.{DL, BL, CH, DH, BH, M, operand_at, card_pair_at, condition_at}
use Rattle.sheet.specs.CardCodes.{card_byte, card_word, card_operation_at}
use Rattle.sheet.specs.Contract.{Reads}
use Rattle.code_answer.specs.Answer.{Answer, known_as, Decodes}
use Rattle.code_answer.proofs.DecodesLaws.{decodes_known, decodes_seq}

module _ {src : ℕ → ℕ} {i : ℕ} (p q : Reading Card) {b : Bool} {r : Answer Card} where
  -- a test that is known
  pub card_true : b ≡ true → Decodes p src i r → Decodes (pick b p q) src i r
  card_true e x = rw e x

  pub card_false : b ≡ false → Decodes q src i r → Decodes (pick b p q) src i r
  card_false e x = rw e x

module _ {src : ℕ → ℕ} {i j v : ℕ} {r : Answer Card} (k : ℕ → Card) where
  pub card_byte_lem : Reads ℕ byte src i v j → r ≡ known_as (k v) j → Decodes (card_byte k) src i r
  unfolding card_byte
  card_byte_lem x e = decodes_seq _ x (decodes_known e)

  pub card_word_lem : Reads ℕ word src i v j → r ≡ known_as (k v) j → Decodes (card_word k) src i r
  unfolding card_word
  card_word_lem x e = decodes_seq _ x (decodes_known e)

-- a table whose last entry is also what stands beyond its end
pub last_or_past : {A : Type 0} (l : List A) (x : A) (n : ℕ) → length l ≤ n → get_or (l ++ (x ∷ [])) n x ≡ x
last_or_past [] x zero h = refl
last_or_past [] x (suc n) h = refl
last_or_past (a ∷ l) x zero h = absurd (omega arith)
last_or_past (a ∷ l) x (suc n) h = last_or_past l x n (omega arith)

-- ---- the last value of a field, and what is none

from_four : (n : ℕ) → (n ≡ 0 → ⊥) → (n ≡ 1 → ⊥) → (n ≡ 2 → ⊥) → (n ≡ 3 → ⊥) → 4 ≤ n
from_four n a b c d = omega arith

from_seven : (n : ℕ) → 4 ≤ n → (n ≡ 4 → ⊥) → (n ≡ 5 → ⊥) → (n ≡ 6 → ⊥) → 7 ≤ n
from_seven n l a b c = omega arith

past_six : (n : ℕ) → (n ≡ 0 → ⊥) → (n ≡ 1 → ⊥) → (n ≡ 2 → ⊥) → (n ≡ 3 → ⊥) → (n ≡ 4 → ⊥) → (n ≡ 5 → ⊥) → (n ≡ 6 → ⊥) → 7 ≤ n
past_six n a b c d e f g = from_seven n (from_four n a b c d) e f g

pub operand_rest : (n : ℕ) → (n ≡ 0 → ⊥) → (n ≡ 1 → ⊥) → (n ≡ 2 → ⊥) → (n ≡ 3 → ⊥) → (n ≡ 4 → ⊥) → (n ≡ 5 → ⊥) → (n ≡ 6 → ⊥) → Register AL ≡ operand_at n
unfolding operand_at
operand_rest n a b c d e f g = sym (last_or_past (Register CH ∷ Register CL ∷ Register DH ∷ Register DL ∷ Register BH ∷ Register BL ∷ M ∷ []) (Register AL) n (past_six n a b c d e f g))

pub pair_rest : (n : ℕ) → 3 ≤ n → BP ≡ card_pair_at n
unfolding card_pair_at
pair_rest n h = sym (last_or_past (CW ∷ DW ∷ BW ∷ []) BP n h)

pub condition_rest : (n : ℕ) → (n ≡ 0 → ⊥) → (n ≡ 1 → ⊥) → (n ≡ 2 → ⊥) → (n ≡ 3 → ⊥) → (n ≡ 4 → ⊥) → (n ≡ 5 → ⊥) → (n ≡ 6 → ⊥) → 8 ≡ condition_at n
unfolding condition_at
condition_rest n a b c d e f g = sym (last_or_past (5 ∷ 4 ∷ 3 ∷ 2 ∷ 11 ∷ 10 ∷ 9 ∷ []) 8 n (past_six n a b c d e f g))

pub operation_rest : (n : ℕ) → (n ≡ 0 → ⊥) → (n ≡ 1 → ⊥) → (n ≡ 2 → ⊥) → (n ≡ 3 → ⊥) → (n ≡ 4 → ⊥) → (n ≡ 5 → ⊥) → (n ≡ 6 → ⊥) → Cmp ≡ card_operation_at n
unfolding card_operation_at
operation_rest n a b c d e f g = sym (last_or_past (Add ∷ Addc ∷ Sub ∷ Subc ∷ And ∷ Xor ∷ Or ∷ []) Cmp n (past_six n a b c d e f g))
