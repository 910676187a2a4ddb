-- Every first byte of the 8080 mode and every byte behind ED: how long the instruction is that it begins, by computation.
use Prim.Native.Nat.{ℕ, zero, suc, ◌+◌}
use mathlib.Core.Path.{◌≡◌, refl}
use mathlib.Core.List.{List, [], ◌∷◌, ◌++◌}
use lib.Dec.{eqb}
use lib.ListN.{length}
use Rattle.sheet.specs.declared.cards.Card.{Card}
use Rattle.sheet.specs.Width.{pick}
use Rattle.sheet.specs.Reading as reading
use Rattle.sheet.specs.Reading.{Reading, got, need, no, word}
use Rattle.sheet.specs.CardCodes.{card_byte, card_word, lxi_or_dad, load_or_store, on_al_or_cy, cards00, cards01, cards10, pop_or_return, jump_or_port, after_ed, push_or_call, cards11, card_of, card}

-- the bytes of an instruction of which n are read, all further ones 0; 0 where they name none
unfoldable pub size_from : ℕ → Reading Card → ℕ
size_from n (got c) = n
size_from n (need k) = size_from (n + 1) (k 0)
size_from n (no r) = 0

-- with the first byte b, or with these two
unfoldable pub size_of : Reading Card → ℕ → ℕ
size_of (got c) b = 0
size_of (need k) b = size_from 1 (k b)
size_of (no r) b = 0

unfoldable pub size_behind : Reading Card → ℕ → ℕ → ℕ
size_behind (got c) a b = 0
size_behind (need k) a b = size_of (k a) b
size_behind (no r) a b = 0

unfoldable pub sizes : (ℕ → ℕ) → ℕ → List ℕ
sizes f zero = []
sizes f (suc n) = sizes f n ++ (f n ∷ [])

-- of a list how many are not 0
unfoldable pub named : List ℕ → ℕ
named [] = 0
named (n ∷ l) = pick (eqb n 0) 0 1 + named l

-- the refusal that a byte meets, 0 where it meets none
unfoldable pub refusal_of : Reading Card → ℕ
refusal_of (got c) = 0
refusal_of (need k) = refusal_of (k 0)
refusal_of (no r) = r

unfoldable pub refusal_at : Reading Card → ℕ → ℕ
refusal_at (got c) b = 0
refusal_at (need k) b = refusal_of (k b)
refusal_at (no r) b = 0

-- the bytes that are refused with 3, below n
unfoldable pub refused3 : (ℕ → ℕ) → ℕ → List ℕ
refused3 f zero = []
refused3 f (suc n) = pick (eqb (f n) 3) (refused3 f n ++ (n ∷ [])) (refused3 f n)

-- the bytes for which a size is not 0, below n
unfoldable pub named_bytes : (ℕ → ℕ) → ℕ → List ℕ
named_bytes f zero = []
named_bytes f (suc n) = pick (eqb (f n) 0) (named_bytes f n) (named_bytes f n ++ (n ∷ []))

-- ED counts as 0 here: no byte 0 follows it
abbrev pub first_sizes : List ℕ
first_sizes =
    1 ∷ 3 ∷ 1 ∷ 1 ∷ 1 ∷ 1 ∷ 2 ∷ 1 ∷ 0 ∷ 1 ∷ 1 ∷ 1 ∷ 1 ∷ 1 ∷ 2 ∷ 1
    ∷ 0 ∷ 3 ∷ 1 ∷ 1 ∷ 1 ∷ 1 ∷ 2 ∷ 1 ∷ 0 ∷ 1 ∷ 1 ∷ 1 ∷ 1 ∷ 1 ∷ 2 ∷ 1
    ∷ 0 ∷ 3 ∷ 3 ∷ 1 ∷ 1 ∷ 1 ∷ 2 ∷ 1 ∷ 0 ∷ 1 ∷ 3 ∷ 1 ∷ 1 ∷ 1 ∷ 2 ∷ 1
    ∷ 0 ∷ 3 ∷ 3 ∷ 1 ∷ 1 ∷ 1 ∷ 2 ∷ 1 ∷ 0 ∷ 1 ∷ 3 ∷ 1 ∷ 1 ∷ 1 ∷ 2 ∷ 1
    ∷ 1 ∷ 1 ∷ 1 ∷ 1 ∷ 1 ∷ 1 ∷ 1 ∷ 1 ∷ 1 ∷ 1 ∷ 1 ∷ 1 ∷ 1 ∷ 1 ∷ 1 ∷ 1
    ∷ 1 ∷ 1 ∷ 1 ∷ 1 ∷ 1 ∷ 1 ∷ 1 ∷ 1 ∷ 1 ∷ 1 ∷ 1 ∷ 1 ∷ 1 ∷ 1 ∷ 1 ∷ 1
    ∷ 1 ∷ 1 ∷ 1 ∷ 1 ∷ 1 ∷ 1 ∷ 1 ∷ 1 ∷ 1 ∷ 1 ∷ 1 ∷ 1 ∷ 1 ∷ 1 ∷ 1 ∷ 1
    ∷ 1 ∷ 1 ∷ 1 ∷ 1 ∷ 1 ∷ 1 ∷ 1 ∷ 1 ∷ 1 ∷ 1 ∷ 1 ∷ 1 ∷ 1 ∷ 1 ∷ 1 ∷ 1
    ∷ 1 ∷ 1 ∷ 1 ∷ 1 ∷ 1 ∷ 1 ∷ 1 ∷ 1 ∷ 1 ∷ 1 ∷ 1 ∷ 1 ∷ 1 ∷ 1 ∷ 1 ∷ 1
    ∷ 1 ∷ 1 ∷ 1 ∷ 1 ∷ 1 ∷ 1 ∷ 1 ∷ 1 ∷ 1 ∷ 1 ∷ 1 ∷ 1 ∷ 1 ∷ 1 ∷ 1 ∷ 1
    ∷ 1 ∷ 1 ∷ 1 ∷ 1 ∷ 1 ∷ 1 ∷ 1 ∷ 1 ∷ 1 ∷ 1 ∷ 1 ∷ 1 ∷ 1 ∷ 1 ∷ 1 ∷ 1
    ∷ 1 ∷ 1 ∷ 1 ∷ 1 ∷ 1 ∷ 1 ∷ 1 ∷ 1 ∷ 1 ∷ 1 ∷ 1 ∷ 1 ∷ 1 ∷ 1 ∷ 1 ∷ 1
    ∷ 1 ∷ 1 ∷ 3 ∷ 3 ∷ 3 ∷ 1 ∷ 2 ∷ 1 ∷ 1 ∷ 1 ∷ 3 ∷ 0 ∷ 3 ∷ 3 ∷ 2 ∷ 1
    ∷ 1 ∷ 1 ∷ 3 ∷ 2 ∷ 3 ∷ 1 ∷ 2 ∷ 1 ∷ 1 ∷ 0 ∷ 3 ∷ 2 ∷ 3 ∷ 0 ∷ 2 ∷ 1
    ∷ 1 ∷ 1 ∷ 3 ∷ 1 ∷ 3 ∷ 1 ∷ 2 ∷ 1 ∷ 1 ∷ 1 ∷ 3 ∷ 1 ∷ 3 ∷ 0 ∷ 2 ∷ 1
    ∷ 1 ∷ 1 ∷ 3 ∷ 1 ∷ 3 ∷ 1 ∷ 2 ∷ 1 ∷ 1 ∷ 1 ∷ 3 ∷ 1 ∷ 3 ∷ 0 ∷ 2 ∷ 1
    ∷ []

pub record CardForms : Type 0 where
  pub first_bytes_lem : sizes (size_of card) 256 ≡ first_sizes
  pub count : named first_sizes ≡ 244
  -- ED before 0, and the eleven codes that name nothing
  pub unknown : refused3 (refusal_at card) 256 ≡ 0x08 ∷ 0x10 ∷ 0x18 ∷ 0x20 ∷ 0x28 ∷ 0x30 ∷ 0x38 ∷ 0xcb ∷ 0xd9 ∷ 0xdd ∷ 0xed ∷ 0xfd ∷ []
  pub unknown_behind_ed : length (refused3 (refusal_at after_ed) 256) ≡ 254
  -- CALLN and RETEM, with so many bytes behind ED
  pub behind_ed : named_bytes (size_behind card 0xed) 256 ≡ 0xed ∷ 0xfd ∷ []
  pub calln : size_behind card 0xed 0xed ≡ 2
  pub retem : size_behind card 0xed 0xfd ≡ 1

pub all_cards : CardForms
unfolding refusal_of refusal_at refused3 size_from size_of size_behind sizes named named_bytes reading.◌>>=◌ word card_byte card_word lxi_or_dad load_or_store on_al_or_cy cards00 cards01 cards10 pop_or_return jump_or_port after_ed push_or_call cards11 card_of card
all_cards = record { first_bytes_lem = refl; count = refl; unknown = refl; unknown_behind_ed = refl; behind_ed = refl; calln = refl; retem = refl }
