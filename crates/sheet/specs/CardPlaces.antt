-- Registers, pairs and conditions of the 8080 mode, as the V30's own.
-- 001:907-918, 931; docs/CARDS.md, how to read a row
use Rattle.std.specs.Prelude.{ℕ, List, [], ◌∷◌, get_or}
use Rattle.sheet.specs.declared.Address.TheVariants.{Formed, Direct}
use Rattle.sheet.specs.declared.Place.{Place}
use Rattle.sheet.specs.declared.Place.TheVariants.{Register, Memory}
use Rattle.sheet.specs.Registers.{CW, DW, BW, BP, AL, CL, in_ds0}

-- the halves of DW and BW, and the high half of CW, as byte registers
abbrev pub DL : ℕ
DL = 2

abbrev pub BL : ℕ
BL = 3

abbrev pub CH : ℕ
CH = 5

abbrev pub DH : ℕ
DH = 6

abbrev pub BH : ℕ
BH = 7

-- M is the byte at DS0:BW: address form 7 is BW alone
abbrev pub M : Place
M = Memory (Formed in_ds0 7 0)

-- memory at an offset that follows in the instruction
abbrev pub memory_at : ℕ → Place
memory_at offset = Memory (Direct in_ds0 offset)

-- B C D E H L M A
abbrev pub operands : List Place
operands =
    Register CH ∷ Register CL ∷ Register DH ∷ Register DL ∷ Register BH ∷ Register BL ∷ M ∷ Register AL ∷ []

unfoldable pub operand_at : ℕ → Place
operand_at n = get_or operands n (Register AL)

-- BC DE HL SP
abbrev pub pairs : List ℕ
pairs = CW ∷ DW ∷ BW ∷ BP ∷ []

unfoldable pub card_pair_at : ℕ → ℕ
card_pair_at n = get_or pairs n BP

-- NZ Z NC C PO PE P M are BNE BE BNC BC BPO BPE BP BN, by the low four bits of their codes
abbrev pub card_conditions : List ℕ
card_conditions = 5 ∷ 4 ∷ 3 ∷ 2 ∷ 11 ∷ 10 ∷ 9 ∷ 8 ∷ []

unfoldable pub condition_at : ℕ → ℕ
condition_at n = get_or card_conditions n 8
