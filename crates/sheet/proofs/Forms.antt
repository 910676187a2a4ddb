-- Every first byte, every second byte after 0F and every byte behind them: which readings are accepted, counted by computation.
use Prim.Native.Nat.{ℕ, zero, suc, ◌+◌}
use mathlib.Core.Path.{◌≡◌, refl}
use mathlib.Core.Bool.{Bool, true, false}
use mathlib.Core.List.{List, [], ◌∷◌, ◌++◌}
use Rattle.std.specs.Prelude.{Option, None, Some}
use lib.Dec.{eqb}
use Rattle.sheet.specs.declared.Instr.{Instr}
use Rattle.sheet.specs.Width.{pick, sign_of, extend}
use Rattle.sheet.specs.Operand.{form_at}
use Rattle.sheet.specs.Reading as reading
use Rattle.sheet.specs.Reading.{Reading, got, need, no, word, immediate, signed_byte, allow}
use Rattle.sheet.specs.Encoding.{Prefix, prefix_of, unprefixed, formed, displacement, with_displacement, with_offset, address, in_memory, place, memory, look_up}
use Rattle.sheet.specs.SecondByte.{plain_place, with_plain, bit_in_cl, bit_given, field_in_register, field_given, break_for_emulation, second_bytes}
use Rattle.sheet.specs.FirstByte.{with_place, with_memory, operation_at, with_acc, small_immediate, with_immediate, with_shift, shift_group, group_f6, group_fe, group_ff, from_segment, to_segment, after_ten, with_byte, with_word, with_short, with_far, with_counted, first_bytes}

-- 0 where the bytes name an instruction, else the refusal; all further bytes are 0
unfoldable pub outcome : Reading Instr → ℕ
outcome (got i) = 0
outcome (need k) = outcome (k 0)
outcome (no n) = n

-- how many of the bytes below n are accepted next, and how many are refused with 3
pub record Count : Type 0 where
  pub accepted : ℕ
  pub refused3 : ℕ

abbrev pub one : ℕ → Count → Count
one o c = record { accepted = c.accepted + pick (eqb o 0) 1 0; refused3 = c.refused3 + pick (eqb o 3) 1 0 }

unfoldable pub below : ℕ → (ℕ → Reading Instr) → Count
below zero k = record { accepted = 0; refused3 = 0 }
below (suc n) k = one (outcome (k n)) (below n k)

-- a code that is an instruction by itself, one that is refused, and one that asks for a byte
unfoldable pub code_count : Reading Instr → Count
code_count (got i) = record { accepted = 1; refused3 = 0 }
code_count (need k) = below 256 k
code_count (no n) = one n (record { accepted = 0; refused3 = 0 })

-- of all codes below n, the last first
unfoldable pub counts_of : ℕ → (ℕ → Reading Instr) → List Count
counts_of zero table = []
counts_of (suc n) table = code_count (table n) ∷ counts_of n table

unfoldable pub accepteds : List Count → List ℕ
accepteds [] = []
accepteds (c ∷ l) = accepteds l ++ (c.accepted ∷ [])

unfoldable pub total : List Count → Count
total [] = record { accepted = 0; refused3 = 0 }
total (c ∷ l) = record { accepted = c.accepted + (total l).accepted; refused3 = c.refused3 + (total l).refused3 }

abbrev pub firsts : List Count
firsts = counts_of 256 (look_up (first_bytes unprefixed))

abbrev pub seconds : List Count
seconds = counts_of 256 (look_up (second_bytes unprefixed))

-- for each first byte how many bytes are accepted behind it: 1 where it needs none, 0 where it is unknown or a prefix
abbrev pub first_forms : List ℕ
first_forms =
    256 ∷ 256 ∷ 256 ∷ 256 ∷ 256 ∷ 256 ∷ 1 ∷ 1 ∷ 256 ∷ 256 ∷ 256 ∷ 256 ∷ 256 ∷ 256 ∷ 1 ∷ 22
    ∷ 256 ∷ 256 ∷ 256 ∷ 256 ∷ 256 ∷ 256 ∷ 1 ∷ 1 ∷ 256 ∷ 256 ∷ 256 ∷ 256 ∷ 256 ∷ 256 ∷ 1 ∷ 1
    ∷ 256 ∷ 256 ∷ 256 ∷ 256 ∷ 256 ∷ 256 ∷ 0 ∷ 1 ∷ 256 ∷ 256 ∷ 256 ∷ 256 ∷ 256 ∷ 256 ∷ 0 ∷ 1
    ∷ 256 ∷ 256 ∷ 256 ∷ 256 ∷ 256 ∷ 256 ∷ 0 ∷ 1 ∷ 256 ∷ 256 ∷ 256 ∷ 256 ∷ 256 ∷ 256 ∷ 0 ∷ 1
    ∷ 1 ∷ 1 ∷ 1 ∷ 1 ∷ 1 ∷ 1 ∷ 1 ∷ 1 ∷ 1 ∷ 1 ∷ 1 ∷ 1 ∷ 1 ∷ 1 ∷ 1 ∷ 1
    ∷ 1 ∷ 1 ∷ 1 ∷ 1 ∷ 1 ∷ 1 ∷ 1 ∷ 1 ∷ 1 ∷ 1 ∷ 1 ∷ 1 ∷ 1 ∷ 1 ∷ 1 ∷ 1
    ∷ 1 ∷ 1 ∷ 192 ∷ 0 ∷ 0 ∷ 0 ∷ 0 ∷ 0 ∷ 256 ∷ 256 ∷ 256 ∷ 256 ∷ 1 ∷ 1 ∷ 1 ∷ 1
    ∷ 256 ∷ 256 ∷ 256 ∷ 256 ∷ 256 ∷ 256 ∷ 256 ∷ 256 ∷ 256 ∷ 256 ∷ 256 ∷ 256 ∷ 256 ∷ 256 ∷ 256 ∷ 256
    ∷ 256 ∷ 256 ∷ 256 ∷ 256 ∷ 256 ∷ 256 ∷ 256 ∷ 256 ∷ 256 ∷ 256 ∷ 256 ∷ 256 ∷ 128 ∷ 192 ∷ 96 ∷ 32
    ∷ 1 ∷ 1 ∷ 1 ∷ 1 ∷ 1 ∷ 1 ∷ 1 ∷ 1 ∷ 1 ∷ 1 ∷ 256 ∷ 0 ∷ 1 ∷ 1 ∷ 1 ∷ 1
    ∷ 256 ∷ 256 ∷ 256 ∷ 256 ∷ 1 ∷ 1 ∷ 1 ∷ 1 ∷ 256 ∷ 256 ∷ 1 ∷ 1 ∷ 1 ∷ 1 ∷ 1 ∷ 1
    ∷ 256 ∷ 256 ∷ 256 ∷ 256 ∷ 256 ∷ 256 ∷ 256 ∷ 256 ∷ 256 ∷ 256 ∷ 256 ∷ 256 ∷ 256 ∷ 256 ∷ 256 ∷ 256
    ∷ 224 ∷ 224 ∷ 256 ∷ 1 ∷ 192 ∷ 192 ∷ 32 ∷ 32 ∷ 256 ∷ 1 ∷ 256 ∷ 1 ∷ 1 ∷ 256 ∷ 1 ∷ 1
    ∷ 224 ∷ 224 ∷ 224 ∷ 224 ∷ 1 ∷ 1 ∷ 0 ∷ 1 ∷ 0 ∷ 0 ∷ 0 ∷ 0 ∷ 0 ∷ 0 ∷ 0 ∷ 0
    ∷ 256 ∷ 256 ∷ 256 ∷ 256 ∷ 256 ∷ 256 ∷ 256 ∷ 256 ∷ 256 ∷ 256 ∷ 256 ∷ 256 ∷ 1 ∷ 1 ∷ 1 ∷ 1
    ∷ 0 ∷ 0 ∷ 0 ∷ 0 ∷ 1 ∷ 1 ∷ 224 ∷ 224 ∷ 1 ∷ 1 ∷ 1 ∷ 1 ∷ 1 ∷ 1 ∷ 64 ∷ 208
    ∷ []

-- for each byte after 0F likewise
abbrev pub second_forms : List ℕ
second_forms =
    0 ∷ 0 ∷ 0 ∷ 0 ∷ 0 ∷ 0 ∷ 0 ∷ 0 ∷ 0 ∷ 0 ∷ 0 ∷ 0 ∷ 0 ∷ 0 ∷ 0 ∷ 0
    ∷ 32 ∷ 32 ∷ 32 ∷ 32 ∷ 32 ∷ 32 ∷ 32 ∷ 32 ∷ 32 ∷ 32 ∷ 32 ∷ 32 ∷ 32 ∷ 32 ∷ 32 ∷ 32
    ∷ 1 ∷ 0 ∷ 1 ∷ 0 ∷ 0 ∷ 0 ∷ 1 ∷ 0 ∷ 32 ∷ 0 ∷ 32 ∷ 0 ∷ 0 ∷ 0 ∷ 0 ∷ 0
    ∷ 0 ∷ 64 ∷ 0 ∷ 64 ∷ 0 ∷ 0 ∷ 0 ∷ 0 ∷ 0 ∷ 8 ∷ 0 ∷ 8 ∷ 0 ∷ 0 ∷ 0 ∷ 0
    ∷ 0 ∷ 0 ∷ 0 ∷ 0 ∷ 0 ∷ 0 ∷ 0 ∷ 0 ∷ 0 ∷ 0 ∷ 0 ∷ 0 ∷ 0 ∷ 0 ∷ 0 ∷ 0
    ∷ 0 ∷ 0 ∷ 0 ∷ 0 ∷ 0 ∷ 0 ∷ 0 ∷ 0 ∷ 0 ∷ 0 ∷ 0 ∷ 0 ∷ 0 ∷ 0 ∷ 0 ∷ 0
    ∷ 0 ∷ 0 ∷ 0 ∷ 0 ∷ 0 ∷ 0 ∷ 0 ∷ 0 ∷ 0 ∷ 0 ∷ 0 ∷ 0 ∷ 0 ∷ 0 ∷ 0 ∷ 0
    ∷ 0 ∷ 0 ∷ 0 ∷ 0 ∷ 0 ∷ 0 ∷ 0 ∷ 0 ∷ 0 ∷ 0 ∷ 0 ∷ 0 ∷ 0 ∷ 0 ∷ 0 ∷ 0
    ∷ 0 ∷ 0 ∷ 0 ∷ 0 ∷ 0 ∷ 0 ∷ 0 ∷ 0 ∷ 0 ∷ 0 ∷ 0 ∷ 0 ∷ 0 ∷ 0 ∷ 0 ∷ 0
    ∷ 0 ∷ 0 ∷ 0 ∷ 0 ∷ 0 ∷ 0 ∷ 0 ∷ 0 ∷ 0 ∷ 0 ∷ 0 ∷ 0 ∷ 0 ∷ 0 ∷ 0 ∷ 0
    ∷ 0 ∷ 0 ∷ 0 ∷ 0 ∷ 0 ∷ 0 ∷ 0 ∷ 0 ∷ 0 ∷ 0 ∷ 0 ∷ 0 ∷ 0 ∷ 0 ∷ 0 ∷ 0
    ∷ 0 ∷ 0 ∷ 0 ∷ 0 ∷ 0 ∷ 0 ∷ 0 ∷ 0 ∷ 0 ∷ 0 ∷ 0 ∷ 0 ∷ 0 ∷ 0 ∷ 0 ∷ 0
    ∷ 0 ∷ 0 ∷ 0 ∷ 0 ∷ 0 ∷ 0 ∷ 0 ∷ 0 ∷ 0 ∷ 0 ∷ 0 ∷ 0 ∷ 0 ∷ 0 ∷ 0 ∷ 0
    ∷ 0 ∷ 0 ∷ 0 ∷ 0 ∷ 0 ∷ 0 ∷ 0 ∷ 0 ∷ 0 ∷ 0 ∷ 0 ∷ 0 ∷ 0 ∷ 0 ∷ 0 ∷ 0
    ∷ 0 ∷ 0 ∷ 0 ∷ 0 ∷ 0 ∷ 0 ∷ 0 ∷ 0 ∷ 0 ∷ 0 ∷ 0 ∷ 0 ∷ 0 ∷ 0 ∷ 0 ∷ 0
    ∷ 0 ∷ 0 ∷ 0 ∷ 0 ∷ 0 ∷ 0 ∷ 0 ∷ 0 ∷ 0 ∷ 0 ∷ 0 ∷ 0 ∷ 0 ∷ 0 ∷ 0 ∷ 256
    ∷ []

-- the bytes that are prefixes, below n, the last first
unfoldable pub is_prefix : Option Prefix → Bool
is_prefix None = false
is_prefix (Some q) = true

unfoldable pub prefixes : ℕ → List ℕ
prefixes zero = []
prefixes (suc n) = pick (is_prefix (prefix_of n)) (prefixes n ++ (n ∷ [])) (prefixes n)

pub record Forms : Type 0 where
  pub prefix_bytes : prefixes 256 ≡ 0x26 ∷ 0x2e ∷ 0x36 ∷ 0x3e ∷ 0x64 ∷ 0x65 ∷ 0xf0 ∷ 0xf2 ∷ 0xf3 ∷ []
  pub first_bytes_lem : accepteds firsts ≡ first_forms
  pub second_bytes_lem : accepteds seconds ≡ second_forms
  -- all others are refused with 3
  pub first_total : total firsts ≡ record { accepted = 33732; refused3 = 2479 }
  pub second_total : total seconds ≡ record { accepted = 979; refused3 = 5142 }

pub all_forms : Forms
unfolding prefixes is_prefix prefix_of accepteds total counts_of code_count below outcome look_up reading.◌>>=◌ word immediate signed_byte allow formed displacement with_displacement with_offset address in_memory place memory plain_place with_plain bit_in_cl bit_given field_in_register field_given break_for_emulation with_place with_memory operation_at with_acc small_immediate with_immediate with_shift shift_group group_f6 group_fe group_ff from_segment to_segment after_ten with_byte with_word with_short with_far with_counted form_at sign_of extend
all_forms = record { prefix_bytes = refl; first_bytes_lem = refl; second_bytes_lem = refl; first_total = refl; second_total = refl }
