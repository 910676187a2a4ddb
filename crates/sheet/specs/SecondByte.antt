-- The codes after 0F: bits, decimal strings and digits, bit fields, BRKEM.
-- 001:1276-1283, 1322-1328, 1440-1482 by their codes, 000:958-965, 1007-1013, 1120-1135 where these cannot be read; 000:1317; 01:50; 02 m
use Rattle.std.specs.Prelude.{ℕ, ◌&&◌, List, [], ◌∷◌, eqb}
use Rattle.sheet.specs.declared.Place.{Place}
use Rattle.sheet.specs.declared.Amount.TheVariants.{InCl, Given}
use Rattle.sheet.specs.declared.Length.{Length}
use Rattle.sheet.specs.declared.Length.TheVariants as lengths
use Rattle.sheet.specs.declared.Bit.{Bit}
use Rattle.sheet.specs.declared.Bit.TheVariants.{Test1, Clr1, Set1, Not1}
use Rattle.sheet.specs.declared.Decimal.TheVariants.{Add4s, Sub4s, Cmp4s, Rol4, Ror4}
use Rattle.sheet.specs.declared.Field.TheVariants.{Ins, Ext}
use Rattle.sheet.specs.declared.Mode.TheVariants.{Brkem}
use Rattle.sheet.specs.declared.Prefixes.{Prefixes}
use Rattle.sheet.specs.declared.Instr.{Instr}
use Rattle.sheet.specs.declared.Instr.TheVariants.{Modes}
use Rattle.sheet.specs.Groups.{Bits, Decimals, Fields}
use Rattle.sheet.specs.Registers.{in_ds0}
use Rattle.sheet.specs.Reading.{Reading, got, ◌>>=◌, ◌>>◌, byte, allow}
use Rattle.sheet.specs.Encoding.{seg_or, mod_field, reg_field, mem_field, place, Row, row, W}

-- an operand whose reg field must be 0
unfoldable pub plain_place : Prefixes → Reading Place
plain_place p = do
  m ← byte
  allow (eqb (reg_field m) 0)
  place p m

-- such an operand, and nothing behind it
unfoldable pub with_plain : Prefixes → (Place → Instr) → Reading Instr
with_plain p k = do
  to ← plain_place p
  got (k to)

unfoldable pub bit_in_cl : Prefixes → Bit → ℕ → Reading Instr
bit_in_cl p op b = with_plain p (λ to. Bits op (W b) to InCl)

unfoldable pub bit_given : Prefixes → Bit → ℕ → Reading Instr
bit_given p op b = do
  to ← plain_place p
  number ← byte
  got (Bits op (W b) to (Given number))

-- 11 reg' reg: the offset's register in the low field, the length's in the other
unfoldable pub field_in_register : (ℕ → Length → Reading Instr) → Reading Instr
field_in_register k = do
  m ← byte
  allow (eqb (mod_field m) 3)
  k (mem_field m) (lengths.InRegister (reg_field m))

-- 11 000 reg and a byte
unfoldable pub field_given : (ℕ → Length → Reading Instr) → Reading Instr
field_given k = do
  m ← byte
  allow (eqb (mod_field m) 3 && eqb (reg_field m) 0)
  n ← byte
  k (mem_field m) (lengths.Given n)

unfoldable pub break_for_emulation : Reading Instr
break_for_emulation = do
  v ← byte
  got (Modes (Brkem v))

abbrev pub second_bytes : Prefixes → List Row
second_bytes p =
    row 0x10 2 (bit_in_cl p Test1)  -- TEST1 ..,CL 001:1440-1443, 002:2723-2726
    ∷ row 0x12 2 (bit_in_cl p Clr1)  -- CLR1 ..,CL 000:1120-1123
    ∷ row 0x14 2 (bit_in_cl p Set1)  -- SET1 ..,CL 000:1128-1131
    ∷ row 0x16 2 (bit_in_cl p Not1)  -- NOT1 ..,CL 001:1448-1451
    ∷ row 0x18 2 (bit_given p Test1)  -- TEST1 ..,imm 001:1444-1447
    ∷ row 0x1a 2 (bit_given p Clr1)  -- CLR1 ..,imm 000:1124-1127
    ∷ row 0x1c 2 (bit_given p Set1)  -- SET1 ..,imm 000:1132-1135
    ∷ row 0x1e 2 (bit_given p Not1)  -- NOT1 ..,imm 001:1452-1455
    ∷ row 0x20 1 (λ b. got (Decimals (Add4s (seg_or p.seg in_ds0))))  -- ADD4S 000:1007
    ∷ row 0x22 1 (λ b. got (Decimals (Sub4s (seg_or p.seg in_ds0))))  -- SUB4S 000:1008
    ∷ row 0x26 1 (λ b. got (Decimals (Cmp4s (seg_or p.seg in_ds0))))  -- CMP4S 000:1009
    ∷ row 0x28 1 (λ b. with_plain p (λ to. Decimals (Rol4 to)))  -- ROL4 000:1010-1011
    ∷ row 0x2a 1 (λ b. with_plain p (λ to. Decimals (Ror4 to)))  -- ROR4 000:1012-1013
    ∷ row 0x31 1 (λ b. field_in_register (λ o l. got (Fields (Ins o l))))  -- INS reg8,reg8' 000:958-959
    ∷ row 0x33 1 (λ b. field_in_register (λ o l. got (Fields (Ext (seg_or p.seg in_ds0) o l))))  -- EXT reg8,reg8' 000:962-963
    ∷ row 0x39 1 (λ b. field_given (λ o l. got (Fields (Ins o l))))  -- INS reg8,imm4 000:960-961
    ∷ row 0x3b 1 (λ b. field_given (λ o l. got (Fields (Ext (seg_or p.seg in_ds0) o l))))  -- EXT reg8,imm4 000:964-965
    ∷ row 0xff 1 (λ b. break_for_emulation)  -- BRKEM imm8 000:1317
    ∷ []
