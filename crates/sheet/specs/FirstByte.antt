-- The first bytes of instructions, in their order, and an instruction with its prefixes.
-- 001:1233-1659 by their codes, 000:917-1344 where these cannot be read; 01:9, 23, 50
use Rattle.std.specs.Prelude.{ℕ, zero, suc, ◌+◌, ◌%◌, Bool, true, false, not, ◌&&◌, List, [], ◌∷◌, ◌++◌, eqb, ltb, get_or, Option, Some, None}
use Rattle.sheet.specs.declared.Address.{Address}
use Rattle.sheet.specs.declared.Place.{Place}
use Rattle.sheet.specs.declared.Place.TheVariants.{Register}
use Rattle.sheet.specs.declared.Source.{Source}
use Rattle.sheet.specs.declared.Source.TheVariants.{Held, Immediate}
use Rattle.sheet.specs.declared.Amount.TheVariants.{InCl, Given}
use Rattle.sheet.specs.declared.Transfer.TheVariants.{Mov, LoadAcc, StoreAcc, ToSegment, FromSegment, LoadPointer, AhFromPsw, PswFromAh, Ldea, Trans, Xch}
use Rattle.sheet.specs.declared.Operation.{Operation}
use Rattle.sheet.specs.declared.Operation.TheVariants.{Add, Or, Addc, Subc, And, Sub, Xor, Cmp}
use Rattle.sheet.specs.declared.Unary.TheVariants.{Inc, Dec, Not, Neg}
use Rattle.sheet.specs.declared.Arithmetic.TheVariants as calculates
use Rattle.sheet.specs.declared.Multiply.TheVariants.{Mulu, Mul, MulByte, MulWord, Divu, Div}
use Rattle.sheet.specs.declared.Convert.{Convert}
use Rattle.sheet.specs.declared.Convert.TheVariants.{Adjba, Adj4a, Adjbs, Adj4s, Cvtbd, Cvtdb, Cvtbw, Cvtwl}
use Rattle.sheet.specs.declared.Shift.{Shift}
use Rattle.sheet.specs.declared.Shift.TheVariants.{Rol, Ror, Rolc, Rorc, Shl, Shr, Shra}
use Rattle.sheet.specs.declared.Places.{Places}
use Rattle.sheet.specs.declared.Places.TheVariants.{One, Counted}
use Rattle.sheet.specs.declared.Stack.TheVariants.{Push, PushByte, PushWord, PushSegment, PushPsw, PushR, Pop, PopSegment, PopR, Prepare, Dispose}
use Rattle.sheet.specs.declared.Branch.TheVariants.{CallNear, CallTo, CallFar, CallFarAt, Ret, RetPop, RetFar, RetFarPop, BrNear, BrShort, BrTo, BrFar, BrFarAt}
use Rattle.sheet.specs.declared.Conditional.TheVariants.{If, Dbnzne, Dbnze, Dbnz, Bcwz}
use Rattle.sheet.specs.declared.Interrupt.TheVariants.{Brk3, Brk, Brkv, Chkind}
use Rattle.sheet.specs.declared.Mode.TheVariants.{PopPsw, Reti}
use Rattle.sheet.specs.declared.Primitive.{Primitive}
use Rattle.sheet.specs.declared.Primitive.TheVariants.{Movbk, Cmpbk, Cmpm, Ldm, Stm, Inm, Outm}
use Rattle.sheet.specs.declared.Port.TheVariants.{InDw, Numbered}
use Rattle.sheet.specs.declared.Io.TheVariants.{In, Out}
use Rattle.sheet.specs.declared.Control.TheVariants.{Nop, Halt, Di, Ei, ClrCy, SetCy, NotCy, ClrDir, SetDir}
use Rattle.sheet.specs.declared.Prefixes.{Prefixes}
use Rattle.sheet.specs.declared.Instr.{Instr}
use Rattle.sheet.specs.declared.Instr.TheVariants.{Multiplies, Interrupts, Blocks, Ports, Controls, Modes}
use Rattle.sheet.specs.Groups.{Transfers, Calculates, Converts, Shifts, Stacks, Branches, Tests}
use Rattle.sheet.specs.Width.{pick}
use Rattle.sheet.specs.Registers.{AW, in_ds1, in_ps, in_ss, in_ds0}
use Rattle.sheet.specs.Reading.{Reading, got, no, ◌>>=◌, ◌>>◌, byte, word, immediate, signed_byte, allow}
use Rattle.sheet.specs.Encoding.{unprefixed, with_prefix, prefix_of, Prefix, seg_or, reg_field, direct, place, memory, Row, row, look_up, W, to_register, reg_of}
use Rattle.sheet.specs.SecondByte.{plain_place, with_plain, second_bytes}

-- ---- what follows a first byte

-- mod reg mem, with the reg field
unfoldable pub with_place : Prefixes → (ℕ → Place → Reading Instr) → Reading Instr
with_place p k = do
  m ← byte
  a ← place p m
  k (reg_field m) a

-- mod reg mem where only memory will do
unfoldable pub with_memory : Prefixes → (ℕ → Address → Instr) → Reading Instr
with_memory p k = do
  m ← byte
  a ← memory p m
  got (k (reg_field m) a)

-- the operations by the reg field of 80 to 83
abbrev pub operations : List Operation
operations = Add ∷ Or ∷ Addc ∷ Subc ∷ And ∷ Sub ∷ Xor ∷ Cmp ∷ []

unfoldable pub operation_at : ℕ → Operation
operation_at n = get_or operations n Add

-- mem,reg or reg,mem, by the bit that says where the result goes
abbrev pub two_places : Operation → ℕ → ℕ → Place → Instr
two_places op b reg a =
    pick (to_register b)
    (Calculates (calculates.Two op (W b) (Register reg) (Held a)))
    (Calculates (calculates.Two op (W b) a (Held (Register reg))))

-- acc,imm
unfoldable pub with_acc : (Source → Instr) → Bool → Reading Instr
with_acc k w = do
  v ← immediate w
  got (k (Immediate v))

-- the six codes of an operation
abbrev pub six_codes : Prefixes → ℕ → Operation → List Row
six_codes p from op =
    row from 4 (λ b. with_place p (λ reg a. got (two_places op b reg a)))
    ∷ row (from + 4) 2 (λ b. with_acc (λ v. Calculates (calculates.Two op (W b) (Register AW) v)) (W b))
    ∷ []

-- 80 to 83: 82 is 80, and 83 widens its byte with the sign
unfoldable pub small_immediate : ℕ → Reading ℕ
small_immediate b = pick (eqb b 0x81) word (pick (eqb b 0x83) signed_byte byte)

unfoldable pub with_immediate : Prefixes → ℕ → Reading Instr
with_immediate p b =
    with_place p (λ reg a. do
      v ← small_immediate b
      got (Calculates (calculates.Two (operation_at reg) (W b) a (Immediate v))))

-- a shift by its reg field: 6 is unknown
abbrev pub shifts : List (Option Shift)
shifts = Some Rol ∷ Some Ror ∷ Some Rolc ∷ Some Rorc ∷ Some Shl ∷ Some Shr ∷ None ∷ Some Shra ∷ []

unfoldable pub with_shift : Option Shift → (Shift → Reading Instr) → Reading Instr
with_shift None k = no 3
with_shift (Some s) k = k s

unfoldable pub shift_group : Prefixes → Reading Places → ℕ → Reading Instr
shift_group p count b = do
  m ← byte
  with_shift (get_or shifts (reg_field m) None) (λ s. do
    a ← place p m
    c ← count
    got (Shifts s (W b) a c))

-- F6 and F7 by the reg field
unfoldable pub group_f6 : Prefixes → ℕ → Reading Instr
group_f6 p b = do
  m ← byte
  look_up (
      row 0 1 (λ k. do  -- TEST ..,imm 000:1093-1094
        a ← place p m
        v ← immediate (W b)
        got (Calculates (calculates.Test (W b) a (Immediate v))))
      ∷ row 2 1 (λ k. do a ← place p m; got (Calculates (calculates.One Not (W b) a)))  -- NOT 001:1389-1390
      ∷ row 3 1 (λ k. do a ← place p m; got (Calculates (calculates.One Neg (W b) a)))  -- NEG 001:1391-1392
      ∷ row 4 1 (λ k. do a ← place p m; got (Multiplies (Mulu (W b) a)))  -- MULU 000:1029-1032
      ∷ row 5 1 (λ k. do a ← place p m; got (Multiplies (Mul (W b) a)))  -- MUL 000:1033-1036
      ∷ row 6 1 (λ k. do a ← place p m; got (Multiplies (Divu (W b) a)))  -- DIVU 000:1047-1050
      ∷ row 7 1 (λ k. do a ← place p m; got (Multiplies (Div (W b) a)))  -- DIV 000:1055-1058
      ∷ []) (reg_field m)

-- FE and FF by the reg field: both begin with INC and DEC
abbrev pub inc_and_dec : Prefixes → ℕ → Bool → List Row
inc_and_dec p m w =
    row 0 1 (λ k. do a ← place p m; got (Calculates (calculates.One Inc w a)))  -- INC 000:1014-1015
    ∷ row 1 1 (λ k. do a ← place p m; got (Calculates (calculates.One Dec w a)))  -- DEC 000:1017-1018
    ∷ []

unfoldable pub group_fe : Prefixes → Reading Instr
group_fe p = do
  m ← byte
  look_up (inc_and_dec p m false) (reg_field m)

unfoldable pub group_ff : Prefixes → Reading Instr
group_ff p = do
  m ← byte
  look_up (inc_and_dec p m true ++ (
      row 2 1 (λ k. do a ← place p m; got (Branches (CallTo a)))  -- CALL regptr16/memptr16 000:1241-1242
      ∷ row 3 1 (λ k. do a ← memory p m; got (Branches (CallFarAt a)))  -- CALL memptr32 000:1244
      ∷ row 4 1 (λ k. do a ← place p m; got (Branches (BrTo a)))  -- BR regptr16/memptr16 000:1279-1280
      ∷ row 5 1 (λ k. do a ← memory p m; got (Branches (BrFarAt a)))  -- BR memptr32 000:1282
      ∷ row 6 1 (λ k. do a ← place p m; got (Stacks (Push a)))  -- PUSH mem16 000:1254
      ∷ [])) (reg_field m)

-- 8C and 8E: a reg field above 3 names no segment, and PS is not loaded
unfoldable pub from_segment : Prefixes → Reading Instr
from_segment p = do
  m ← byte
  allow (ltb (reg_field m) 4)
  a ← place p m
  got (Transfers (FromSegment a (reg_field m)))

unfoldable pub to_segment : Prefixes → Reading Instr
to_segment p = do
  m ← byte
  allow (ltb (reg_field m) 4 && not (eqb (reg_field m) in_ps))
  a ← place p m
  got (Transfers (ToSegment (reg_field m) a))

-- D4 and D5 are followed by 0Ah
unfoldable pub after_ten : Convert → Reading Instr
after_ten c = do
  b ← byte
  allow (eqb b 0x0a)
  got (Converts c)

unfoldable pub with_byte : (ℕ → Instr) → Reading Instr
with_byte k = do
  b ← byte
  got (k b)

unfoldable pub with_word : (ℕ → Instr) → Reading Instr
with_word k = do
  v ← word
  got (k v)

-- a byte widened with its sign
unfoldable pub with_short : (ℕ → Instr) → Reading Instr
with_short k = do
  v ← signed_byte
  got (k v)

-- an offset, then a segment
unfoldable pub with_far : (ℕ → ℕ → Instr) → Reading Instr
with_far k = do
  pc ← word
  ps ← word
  got (k ps pc)

unfoldable pub with_counted : Reading Places
with_counted = do
  n ← byte
  got (Counted (Given n))

abbrev pub blocks : Prefixes → Primitive → ℕ → Reading Instr
blocks p k b = got (Blocks k (W b) (seg_or p.seg in_ds0) p.repeat)

abbrev pub push_segment : ℕ → ℕ → Reading Instr
push_segment seg b = got (Stacks (PushSegment seg))

abbrev pub pop_segment : ℕ → ℕ → Reading Instr
pop_segment seg b = got (Stacks (PopSegment seg))

abbrev pub converts : Convert → ℕ → Reading Instr
converts c b = got (Converts c)

-- ---- the table

abbrev pub bytes00 : Prefixes → List Row
bytes00 p =
    six_codes p 0x00 Add  -- ADD 000:978-983
    ++ (row 0x06 1 (push_segment in_ds1)  -- PUSH DS1 001:1579
    ∷ row 0x07 1 (pop_segment in_ds1)  -- POP DS1 000:1263
    ∷ six_codes p 0x08 Or)  -- OR 000:1102-1107
    ++ (row 0x0e 1 (push_segment in_ps)  -- PUSH PS 001:1579
    ∷ row 0x0f 1 (λ b. do  -- two bytes: SecondByte
      second ← byte
      look_up (second_bytes p) second)
    ∷ six_codes p 0x10 Addc)  -- ADDC 000:984-989
    ++ (row 0x16 1 (push_segment in_ss)  -- PUSH SS 001:1579
    ∷ row 0x17 1 (pop_segment in_ss)  -- POP SS 000:1263
    ∷ six_codes p 0x18 Subc)  -- SUBC 000:996-1001
    ++ (row 0x1e 1 (push_segment in_ds0)  -- PUSH DS0 001:1579
    ∷ row 0x1f 1 (pop_segment in_ds0)  -- POP DS0 000:1263
    ∷ six_codes p 0x20 And)  -- AND 000:1096-1101
    ++ (row 0x27 1 (converts Adj4a)  -- ADJ4A 000:1067, 01:57
    ∷ six_codes p 0x28 Sub)  -- SUB 000:990-995
    ++ (row 0x2f 1 (converts Adj4s)  -- ADJ4S 000:1069, 01:57
    ∷ six_codes p 0x30 Xor)  -- XOR 000:1108-1113
    ++ (row 0x37 1 (converts Adjba)  -- ADJBA 000:1066, 01:57
    ∷ six_codes p 0x38 Cmp)  -- CMP 000:1076-1081
    ++ (row 0x3f 1 (converts Adjbs)  -- ADJBS 000:1068, 01:57
    ∷ [])

abbrev pub bytes40 : Prefixes → List Row
bytes40 p =
    row 0x40 8 (λ b. got (Calculates (calculates.One Inc true (Register (reg_of b)))))  -- INC reg16 000:1016
    ∷ row 0x48 8 (λ b. got (Calculates (calculates.One Dec true (Register (reg_of b)))))  -- DEC reg16 000:1019
    ∷ row 0x50 8 (λ b. got (Stacks (Push (Register (reg_of b)))))  -- PUSH reg16 001:1578
    ∷ row 0x58 8 (λ b. got (Stacks (Pop (Register (reg_of b)))))  -- POP reg16 000:1262
    ∷ row 0x60 1 (λ b. got (Stacks PushR))  -- PUSH R 000:1258
    ∷ row 0x61 1 (λ b. got (Stacks PopR))  -- POP R 000:1265
    ∷ row 0x62 1 (λ b. with_memory p (λ reg a. Interrupts (Chkind reg a)))  -- CHKIND 001:1639
    ∷ row 0x68 1 (λ b. with_word (λ v. Stacks (PushWord v)))  -- PUSH imm16 001:1583
    ∷ row 0x69 1 (λ b. with_place p (λ reg a. with_word (λ v. Multiplies (MulWord reg a v))))  -- MUL reg16,reg16'/mem16,imm16 000:1039-1040
    ∷ row 0x6a 1 (λ b. with_short (λ v. Stacks (PushByte v)))  -- PUSH imm8 001:1582
    ∷ row 0x6b 1 (λ b. with_place p (λ reg a. with_short (λ v. Multiplies (MulByte reg a v))))  -- MUL reg16,reg16'/mem16,imm8 000:1037-1038
    ∷ row 0x6c 2 (blocks p Inm)  -- INM 000:970
    ∷ row 0x6e 2 (blocks p Outm)  -- OUTM 000:971
    ∷ row 0x70 16 (λ b. with_short (λ disp. Tests (If (b % 16) disp)))  -- BV to BGT 000:1287-1302
    ∷ []

abbrev pub bytes80 : Prefixes → List Row
bytes80 p =
    row 0x80 4 (with_immediate p)  -- reg/mem,imm of ADD to CMP 000:981-982 and its like, 01:50
    ∷ row 0x84 2 (λ b. with_place p (λ reg a. got (Calculates (calculates.Test (W b) a (Held (Register reg))))))  -- TEST 000:1091-1092
    ∷ row 0x86 2 (λ b. with_place p (λ reg a. got (Transfers (Xch (W b) reg a))))  -- XCH reg,reg'/mem 000:934-935
    ∷ row 0x88 2 (λ b. with_place p (λ reg a. got (Transfers (Mov (W b) a (Held (Register reg))))))  -- MOV mem,reg 001:1236
    ∷ row 0x8a 2 (λ b. with_place p (λ reg a. got (Transfers (Mov (W b) (Register reg) (Held a)))))  -- MOV reg,reg'/mem 001:1235, 1237
    ∷ row 0x8c 1 (λ b. from_segment p)  -- MOV reg16/mem16,sreg 001:1244-1245
    ∷ row 0x8d 1 (λ b. with_memory p (λ reg a. Transfers (Ldea reg a)))  -- LDEA 000:932
    ∷ row 0x8e 1 (λ b. to_segment p)  -- MOV sreg,reg16/mem16 001:1242-1243
    ∷ row 0x8f 1 (λ b. with_plain p (λ to. Stacks (Pop to)))  -- POP mem16 000:1261
    ∷ row 0x90 1 (λ b. got (Controls Nop))  -- NOP 001:1658
    ∷ row 0x91 7 (λ b. got (Transfers (Xch true (reg_of b) (Register AW))))  -- XCH AW,reg16 000:936
    ∷ row 0x98 1 (converts Cvtbw)  -- CVTBW 001:1381
    ∷ row 0x99 1 (converts Cvtwl)  -- CVTWL 000:1074
    ∷ row 0x9a 1 (λ b. with_far (λ ps pc. Branches (CallFar ps pc)))  -- CALL far-proc 001:1567
    ∷ row 0x9c 1 (λ b. got (Stacks PushPsw))  -- PUSH PSW 000:1257
    ∷ row 0x9d 1 (λ b. got (Modes PopPsw))  -- POP PSW 000:1264
    ∷ row 0x9e 1 (λ b. got (Transfers PswFromAh))  -- MOV PSW,AH 000:931
    ∷ row 0x9f 1 (λ b. got (Transfers AhFromPsw))  -- MOV AH,PSW 000:930
    ∷ row 0xa0 2 (λ b. with_word (λ offset. Transfers (LoadAcc (W b) (direct p offset))))  -- MOV acc,dmem 001:1240
    ∷ row 0xa2 2 (λ b. with_word (λ offset. Transfers (StoreAcc (W b) (direct p offset))))  -- MOV dmem,acc 001:1241
    ∷ row 0xa4 2 (blocks p Movbk)  -- MOVBK 000:948
    ∷ row 0xa6 2 (blocks p Cmpbk)  -- CMPBK 000:949
    ∷ row 0xa8 2 (λ b. with_acc (λ v. Calculates (calculates.Test (W b) (Register AW) v)) (W b))  -- TEST acc,imm 000:1095
    ∷ row 0xaa 2 (blocks p Stm)  -- STM 000:952
    ∷ row 0xac 2 (blocks p Ldm)  -- LDM 000:951
    ∷ row 0xae 2 (blocks p Cmpm)  -- CMPM 000:950
    ∷ row 0xb0 8 (λ b. with_byte (λ v. Transfers (Mov false (Register (reg_of b)) (Immediate v))))  -- MOV reg8,imm8 001:1239
    ∷ row 0xb8 8 (λ b. with_word (λ v. Transfers (Mov true (Register (reg_of b)) (Immediate v))))  -- MOV reg16,imm16 001:1239
    ∷ []

abbrev pub bytes_c0 : Prefixes → List Row
bytes_c0 p =
    row 0xc0 2 (shift_group p with_counted)  -- shifts by imm8 001:1498-1499 and their like
    ∷ row 0xc2 1 (λ b. with_word (λ v. Branches (RetPop v)))  -- RET pop-value 001:1570
    ∷ row 0xc3 1 (λ b. got (Branches Ret))  -- RET 001:1569
    ∷ row 0xc4 1 (λ b. with_memory p (λ reg a. Transfers (LoadPointer in_ds1 reg a)))  -- MOV DS1,reg16,mem32 001:1247
    ∷ row 0xc5 1 (λ b. with_memory p (λ reg a. Transfers (LoadPointer in_ds0 reg a)))  -- MOV DS0,reg16,mem32 001:1246
    ∷ row 0xc6 2 (λ b. do  -- MOV mem,imm 001:1238
      a ← plain_place p
      v ← immediate (W b)
      got (Transfers (Mov (W b) a (Immediate v))))
    ∷ row 0xc8 1 (λ b. do  -- PREPARE 001:1589
      size ← word
      level ← byte
      got (Stacks (Prepare size level)))
    ∷ row 0xc9 1 (λ b. got (Stacks Dispose))  -- DISPOSE 001:1590
    ∷ row 0xca 1 (λ b. with_word (λ v. Branches (RetFarPop v)))  -- far RET pop-value 000:1248
    ∷ row 0xcb 1 (λ b. got (Branches RetFar))  -- far RET 000:1247
    ∷ row 0xcc 1 (λ b. got (Interrupts Brk3))  -- BRK 3 001:1634
    ∷ row 0xcd 1 (λ b. with_byte (λ v. Interrupts (Brk v)))  -- BRK imm8 000:1314
    ∷ row 0xce 1 (λ b. got (Interrupts Brkv))  -- BRKV 001:1636
    ∷ row 0xcf 1 (λ b. got (Modes Reti))  -- RETI 000:1316
    ∷ row 0xd0 2 (shift_group p (got One))  -- shifts by 1 001:1494-1495 and their like
    ∷ row 0xd2 2 (shift_group p (got (Counted InCl)))  -- shifts by CL 001:1496-1497 and their like
    ∷ row 0xd4 1 (λ b. after_ten Cvtbd)  -- CVTBD 000:1071
    ∷ row 0xd5 1 (λ b. after_ten Cvtdb)  -- CVTDB 000:1072
    ∷ row 0xd7 1 (λ b. got (Transfers (Trans (seg_or p.seg in_ds0))))  -- TRANS 001:1251
    ∷ row 0xe0 1 (λ b. with_short (λ disp. Tests (Dbnzne disp)))  -- DBNZNE 000:1303
    ∷ row 0xe1 1 (λ b. with_short (λ disp. Tests (Dbnze disp)))  -- DBNZE 000:1304
    ∷ row 0xe2 1 (λ b. with_short (λ disp. Tests (Dbnz disp)))  -- DBNZ 000:1305
    ∷ row 0xe3 1 (λ b. with_short (λ disp. Tests (Bcwz disp)))  -- BCWZ 000:1306
    ∷ row 0xe4 2 (λ b. with_byte (λ v. Ports (In (W b) (Numbered v))))  -- IN acc,imm8 000:966
    ∷ row 0xe6 2 (λ b. with_byte (λ v. Ports (Out (W b) (Numbered v))))  -- OUT imm8,acc 000:968
    ∷ row 0xe8 1 (λ b. with_word (λ disp. Branches (CallNear disp)))  -- CALL near-proc 001:1564
    ∷ row 0xe9 1 (λ b. with_word (λ disp. Branches (BrNear disp)))  -- BR near-label 001:1591
    ∷ row 0xea 1 (λ b. with_far (λ ps pc. Branches (BrFar ps pc)))  -- BR far-label 001:1595
    ∷ row 0xeb 1 (λ b. with_short (λ disp. Branches (BrShort disp)))  -- BR short-label 001:1592
    ∷ row 0xec 2 (λ b. got (Ports (In (W b) InDw)))  -- IN acc,DW 000:967
    ∷ row 0xee 2 (λ b. got (Ports (Out (W b) InDw)))  -- OUT DW,acc 000:969
    ∷ row 0xf4 1 (λ b. got (Controls Halt))  -- HALT 001:1649
    ∷ row 0xf5 1 (λ b. got (Controls NotCy))  -- NOT1 CY 001:1462
    ∷ row 0xf6 2 (group_f6 p)  -- TEST, NOT, NEG, MULU, MUL, DIVU, DIV: groupF6
    ∷ row 0xf8 1 (λ b. got (Controls ClrCy))  -- CLR1 CY 001:1487
    ∷ row 0xf9 1 (λ b. got (Controls SetCy))  -- SET1 CY 001:1489
    ∷ row 0xfa 1 (λ b. got (Controls Di))  -- DI 001:1651
    ∷ row 0xfb 1 (λ b. got (Controls Ei))  -- EI 001:1652
    ∷ row 0xfc 1 (λ b. got (Controls ClrDir))  -- CLR1 DIR 001:1488
    ∷ row 0xfd 1 (λ b. got (Controls SetDir))  -- SET1 DIR 001:1490
    ∷ row 0xfe 1 (λ b. group_fe p)  -- INC, DEC of bytes: group_fe
    ∷ row 0xff 1 (λ b. group_ff p)  -- INC, DEC, CALL, BR, PUSH of words: group_ff
    ∷ []

abbrev pub first_bytes : Prefixes → List Row
first_bytes p = bytes00 p ++ (bytes40 p ++ (bytes80 p ++ bytes_c0 p))

-- ---- an instruction with its prefixes

unfoldable pub after_prefix : Option Prefix → (Prefix → Reading Instr) → Reading Instr → Reading Instr
after_prefix None k other = other
after_prefix (Some q) k other = k q

-- with room for so many prefixes more: a fourth is refused
unfoldable pub prefixed : ℕ → Prefixes → Reading Instr
prefixed zero p = do
  b ← byte
  after_prefix (prefix_of b) (λ q. no 4) (look_up (first_bytes p) b)
prefixed (suc room) p = do
  b ← byte
  after_prefix (prefix_of b) (λ q. prefixed room (with_prefix p q)) (look_up (first_bytes p) b)

unfoldable pub instruction : Reading Instr
instruction = prefixed 3 unprefixed
