-- Instructions as text: NEC's mnemonic and operands, in the order of the sheet's columns.
use Rattle.std.specs.Prelude.{ℕ, ◌+◌, ◌*◌, ◌%◌, Bool, true, false, List, [], ◌∷◌, ◌++◌, get_or, ltb, eqb}
use Rattle.sheet.specs.declared.Address.{Address}
use Rattle.sheet.specs.declared.Place.{Place}
use Rattle.sheet.specs.declared.Place.TheVariants.{Register, Memory}
use Rattle.sheet.specs.declared.Source.{Source}
use Rattle.sheet.specs.declared.Source.TheVariants.{Held, Immediate}
use Rattle.sheet.specs.declared.Amount.{Amount}
use Rattle.sheet.specs.declared.Amount.TheVariants as amount
use Rattle.sheet.specs.declared.Places.{Places}
use Rattle.sheet.specs.declared.Places.TheVariants.{One, Counted}
use Rattle.sheet.specs.declared.Length.{Length}
use Rattle.sheet.specs.declared.Length.TheVariants as lengths
use Rattle.sheet.specs.declared.Port.{Port}
use Rattle.sheet.specs.declared.Port.TheVariants.{InDw, Numbered}
use Rattle.sheet.specs.declared.Transfer.{Transfer}
use Rattle.sheet.specs.declared.Transfer.TheVariants.{Mov, LoadAcc, StoreAcc, ToSegment, FromSegment, LoadPointer, AhFromPsw, PswFromAh, Ldea, Trans, Xch}
use Rattle.sheet.specs.declared.Operation.{Operation}
use Rattle.sheet.specs.declared.Operation.TheVariants as operation
use Rattle.sheet.specs.declared.Unary.{Unary}
use Rattle.sheet.specs.declared.Unary.TheVariants as unary
use Rattle.sheet.specs.declared.Arithmetic.{Arithmetic}
use Rattle.sheet.specs.declared.Arithmetic.TheVariants as arithmetic
use Rattle.sheet.specs.declared.Multiply.{Multiply}
use Rattle.sheet.specs.declared.Multiply.TheVariants.{Mulu, Mul, MulByte, MulWord, Divu, Div}
use Rattle.sheet.specs.declared.Convert.{Convert}
use Rattle.sheet.specs.declared.Convert.TheVariants.{Adjba, Adj4a, Adjbs, Adj4s, Cvtbd, Cvtdb, Cvtbw, Cvtwl}
use Rattle.sheet.specs.declared.Shift.{Shift}
use Rattle.sheet.specs.declared.Shift.TheVariants.{Rol, Ror, Rolc, Rorc, Shl, Shr, Shra}
use Rattle.sheet.specs.declared.Bit.{Bit}
use Rattle.sheet.specs.declared.Bit.TheVariants.{Test1, Clr1, Set1, Not1}
use Rattle.sheet.specs.declared.Decimal.{Decimal}
use Rattle.sheet.specs.declared.Decimal.TheVariants.{Add4s, Sub4s, Cmp4s, Rol4, Ror4}
use Rattle.sheet.specs.declared.Field.{Field}
use Rattle.sheet.specs.declared.Field.TheVariants.{Ins, Ext}
use Rattle.sheet.specs.declared.Stack.{Stack}
use Rattle.sheet.specs.declared.Stack.TheVariants.{Push, PushByte, PushWord, PushSegment, PushPsw, PushR, Pop, PopSegment, PopR, Prepare, Dispose}
use Rattle.sheet.specs.declared.Branch.{Branch}
use Rattle.sheet.specs.declared.Branch.TheVariants.{CallNear, CallTo, CallFar, CallFarAt, Ret, RetPop, RetFar, RetFarPop, BrNear, BrShort, BrTo, BrFar, BrFarAt}
use Rattle.sheet.specs.declared.Conditional.{Conditional}
use Rattle.sheet.specs.declared.Conditional.TheVariants.{If, Dbnzne, Dbnze, Dbnz, Bcwz}
use Rattle.sheet.specs.declared.Interrupt.{Interrupt}
use Rattle.sheet.specs.declared.Interrupt.TheVariants.{Brk3, Brk, Brkv, Chkind}
use Rattle.sheet.specs.declared.Mode.{Mode}
use Rattle.sheet.specs.declared.Mode.TheVariants.{PopPsw, Reti, Brkem}
use Rattle.sheet.specs.declared.Primitive.{Primitive}
use Rattle.sheet.specs.declared.Primitive.TheVariants.{Movbk, Cmpbk, Cmpm, Ldm, Stm, Inm, Outm}
use Rattle.sheet.specs.declared.Repeat.{Repeat}
use Rattle.sheet.specs.declared.Repeat.TheVariants.{Once as Unrepeated, WhileZ, WhileNotZ, WhileCy, WhileNotCy}
use Rattle.sheet.specs.declared.Io.{Io}
use Rattle.sheet.specs.declared.Io.TheVariants.{In, Out}
use Rattle.sheet.specs.declared.Control.{Control}
use Rattle.sheet.specs.declared.Control.TheVariants.{Nop, Halt, Di, Ei, ClrCy, SetCy, NotCy, ClrDir, SetDir}
use Rattle.sheet.specs.declared.Compute.{Compute}
use Rattle.sheet.specs.declared.Compute.TheVariants as compute
use Rattle.sheet.specs.declared.Move.{Move}
use Rattle.sheet.specs.declared.Move.TheVariants as move
use Rattle.sheet.specs.declared.Instr.{Instr}
use Rattle.sheet.specs.declared.Instr.TheVariants.{Computes, Moves, Multiplies, Interrupts, Blocks, Ports, Controls, Modes, Cards}
use Rattle.sheet.specs.Width.{pick}
use Rattle.sheet.specs.Registers.{AW, CL, DW, BW, IX, IY}
use Rattle.base_text.specs.Text.{text}
use Rattle.rom_mnemonic.specs.declared.Size.TheVariants.{Unsaid, Pair}
use Rattle.rom_mnemonic.specs.declared.Operand.{Operand}
use Rattle.rom_mnemonic.specs.declared.Operand.TheVariants.{Reg, Seg, Mem, Block, Value, Once, Target, Far}
use Rattle.rom_mnemonic.specs.Operands.{operand_text, size_of}

-- ---- a mnemonic with its operands

-- what stands behind the mnemonic
unfoldable pub after : Operand → List ℕ
after a = text " " ++ operand_text a

unfoldable pub after_two : Operand → Operand → List ℕ
after_two a b = after a ++ (text "," ++ operand_text b)

unfoldable pub after_three : Operand → Operand → Operand → List ℕ
after_three a b c = after_two a b ++ (text "," ++ operand_text c)

unfoldable pub one : List ℕ → Operand → List ℕ
one name a = name ++ after a

unfoldable pub two : List ℕ → Operand → Operand → List ℕ
two name a b = name ++ after_two a b

unfoldable pub three : List ℕ → Operand → Operand → Operand → List ℕ
three name a b c = name ++ after_three a b c

-- ---- operands

unfoldable pub of_place : Bool → Place → Operand
of_place w (Register n) = Reg w n
of_place w (Memory a) = Mem (size_of w) a

unfoldable pub of_source : Bool → Source → Operand
of_source w (Held p) = of_place w p
of_source w (Immediate v) = Value w v

-- AL or AW
abbrev pub acc : Bool → Operand
acc w = Reg w AW

unfoldable pub of_amount : Amount → Operand
of_amount amount.InCl = Reg false CL
of_amount (amount.Given n) = Value false n

unfoldable pub of_places : Places → Operand
of_places One = Once
of_places (Counted a) = of_amount a

unfoldable pub of_length : Length → Operand
of_length (lengths.InRegister n) = Reg false n
of_length (lengths.Given n) = Value false n

abbrev pub in_dw : Operand
in_dw = Reg true DW

unfoldable pub of_port : Port → Operand
of_port InDw = in_dw
of_port (Numbered n) = Value false n

-- strings and blocks: what IY points to in DS1, and what IX points to in a segment
abbrev pub in_ds1 : Bool → Operand
in_ds1 w = Block w 0 IY

abbrev pub from : Bool → ℕ → Operand
from w seg = Block w seg IX

-- where a displacement leads from the next instruction's address, as long as the offset does not pass the segment's end
unfoldable pub target : (next disp : ℕ) → Operand
target next disp = Target ((next + disp + pick (ltb disp 32768) 0 983040) % 1048576)

-- ---- the groups

unfoldable pub transfer_text : Transfer → List ℕ
transfer_text (Mov w to by) = two (text "MOV") (of_place w to) (of_source w by)
transfer_text (LoadAcc w at) = two (text "MOV") (acc w) (Mem (size_of w) at)
transfer_text (StoreAcc w at) = two (text "MOV") (Mem (size_of w) at) (acc w)
transfer_text (ToSegment seg p) = two (text "MOV") (Seg seg) (of_place true p)
transfer_text (FromSegment p seg) = two (text "MOV") (of_place true p) (Seg seg)
transfer_text (LoadPointer seg reg at) = three (text "MOV") (Seg seg) (Reg true reg) (Mem Pair at)
transfer_text AhFromPsw = text "MOV AH,PSW"
transfer_text PswFromAh = text "MOV PSW,AH"
transfer_text (Ldea reg at) = two (text "LDEA") (Reg true reg) (Mem Unsaid at)
transfer_text (Trans seg) = one (text "TRANS") (Block false seg BW)
transfer_text (Xch w reg p) = two (text "XCH") (Reg w reg) (of_place w p)

unfoldable pub operation_name : Operation → List ℕ
operation_name operation.Add = text "ADD"
operation_name operation.Or = text "OR"
operation_name operation.Addc = text "ADDC"
operation_name operation.Subc = text "SUBC"
operation_name operation.And = text "AND"
operation_name operation.Sub = text "SUB"
operation_name operation.Xor = text "XOR"
operation_name operation.Cmp = text "CMP"

unfoldable pub unary_name : Unary → List ℕ
unary_name unary.Inc = text "INC"
unary_name unary.Dec = text "DEC"
unary_name unary.Not = text "NOT"
unary_name unary.Neg = text "NEG"

unfoldable pub arithmetic_text : Arithmetic → List ℕ
arithmetic_text (arithmetic.Two op w to by) = two (operation_name op) (of_place w to) (of_source w by)
arithmetic_text (arithmetic.One op w to) = one (unary_name op) (of_place w to)
arithmetic_text (arithmetic.Test w left right) = two (text "TEST") (of_place w left) (of_source w right)

-- an immediate byte of MUL is widened with its sign
unfoldable pub product_text : (reg : ℕ) → Place → (by : ℕ) → List ℕ
product_text reg p by = three (text "MUL") (Reg true reg) (of_place true p) (Value true by)

unfoldable pub multiply_text : Multiply → List ℕ
multiply_text (Mulu w by) = one (text "MULU") (of_place w by)
multiply_text (Mul w by) = one (text "MUL") (of_place w by)
multiply_text (MulByte reg p by) = product_text reg p by
multiply_text (MulWord reg p by) = product_text reg p by
multiply_text (Divu w by) = one (text "DIVU") (of_place w by)
multiply_text (Div w by) = one (text "DIV") (of_place w by)

unfoldable pub convert_text : Convert → List ℕ
convert_text Adjba = text "ADJBA"
convert_text Adj4a = text "ADJ4A"
convert_text Adjbs = text "ADJBS"
convert_text Adj4s = text "ADJ4S"
convert_text Cvtbd = text "CVTBD"
convert_text Cvtdb = text "CVTDB"
convert_text Cvtbw = text "CVTBW"
convert_text Cvtwl = text "CVTWL"

unfoldable pub shift_name : Shift → List ℕ
shift_name Rol = text "ROL"
shift_name Ror = text "ROR"
shift_name Rolc = text "ROLC"
shift_name Rorc = text "RORC"
shift_name Shl = text "SHL"
shift_name Shr = text "SHR"
shift_name Shra = text "SHRA"

unfoldable pub bit_name : Bit → List ℕ
bit_name Test1 = text "TEST1"
bit_name Clr1 = text "CLR1"
bit_name Set1 = text "SET1"
bit_name Not1 = text "NOT1"

unfoldable pub decimal_text : Decimal → List ℕ
decimal_text (Add4s seg) = two (text "ADD4S") (in_ds1 false) (from false seg)
decimal_text (Sub4s seg) = two (text "SUB4S") (in_ds1 false) (from false seg)
decimal_text (Cmp4s seg) = two (text "CMP4S") (in_ds1 false) (from false seg)
decimal_text (Rol4 to) = one (text "ROL4") (of_place false to)
decimal_text (Ror4 to) = one (text "ROR4") (of_place false to)

-- offset, length, and the field's words in memory
unfoldable pub field_text : Field → List ℕ
field_text (Ins offset n) = three (text "INS") (Reg false offset) (of_length n) (in_ds1 true)
field_text (Ext seg offset n) = three (text "EXT") (Reg false offset) (of_length n) (from true seg)

-- an immediate byte of PUSH is widened with its sign
unfoldable pub push_text : ℕ → List ℕ
push_text v = one (text "PUSH") (Value true v)

unfoldable pub stack_text : Stack → List ℕ
stack_text (Push p) = one (text "PUSH") (of_place true p)
stack_text (PushByte v) = push_text v
stack_text (PushWord v) = push_text v
stack_text (PushSegment seg) = one (text "PUSH") (Seg seg)
stack_text PushPsw = text "PUSH PSW"
stack_text PushR = text "PUSH R"
stack_text (Pop p) = one (text "POP") (of_place true p)
stack_text (PopSegment seg) = one (text "POP") (Seg seg)
stack_text PopR = text "POP R"
stack_text (Prepare size level) = two (text "PREPARE") (Value true size) (Value false level)
stack_text Dispose = text "DISPOSE"

unfoldable pub far_text : List ℕ → (ps pc : ℕ) → List ℕ
far_text name ps pc = one name (Far ps pc)

unfoldable pub far_at_text : List ℕ → Address → List ℕ
far_at_text name at = one name (Mem Pair at)

unfoldable pub return_text : ℕ → List ℕ
return_text size = one (text "RET") (Value true size)

unfoldable pub branch_text : (next : ℕ) → Branch → List ℕ
branch_text next (CallNear disp) = one (text "CALL") (target next disp)
branch_text next (CallTo p) = one (text "CALL") (of_place true p)
branch_text next (CallFar ps pc) = far_text (text "CALL") ps pc
branch_text next (CallFarAt at) = far_at_text (text "CALL") at
branch_text next Ret = text "RET"
branch_text next (RetPop size) = return_text size
branch_text next RetFar = text "RET"
branch_text next (RetFarPop size) = return_text size
branch_text next (BrNear disp) = one (text "BR") (target next disp)
branch_text next (BrShort disp) = one (text "BR") (target next disp)
branch_text next (BrTo p) = one (text "BR") (of_place true p)
branch_text next (BrFar ps pc) = far_text (text "BR") ps pc
branch_text next (BrFarAt at) = far_at_text (text "BR") at

-- by the low four bits of the code: three letters a name, and a name of two is followed by a space
abbrev pub condition_letters : List ℕ
condition_letters = text "BV BNVBC BNCBE BNEBNHBH BN BP BPEBPOBLTBGEBLEBGT"

unfoldable pub condition_letter : ℕ → ℕ
condition_letter i = get_or condition_letters i 0

unfoldable pub condition_name : ℕ → List ℕ
condition_name n =
    let i = 3 * (n % 16) in
    condition_letter i ∷ condition_letter (i + 1) ∷ pick (eqb (condition_letter (i + 2)) 32) [] (condition_letter (i + 2) ∷ [])

unfoldable pub conditional_text : (next : ℕ) → Conditional → List ℕ
conditional_text next (If condition disp) = one (condition_name condition) (target next disp)
conditional_text next (Dbnzne disp) = one (text "DBNZNE") (target next disp)
conditional_text next (Dbnze disp) = one (text "DBNZE") (target next disp)
conditional_text next (Dbnz disp) = one (text "DBNZ") (target next disp)
conditional_text next (Bcwz disp) = one (text "BCWZ") (target next disp)

unfoldable pub interrupt_text : Interrupt → List ℕ
interrupt_text Brk3 = text "BRK 3"
interrupt_text (Brk vector) = one (text "BRK") (Value false vector)
interrupt_text Brkv = text "BRKV"
interrupt_text (Chkind reg at) = two (text "CHKIND") (Reg true reg) (Mem Pair at)

unfoldable pub mode_text : Mode → List ℕ
mode_text PopPsw = text "POP PSW"
mode_text Reti = text "RETI"
mode_text (Brkem vector) = one (text "BRKEM") (Value false vector)

-- the first name of the prefix's row, and a space
unfoldable pub repeat_text : Repeat → List ℕ
repeat_text Unrepeated = []
repeat_text WhileZ = text "REP "
repeat_text WhileNotZ = text "REPNE "
repeat_text WhileCy = text "REPC "
repeat_text WhileNotCy = text "REPNC "

unfoldable pub primitive_text : Primitive → Bool → ℕ → List ℕ
primitive_text Movbk w seg = two (text "MOVBK") (in_ds1 w) (from w seg)
primitive_text Cmpbk w seg = two (text "CMPBK") (from w seg) (in_ds1 w)
primitive_text Cmpm w seg = one (text "CMPM") (in_ds1 w)
primitive_text Ldm w seg = one (text "LDM") (from w seg)
primitive_text Stm w seg = one (text "STM") (in_ds1 w)
primitive_text Inm w seg = two (text "INM") (in_ds1 w) in_dw
primitive_text Outm w seg = two (text "OUTM") in_dw (from w seg)

unfoldable pub port_text : Io → List ℕ
port_text (In w port) = two (text "IN") (acc w) (of_port port)
port_text (Out w port) = two (text "OUT") (of_port port) (acc w)

unfoldable pub control_text : Control → List ℕ
control_text Nop = text "NOP"
control_text Halt = text "HALT"
control_text Di = text "DI"
control_text Ei = text "EI"
control_text ClrCy = text "CLR1 CY"
control_text SetCy = text "SET1 CY"
control_text NotCy = text "NOT1 CY"
control_text ClrDir = text "CLR1 DIR"
control_text SetDir = text "SET1 DIR"

-- ---- every instruction, with the address of the one behind it

unfoldable pub compute_text : Compute → List ℕ
compute_text (compute.Calculates i) = arithmetic_text i
compute_text (compute.Converts i) = convert_text i
compute_text (compute.Shifts kind w to places) = two (shift_name kind) (of_place w to) (of_places places)
compute_text (compute.Bits op w to number) = two (bit_name op) (of_place w to) (of_amount number)
compute_text (compute.Decimals i) = decimal_text i
compute_text (compute.Fields i) = field_text i

unfoldable pub move_text : (next : ℕ) → Move → List ℕ
move_text next (move.Transfers i) = transfer_text i
move_text next (move.Stacks i) = stack_text i
move_text next (move.Branches i) = branch_text next i
move_text next (move.Tests i) = conditional_text next i

unfoldable pub instr_text : (next : ℕ) → Instr → List ℕ
instr_text next (Computes i) = compute_text i
instr_text next (Moves i) = move_text next i
instr_text next (Multiplies i) = multiply_text i
instr_text next (Interrupts i) = interrupt_text i
instr_text next (Blocks p w seg r) = repeat_text r ++ primitive_text p w seg
instr_text next (Ports i) = port_text i
instr_text next (Controls i) = control_text i
instr_text next (Modes i) = mode_text i
-- a listing is of native code, so no line has it
instr_text next (Cards i) = text "8080"
