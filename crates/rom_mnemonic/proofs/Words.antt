-- Every instruction's text is one line of at most 54 characters.
use Prim.Native.Nat.{ℕ, zero, suc, ◌+◌, ◌*◌, ◌/◌, ◌%◌, ◌≤◌, ◌<◌}
use Prim.Native.String.{String}
use mathlib.Core.Path.{◌≡◌, refl}
use mathlib.Core.Bool.{Bool, true, false, ◌&&◌, and-eq-true_iff}
use mathlib.Core.List.{List, [], ◌∷◌, ◌++◌}
use native.Mathlib.Nat.{le_of_suc-le-suc, not-suc-le-zero}
use native.Mathlib.Omega.{arith}
use lib.ListN.{length, get_or, length-append}
use lib.Dec.{T, leb, ltb, eqb, lit≤, leb→le}
use borrow.Author.Tests.{leb-true}
use Rattle.sheet.specs.declared.Address.{Address}
use Rattle.sheet.specs.declared.Address.TheVariants.{Formed, Direct}
use Rattle.sheet.specs.declared.Form.{Form}
use Rattle.std.specs.Prelude.{Option, Some, None}
use Rattle.sheet.specs.declared.Transfer.{Transfer}
use Rattle.sheet.specs.declared.Transfer.TheVariants.{Mov, LoadAcc, StoreAcc, ToSegment, FromSegment, LoadPointer, AhFromPsw, PswFromAh, Ldea, Trans, Xch}
use Rattle.sheet.specs.declared.Operation.{Operation}
use Rattle.sheet.specs.declared.Operation.TheVariants as operation
use Rattle.sheet.specs.declared.Unary.{Unary}
use Rattle.sheet.specs.declared.Unary.TheVariants as unary
use Rattle.sheet.specs.declared.Arithmetic.{Arithmetic}
use Rattle.sheet.specs.declared.Arithmetic.TheVariants as arithmetic
use Rattle.sheet.specs.declared.Multiply.{Multiply}
use Rattle.sheet.specs.declared.Multiply.TheVariants.{Mulu, Mul, MulByte, MulWord, Divu, Div}
use Rattle.sheet.specs.declared.Convert.{Convert}
use Rattle.sheet.specs.declared.Convert.TheVariants.{Adjba, Adj4a, Adjbs, Adj4s, Cvtbd, Cvtdb, Cvtbw, Cvtwl}
use Rattle.sheet.specs.declared.Shift.{Shift}
use Rattle.sheet.specs.declared.Shift.TheVariants.{Rol, Ror, Rolc, Rorc, Shl, Shr, Shra}
use Rattle.sheet.specs.declared.Bit.{Bit}
use Rattle.sheet.specs.declared.Bit.TheVariants.{Test1, Clr1, Set1, Not1}
use Rattle.sheet.specs.declared.Decimal.{Decimal}
use Rattle.sheet.specs.declared.Decimal.TheVariants.{Add4s, Sub4s, Cmp4s, Rol4, Ror4}
use Rattle.sheet.specs.declared.Field.{Field}
use Rattle.sheet.specs.declared.Field.TheVariants.{Ins, Ext}
use Rattle.sheet.specs.declared.Stack.{Stack}
use Rattle.sheet.specs.declared.Stack.TheVariants.{Push, PushByte, PushWord, PushSegment, PushPsw, PushR, Pop, PopSegment, PopR, Prepare, Dispose}
use Rattle.sheet.specs.declared.Branch.{Branch}
use Rattle.sheet.specs.declared.Branch.TheVariants.{CallNear, CallTo, CallFar, CallFarAt, Ret, RetPop, RetFar, RetFarPop, BrNear, BrShort, BrTo, BrFar, BrFarAt}
use Rattle.sheet.specs.declared.Conditional.{Conditional}
use Rattle.sheet.specs.declared.Conditional.TheVariants.{If, Dbnzne, Dbnze, Dbnz, Bcwz}
use Rattle.sheet.specs.declared.Interrupt.{Interrupt}
use Rattle.sheet.specs.declared.Interrupt.TheVariants.{Brk3, Brk, Brkv, Chkind}
use Rattle.sheet.specs.declared.Mode.{Mode}
use Rattle.sheet.specs.declared.Mode.TheVariants.{PopPsw, Reti, Brkem}
use Rattle.sheet.specs.declared.Primitive.{Primitive}
use Rattle.sheet.specs.declared.Primitive.TheVariants.{Movbk, Cmpbk, Cmpm, Ldm, Stm, Inm, Outm}
use Rattle.sheet.specs.declared.Repeat.{Repeat}
use Rattle.sheet.specs.declared.Repeat.TheVariants.{Once as Unrepeated, WhileZ, WhileNotZ, WhileCy, WhileNotCy}
use Rattle.sheet.specs.declared.Io.{Io}
use Rattle.sheet.specs.declared.Io.TheVariants.{In, Out}
use Rattle.sheet.specs.declared.Control.{Control}
use Rattle.sheet.specs.declared.Control.TheVariants.{Nop, Halt, Di, Ei, ClrCy, SetCy, NotCy, ClrDir, SetDir}
use Rattle.sheet.specs.declared.Compute.{Compute}
use Rattle.sheet.specs.declared.Compute.TheVariants as compute
use Rattle.sheet.specs.declared.Move.{Move}
use Rattle.sheet.specs.declared.Move.TheVariants as move
use Rattle.sheet.specs.declared.Instr.{Instr}
use Rattle.sheet.specs.declared.Instr.TheVariants.{Computes, Moves, Multiplies, Interrupts, Blocks, Ports, Controls, Modes, Cards}
use Rattle.sheet.specs.Width.{pick}
use Rattle.sheet.specs.Registers.{DW, IX, IY}
use Rattle.sheet.specs.Operand.{form_at}
use Rattle.base_text.specs.Text.{text, hex, hex_digit}
use Rattle.base_text.proofs.Texts.{hex_length}
use Rattle.rom_mnemonic.specs.declared.Size.{Size}
use Rattle.rom_mnemonic.specs.declared.Size.TheVariants.{Unsaid, Byte, Word, Pair}
use Rattle.rom_mnemonic.specs.declared.Operand.{Operand}
use Rattle.rom_mnemonic.specs.declared.Operand.TheVariants.{Reg, Seg, Mem, Block, Value, Once, Target, Far}
use Rattle.rom_mnemonic.specs.Operands.{byte_registers, word_registers, segments, letter, register_text, segment_text, size_text, index_text, form_text, disp_text, opening, within, formed_text, address_text, size_of, operand_text}
use Rattle.rom_mnemonic.specs.Mnemonics.{after, after_two, after_three, one, two, three, operation_name, unary_name, shift_name, bit_name, condition_letters, condition_letter, condition_name, repeat_text, transfer_text, arithmetic_text, product_text, multiply_text, convert_text, decimal_text, field_text, push_text, stack_text, far_text, far_at_text, return_text, branch_text, conditional_text, interrupt_text, mode_text, primitive_text, port_text, control_text, compute_text, move_text, instr_text}
use Rattle.rom_mnemonic.specs.Printed.{Printed, no_more, and_then_lem}

-- a text of at most n characters, all of them printed
record Fits (n : ℕ) (x : List ℕ) : Type 0 where
  short : length x ≤ n
  printed : Printed x

-- a mnemonic, and an instruction's whole text
abbrev Name : List ℕ → Type 0
Name x = Fits 7 x

abbrev Line : List ℕ → Type 0
Line x = Fits 54 x

-- ---- any text

pub both_printed : {x y : List ℕ} → Printed x → Printed y → Printed (x ++ y)
both_printed no_more q = q
both_printed (and_then_lem h p) q = and_then_lem h (both_printed p q)

joined : {m n : ℕ} {x y : List ℕ} → Fits m x → Fits n y → Fits (m + n) (x ++ y)
joined {x} {y} a b = record { short = omega (arith, length-append x y, a.short, b.short); printed = both_printed a.printed b.printed }

wider : {m n : ℕ} {x : List ℕ} → Fits m x → T (leb m n) → Fits n x
wider {m} {n} a t = record { short = omega (arith, a.short, leb→le m n t); printed = a.printed }

-- ---- texts that are written out: computing decides

abbrev prints : List ℕ → Bool
prints [] = true
prints (c ∷ x) = leb 32 c && prints x

abbrev fits : ℕ → List ℕ → Bool
fits n x = leb (length x) n && prints x

abbrev all_fit : ℕ → List (List ℕ) → Bool
all_fit n [] = true
all_fit n (x ∷ l) = fits n x && all_fit n l

prints_printed : (x : List ℕ) → prints x ≡ true → Printed x
prints_printed [] e = no_more
prints_printed (c ∷ x) e = let (h, t) = (and-eq-true_iff (leb 32 c) (prints x)).0 e in and_then_lem (leb-true 32 c h) (prints_printed x t)

word : {n : ℕ} {x : List ℕ} → fits n x ≡ true → Fits n x
word {n} {x} e = let (h, t) = (and-eq-true_iff (leb (length x) n) (prints x)).0 e in record { short = leb-true (length x) n h; printed = prints_printed x t }

-- a part of a text, with its own length
spelled : (s : String) → prints (text s) ≡ true → Fits (length (text s)) (text s)
spelled s e = record { short = omega arith; printed = prints_printed (text s) e }

word_at : {n : ℕ} (l : List (List ℕ)) (i : ℕ) → all_fit n l ≡ true → Fits n (get_or l i [])
word_at [] i e = record { short = omega arith; printed = no_more }
word_at {n} (x ∷ l) zero e = word ((and-eq-true_iff (fits n x) (all_fit n l)).0 e).0
word_at {n} (x ∷ l) (suc i) e = word_at l i ((and-eq-true_iff (fits n x) (all_fit n l)).0 e).1

printed_at : (x : List ℕ) (i : ℕ) → prints x ≡ true → i < length x → 32 ≤ get_or x i 0
printed_at [] i e m = absurd (not-suc-le-zero m)
printed_at (c ∷ x) zero e m = leb-true 32 c ((and-eq-true_iff (leb 32 c) (prints x)).0 e).0
printed_at (c ∷ x) (suc i) e m = printed_at x i ((and-eq-true_iff (leb 32 c) (prints x)).0 e).1 (le_of_suc-le-suc m)

-- ---- numbers

digit_printed : (n : ℕ) → 32 ≤ hex_digit n
unfolding hex_digit
digit_printed n = go (ltb n 10)
  where
    go : (b : Bool) → 32 ≤ pick b (48 + n) (55 + n)
    go true = omega arith
    go false = omega arith

pub hex_printed : (w n : ℕ) → Printed (hex w n)
unfolding hex
hex_printed zero n = no_more
hex_printed (suc w) n = both_printed (hex_printed w (n / 16)) (and_then_lem (digit_printed (n % 16)) no_more)

hex_fits : (w n : ℕ) → Fits w (hex w n)
hex_fits w n = record { short = omega (arith, hex_length w n); printed = hex_printed w n }

-- ---- operands

letter_printed : (w : Bool) (i : ℕ) → i < 16 → 32 ≤ letter w i
unfolding letter
letter_printed true i m = printed_at word_registers i refl m
letter_printed false i m = printed_at byte_registers i refl m

register_fits : (w : Bool) (n : ℕ) → Fits 2 (register_text w n)
unfolding register_text
register_fits w n =
    let first = letter_printed w (2 * (n % 8)) (omega arith) in
    let second = letter_printed w (2 * (n % 8) + 1) (omega arith) in
    record { short = lit≤ tt; printed = and_then_lem first (and_then_lem second no_more) }

segment_fits : (n : ℕ) → Fits 3 (segment_text n)
unfolding segment_text
segment_fits n = word_at segments (n % 4) refl

size_fits : (s : Size) → Fits 6 (size_text s)
unfolding size_text
size_fits Unsaid = word refl
size_fits Byte = word refl
size_fits Word = word refl
size_fits Pair = word refl

index_fits : (i : Option ℕ) → Fits 3 (index_text i)
unfolding index_text
index_fits (Some n) = joined (spelled "+" refl) (register_fits true n)
index_fits None = word refl

form_fits : (f : Form) → Fits 5 (form_text f)
unfolding form_text
form_fits f = joined (register_fits true f.base) (index_fits f.index)

disp_fits : (d : ℕ) → Fits 5 (disp_text d)
unfolding disp_text
disp_fits d = go (eqb d 0)
  where
    go : (b : Bool) → Fits 5 (pick b [] (text "+" ++ hex 4 d))
    go true = word refl
    go false = joined (spelled "+" refl) (hex_fits 4 d)

within_fits : (seg : ℕ) {n : ℕ} {x : List ℕ} → Fits n x → Fits (5 + (n + 1)) (within seg x)
unfolding within opening
within_fits seg h = joined (joined (segment_fits seg) (spelled ":[" refl)) (joined h (spelled "]" refl))

address_fits : (a : Address) → Fits 16 (address_text a)
unfolding address_text formed_text
address_fits (Formed seg n d) = within_fits seg (joined (form_fits (form_at n)) (disp_fits d))
address_fits (Direct seg offset) = wider (within_fits seg (hex_fits 4 offset)) tt

reg_fits : (w : Bool) (n : ℕ) → Fits 3 (operand_text (Reg w n))
unfolding operand_text
reg_fits w n = wider (register_fits w n) tt

seg_fits : (n : ℕ) → Fits 3 (operand_text (Seg n))
unfolding operand_text
seg_fits n = segment_fits n

block_fits : (w : Bool) (seg by : ℕ) → Fits 14 (operand_text (Block w seg by))
unfolding operand_text
block_fits w seg by = joined (size_fits (size_of w)) (within_fits seg (register_fits true by))

operand_fits : (o : Operand) → Fits 22 (operand_text o)
unfolding operand_text
operand_fits (Reg w n) = wider (reg_fits w n) tt
operand_fits (Seg n) = wider (seg_fits n) tt
operand_fits (Mem s at) = joined (size_fits s) (address_fits at)
operand_fits (Block w seg by) = wider (block_fits w seg by) tt
operand_fits (Value true v) = wider (hex_fits 4 v) tt
operand_fits (Value false v) = wider (hex_fits 2 v) tt
operand_fits Once = word refl
operand_fits (Target a) = wider (hex_fits 5 a) tt
operand_fits (Far ps pc) = wider (joined (hex_fits 4 ps) (joined (spelled ":" refl) (hex_fits 4 pc))) tt

-- ---- a mnemonic with its operands

behind_one : {n : ℕ} (a : Operand) → Fits n (operand_text a) → Fits (1 + n) (after a)
unfolding after
behind_one a k = joined (spelled " " refl) k

behind_two : {n : ℕ} (a b : Operand) → Fits n (operand_text a) → Fits (1 + n + (1 + 22)) (after_two a b)
unfolding after_two
behind_two a b k = joined (behind_one a k) (joined (spelled "," refl) (operand_fits b))

with_one : {m n : ℕ} {name : List ℕ} (a : Operand) → Fits m name → Fits n (operand_text a) → Fits (m + (1 + n)) (one name a)
unfolding one
with_one a h k = joined h (behind_one a k)

with_two : {m n : ℕ} {name : List ℕ} (a b : Operand) → Fits m name → Fits n (operand_text a) → Fits (m + (1 + n + (1 + 22))) (two name a b)
unfolding two
with_two a b h k = joined h (behind_two a b k)

one_fits : {name : List ℕ} (a : Operand) → Name name → Line (one name a)
one_fits a h = wider (with_one a h (operand_fits a)) tt

two_fits : {name : List ℕ} (a b : Operand) → Name name → Line (two name a b)
two_fits a b h = wider (with_two a b h (operand_fits a)) tt

-- the first of three is a register
three_fits : {name : List ℕ} (a b c : Operand) → Fits 3 name → Fits 3 (operand_text a) → Line (three name a b c)
unfolding three after_three
three_fits a b c h k = wider (joined h (joined (behind_two a b k) (joined (spelled "," refl) (operand_fits c)))) tt

-- ---- names

operation_fits : (op : Operation) → Name (operation_name op)
unfolding operation_name
operation_fits operation.Add = word refl
operation_fits operation.Or = word refl
operation_fits operation.Addc = word refl
operation_fits operation.Subc = word refl
operation_fits operation.And = word refl
operation_fits operation.Sub = word refl
operation_fits operation.Xor = word refl
operation_fits operation.Cmp = word refl

unary_fits : (op : Unary) → Name (unary_name op)
unfolding unary_name
unary_fits unary.Inc = word refl
unary_fits unary.Dec = word refl
unary_fits unary.Not = word refl
unary_fits unary.Neg = word refl

shift_fits : (kind : Shift) → Name (shift_name kind)
unfolding shift_name
shift_fits Rol = word refl
shift_fits Ror = word refl
shift_fits Rolc = word refl
shift_fits Rorc = word refl
shift_fits Shl = word refl
shift_fits Shr = word refl
shift_fits Shra = word refl

bit_fits : (op : Bit) → Name (bit_name op)
unfolding bit_name
bit_fits Test1 = word refl
bit_fits Clr1 = word refl
bit_fits Set1 = word refl
bit_fits Not1 = word refl

repeat_fits : (r : Repeat) → Fits 6 (repeat_text r)
unfolding repeat_text
repeat_fits Unrepeated = word refl
repeat_fits WhileZ = word refl
repeat_fits WhileNotZ = word refl
repeat_fits WhileCy = word refl
repeat_fits WhileNotCy = word refl

-- ---- the groups

transfer_fits : (i : Transfer) → Line (transfer_text i)
unfolding transfer_text
transfer_fits (Mov w to by) = two_fits _ _ (word refl)
transfer_fits (LoadAcc w at) = two_fits _ _ (word refl)
transfer_fits (StoreAcc w at) = two_fits _ _ (word refl)
transfer_fits (ToSegment seg p) = two_fits _ _ (word refl)
transfer_fits (FromSegment p seg) = two_fits _ _ (word refl)
transfer_fits (LoadPointer seg reg at) = three_fits _ _ _ (word refl) (seg_fits seg)
transfer_fits AhFromPsw = word refl
transfer_fits PswFromAh = word refl
transfer_fits (Ldea reg at) = two_fits _ _ (word refl)
transfer_fits (Trans seg) = one_fits _ (word refl)
transfer_fits (Xch w reg p) = two_fits _ _ (word refl)

arithmetic_fits : (i : Arithmetic) → Line (arithmetic_text i)
unfolding arithmetic_text
arithmetic_fits (arithmetic.Two op w to by) = two_fits _ _ (operation_fits op)
arithmetic_fits (arithmetic.One op w to) = one_fits _ (unary_fits op)
arithmetic_fits (arithmetic.Test w left right) = two_fits _ _ (word refl)

multiply_fits : (i : Multiply) → Line (multiply_text i)
unfolding multiply_text product_text
multiply_fits (Mulu w by) = one_fits _ (word refl)
multiply_fits (Mul w by) = one_fits _ (word refl)
multiply_fits (MulByte reg p by) = three_fits _ _ _ (word refl) (reg_fits true reg)
multiply_fits (MulWord reg p by) = three_fits _ _ _ (word refl) (reg_fits true reg)
multiply_fits (Divu w by) = one_fits _ (word refl)
multiply_fits (Div w by) = one_fits _ (word refl)

convert_fits : (i : Convert) → Line (convert_text i)
unfolding convert_text
convert_fits Adjba = word refl
convert_fits Adj4a = word refl
convert_fits Adjbs = word refl
convert_fits Adj4s = word refl
convert_fits Cvtbd = word refl
convert_fits Cvtdb = word refl
convert_fits Cvtbw = word refl
convert_fits Cvtwl = word refl

decimal_fits : (i : Decimal) → Line (decimal_text i)
unfolding decimal_text
decimal_fits (Add4s seg) = two_fits _ _ (word refl)
decimal_fits (Sub4s seg) = two_fits _ _ (word refl)
decimal_fits (Cmp4s seg) = two_fits _ _ (word refl)
decimal_fits (Rol4 to) = one_fits _ (word refl)
decimal_fits (Ror4 to) = one_fits _ (word refl)

field_fits : (i : Field) → Line (field_text i)
unfolding field_text
field_fits (Ins offset n) = three_fits _ _ _ (word refl) (reg_fits false offset)
field_fits (Ext seg offset n) = three_fits _ _ _ (word refl) (reg_fits false offset)

stack_fits : (i : Stack) → Line (stack_text i)
unfolding stack_text push_text
stack_fits (Push p) = one_fits _ (word refl)
stack_fits (PushByte v) = one_fits _ (word refl)
stack_fits (PushWord v) = one_fits _ (word refl)
stack_fits (PushSegment seg) = one_fits _ (word refl)
stack_fits PushPsw = word refl
stack_fits PushR = word refl
stack_fits (Pop p) = one_fits _ (word refl)
stack_fits (PopSegment seg) = one_fits _ (word refl)
stack_fits PopR = word refl
stack_fits (Prepare size level) = two_fits _ _ (word refl)
stack_fits Dispose = word refl

branch_fits : (next : ℕ) (i : Branch) → Line (branch_text next i)
unfolding branch_text far_text far_at_text return_text
branch_fits next (CallNear disp) = one_fits _ (word refl)
branch_fits next (CallTo p) = one_fits _ (word refl)
branch_fits next (CallFar ps pc) = one_fits _ (word refl)
branch_fits next (CallFarAt at) = one_fits _ (word refl)
branch_fits next Ret = word refl
branch_fits next (RetPop size) = one_fits _ (word refl)
branch_fits next RetFar = word refl
branch_fits next (RetFarPop size) = one_fits _ (word refl)
branch_fits next (BrNear disp) = one_fits _ (word refl)
branch_fits next (BrShort disp) = one_fits _ (word refl)
branch_fits next (BrTo p) = one_fits _ (word refl)
branch_fits next (BrFar ps pc) = one_fits _ (word refl)
branch_fits next (BrFarAt at) = one_fits _ (word refl)

condition_printed : (i : ℕ) → i < 48 → 32 ≤ condition_letter i
unfolding condition_letter
condition_printed i m = printed_at condition_letters i refl m

condition_fits : (n : ℕ) → Fits 3 (condition_name n)
unfolding condition_name
condition_fits n = go (eqb (condition_letter (3 * (n % 16) + 2)) 32)
  where
    first : 32 ≤ condition_letter (3 * (n % 16))
    first = condition_printed _ (omega arith)

    second : 32 ≤ condition_letter (3 * (n % 16) + 1)
    second = condition_printed _ (omega arith)

    third : 32 ≤ condition_letter (3 * (n % 16) + 2)
    third = condition_printed _ (omega arith)

    go : (b : Bool) → Fits 3 (condition_letter (3 * (n % 16)) ∷ condition_letter (3 * (n % 16) + 1) ∷ pick b [] (condition_letter (3 * (n % 16) + 2) ∷ []))
    go true = record { short = lit≤ tt; printed = and_then_lem first (and_then_lem second no_more) }
    go false = record { short = lit≤ tt; printed = and_then_lem first (and_then_lem second (and_then_lem third no_more)) }

conditional_fits : (next : ℕ) (i : Conditional) → Line (conditional_text next i)
unfolding conditional_text
conditional_fits next (If condition disp) = one_fits _ (wider (condition_fits condition) tt)
conditional_fits next (Dbnzne disp) = one_fits _ (word refl)
conditional_fits next (Dbnze disp) = one_fits _ (word refl)
conditional_fits next (Dbnz disp) = one_fits _ (word refl)
conditional_fits next (Bcwz disp) = one_fits _ (word refl)

interrupt_fits : (i : Interrupt) → Line (interrupt_text i)
unfolding interrupt_text
interrupt_fits Brk3 = word refl
interrupt_fits (Brk vector) = one_fits _ (word refl)
interrupt_fits Brkv = word refl
interrupt_fits (Chkind reg at) = two_fits _ _ (word refl)

mode_fits : (i : Mode) → Line (mode_text i)
unfolding mode_text
mode_fits PopPsw = word refl
mode_fits Reti = word refl
mode_fits (Brkem vector) = one_fits _ (word refl)

port_fits : (i : Io) → Line (port_text i)
unfolding port_text
port_fits (In w port) = two_fits _ _ (word refl)
port_fits (Out w port) = two_fits _ _ (word refl)

control_fits : (i : Control) → Line (control_text i)
unfolding control_text
control_fits Nop = word refl
control_fits Halt = word refl
control_fits Di = word refl
control_fits Ei = word refl
control_fits ClrCy = word refl
control_fits SetCy = word refl
control_fits NotCy = word refl
control_fits ClrDir = word refl
control_fits SetDir = word refl

-- blocks are shorter than other memory, and leave room for a repeat prefix
one_block_fits : {name : List ℕ} (a : Operand) → Fits 5 name → Fits 48 (one name a)
one_block_fits a h = wider (with_one a h (operand_fits a)) tt

two_blocks_fit : {name : List ℕ} (a b : Operand) → Fits 5 name → Fits 14 (operand_text a) → Fits 48 (two name a b)
two_blocks_fit a b h k = wider (with_two a b h k) tt

primitive_fits : (p : Primitive) (w : Bool) (seg : ℕ) → Fits 48 (primitive_text p w seg)
unfolding primitive_text
primitive_fits Movbk w seg = two_blocks_fit _ _ (word refl) (block_fits w 0 IY)
primitive_fits Cmpbk w seg = two_blocks_fit _ _ (word refl) (block_fits w seg IX)
primitive_fits Cmpm w seg = one_block_fits _ (word refl)
primitive_fits Ldm w seg = one_block_fits _ (word refl)
primitive_fits Stm w seg = one_block_fits _ (word refl)
primitive_fits Inm w seg = two_blocks_fit _ _ (word refl) (block_fits w 0 IY)
primitive_fits Outm w seg = two_blocks_fit _ _ (word refl) (wider (reg_fits true DW) tt)

-- ---- every instruction

compute_fits : (i : Compute) → Line (compute_text i)
unfolding compute_text
compute_fits (compute.Calculates i) = arithmetic_fits i
compute_fits (compute.Converts i) = convert_fits i
compute_fits (compute.Shifts kind w to places) = two_fits _ _ (shift_fits kind)
compute_fits (compute.Bits op w to number) = two_fits _ _ (bit_fits op)
compute_fits (compute.Decimals i) = decimal_fits i
compute_fits (compute.Fields i) = field_fits i

move_fits : (next : ℕ) (i : Move) → Line (move_text next i)
unfolding move_text
move_fits next (move.Transfers i) = transfer_fits i
move_fits next (move.Stacks i) = stack_fits i
move_fits next (move.Branches i) = branch_fits next i
move_fits next (move.Tests i) = conditional_fits next i

instr_fits : (next : ℕ) (i : Instr) → Line (instr_text next i)
unfolding instr_text
instr_fits next (Computes i) = compute_fits i
instr_fits next (Moves i) = move_fits next i
instr_fits next (Multiplies i) = multiply_fits i
instr_fits next (Interrupts i) = interrupt_fits i
instr_fits next (Blocks p w seg r) = joined (repeat_fits r) (primitive_fits p w seg)
instr_fits next (Ports i) = port_fits i
instr_fits next (Controls i) = control_fits i
instr_fits next (Modes i) = mode_fits i
instr_fits next (Cards i) = word refl

pub words_short : (next : ℕ) (i : Instr) → length (instr_text next i) ≤ 54
words_short next i = (instr_fits next i).short

pub words_printed : (next : ℕ) (i : Instr) → Printed (instr_text next i)
words_printed next i = (instr_fits next i).printed
