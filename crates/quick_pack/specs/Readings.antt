-- What a reading says: the instruction of a packed number.
use Rattle.std.specs.Prelude.{ℕ, ◌/◌, ◌%◌, ◌≤◌, ◌≡◌, Bool, ◌&&◌, List, [], ◌∷◌, eqb, leb, get_or}
use Rattle.sheet.specs.declared.Amount.{Amount}
use Rattle.sheet.specs.declared.Amount.TheVariants.{InCl, Given}
use Rattle.sheet.specs.declared.Instr.{Instr}
use Rattle.sheet.specs.declared.Instr.TheVariants.{Multiplies, Blocks, Ports, Controls}
use Rattle.sheet.specs.declared.Control.TheVariants.{Nop}
use Rattle.sheet.specs.declared.Place.TheVariants.{Register, Memory}
use Rattle.sheet.specs.declared.Source.TheVariants.{Held, Immediate}
use Rattle.sheet.specs.declared.Io.TheVariants.{In, Out}
use Rattle.sheet.specs.declared.Port.{Port}
use Rattle.sheet.specs.declared.Port.TheVariants.{InDw, Numbered}
use Rattle.sheet.specs.declared.Primitive.{Primitive}
use Rattle.sheet.specs.declared.Primitive.TheVariants.{Inm, Outm}
use Rattle.sheet.specs.declared.Repeat.TheVariants.{WhileZ}
use Rattle.sheet.specs.Width.{pick}
use Rattle.sheet.specs.declared.Places.TheVariants as places
use Rattle.sheet.specs.declared.Arithmetic.TheVariants.{Two, One, Test}
use Rattle.sheet.specs.declared.Transfer.TheVariants.{Mov, LoadAcc, StoreAcc, Ldea, Xch, FromSegment}
use Rattle.sheet.specs.declared.Stack.TheVariants.{Push, Pop}
use Rattle.sheet.specs.declared.Branch.TheVariants.{CallNear, Ret, BrNear, BrShort, BrFar}
use Rattle.sheet.specs.declared.Conditional.TheVariants.{If, Dbnz, Dbnzne, Dbnze, Bcwz}
use Rattle.sheet.specs.Groups.{Transfers, Calculates, Converts, Shifts, Decimals, Stacks, Branches, Tests}
use Rattle.sheet.specs.FirstByte.{operation_at}
use Rattle.quick_place.specs.Packed.{kind_of, size_of, rm_of, reg_of, op_of, unary_at, shift_at, convert_at, string_at, product_at, primitive_at, repeat_at, cond_of, seg_of, word_of, disp_of, imm_of, address_of}

-- an operation on two registers, on a register and memory, on memory and a register; MOV of the same three, and of an immediate; PUSH, POP, branches
unfoldable pub readings_0 : ℕ → List Instr
readings_0 r =
    Controls Nop
    ∷ Calculates (Two (operation_at (op_of r)) (word_of r) (Register (rm_of r)) (Held (Register (reg_of r))))
    ∷ Calculates (Two (operation_at (op_of r)) (word_of r) (Register (reg_of r)) (Held (Memory (address_of r))))
    ∷ Calculates (Two (operation_at (op_of r)) (word_of r) (Memory (address_of r)) (Held (Register (reg_of r))))
    ∷ Transfers (Mov (word_of r) (Register (rm_of r)) (Held (Register (reg_of r))))
    ∷ Transfers (Mov (word_of r) (Register (reg_of r)) (Held (Memory (address_of r))))
    ∷ Transfers (Mov (word_of r) (Memory (address_of r)) (Held (Register (reg_of r))))
    ∷ Transfers (Mov (word_of r) (Register (rm_of r)) (Immediate (imm_of r)))
    ∷ Stacks (Push (Register (rm_of r)))
    ∷ Stacks (Pop (Register (rm_of r)))
    ∷ Tests (If (cond_of r) (disp_of r))
    ∷ Branches (CallNear (disp_of r))
    ∷ Branches Ret
    ∷ []

-- from 16 on: an operation on a register, on memory and an immediate; MOV of memory and an immediate; one operand; branches; shifts by 1; MOV with AW or AL; TEST
unfoldable pub readings_16 : ℕ → List Instr
readings_16 r =
    Calculates (Two (operation_at (op_of r)) (word_of r) (Register (rm_of r)) (Immediate (imm_of r)))
    ∷ Calculates (Two (operation_at (op_of r)) (word_of r) (Memory (address_of r)) (Immediate (imm_of r)))
    ∷ Transfers (Mov (word_of r) (Memory (address_of r)) (Immediate (imm_of r)))
    ∷ Calculates (One (unary_at (op_of r)) (word_of r) (Register (rm_of r)))
    ∷ Calculates (One (unary_at (op_of r)) (word_of r) (Memory (address_of r)))
    ∷ Branches (BrNear (disp_of r))
    ∷ Branches (BrShort (disp_of r))
    ∷ Tests (Dbnz (disp_of r))
    ∷ Shifts (shift_at (op_of r)) (word_of r) (Register (rm_of r)) places.One
    ∷ Shifts (shift_at (op_of r)) (word_of r) (Memory (address_of r)) places.One
    ∷ Transfers (LoadAcc (word_of r) (address_of r))
    ∷ Transfers (StoreAcc (word_of r) (address_of r))
    ∷ Calculates (Test (word_of r) (Register (rm_of r)) (Held (Register (reg_of r))))
    ∷ Calculates (Test (word_of r) (Register (rm_of r)) (Immediate (imm_of r)))
    ∷ []

-- a count: in CL where the field of the register is 1, else given
unfoldable pub amount_at : ℕ → ℕ → Amount
amount_at g v = pick (eqb g 1) InCl (Given (v % 256))

-- from 32 on: a block's primitive, single or repeated; decimal strings; conversions; products and quotients with a register; BCWZ; shifts by a count; LDEA, XCH, MOV from a segment register; BR far, the other loops
unfoldable pub readings_32 : ℕ → List Instr
readings_32 r =
    Blocks (primitive_at (op_of r)) (word_of r) (seg_of r) (repeat_at (reg_of r))
    ∷ Decimals (string_at (op_of r) (seg_of r))
    ∷ Converts (convert_at (op_of r))
    ∷ Multiplies (product_at (op_of r) (word_of r) (Register (rm_of r)))
    ∷ Tests (Bcwz (disp_of r))
    ∷ Shifts (shift_at (op_of r)) (word_of r) (Register (rm_of r)) (places.Counted (amount_at (reg_of r) (imm_of r)))
    ∷ Shifts (shift_at (op_of r)) (word_of r) (Memory (address_of r)) (places.Counted (amount_at (reg_of r) (imm_of r)))
    ∷ Transfers (Ldea (reg_of r) (address_of r))
    ∷ Transfers (Xch (word_of r) (reg_of r) (Register (rm_of r)))
    ∷ Transfers (FromSegment (Register (rm_of r)) (seg_of r))
    ∷ Branches (BrFar (imm_of r) (disp_of r))
    ∷ Tests (Dbnzne (disp_of r))
    ∷ Tests (Dbnze (disp_of r))
    ∷ []

-- 8 in the register's field stands for the number in the displacement's, as in an address
unfoldable pub port_at : ℕ → ℕ → Port
port_at rm n = pick (eqb rm 8) (Numbered n) InDw

unfoldable pub stream_at : ℕ → Primitive
stream_at o = pick (eqb o 0) Inm Outm

-- from 48 on, at a port: IN, OUT, and INM or OUTM after the prefix F3
unfoldable pub readings_48 : ℕ → List Instr
readings_48 r =
    Ports (In (word_of r) (port_at (rm_of r) (disp_of r)))
    ∷ Ports (Out (word_of r) (port_at (rm_of r) (disp_of r)))
    ∷ Blocks (stream_at (op_of r)) (word_of r) (seg_of r) WhileZ
    ∷ []

abbrev pub at_port : ℕ → Bool
at_port r = leb 48 (kind_of r) && leb (kind_of r) 50

abbrev pub groups : ℕ → List (List Instr)
groups r = readings_0 r ∷ readings_16 r ∷ readings_32 r ∷ readings_48 r ∷ []

unfoldable pub instr_of : ℕ → Instr
instr_of r = get_or (get_or (groups r) (kind_of r / 16) []) (kind_of r % 16) (Controls Nop)

-- r is 0, and says nothing; or it is the instruction i of n bytes
pub data Packs (i : Instr) (n r : ℕ) : Type 0 where
  none : r ≡ 0 → Packs i n r
  packs : n ≤ 8 → size_of r ≡ n → instr_of r ≡ i → Packs i n r
