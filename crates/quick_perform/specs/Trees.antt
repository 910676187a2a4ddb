-- What the instruction of each kind of reading does.
use Rattle.std.specs.Prelude.{ℕ, Bool, true, false, List, [], ◌∷◌}
use Rattle.sheet.specs.declared.Place.TheVariants.{Register, Memory}
use Rattle.sheet.specs.declared.Places.TheVariants.{One, Counted}
use Rattle.sheet.specs.declared.Source.TheVariants.{Held, Immediate}
use Rattle.sheet.specs.FirstByte.{operation_at}
use Rattle.sheet.specs.Act.{Act, pure}
use Rattle.sheet.specs.Arithmetic.{two, one, test}
use Rattle.sheet.specs.Block.{block}
use Rattle.sheet.specs.Convert.{convert}
use Rattle.sheet.specs.Decimal.{decimal}
use Rattle.sheet.specs.Multiply.{multiply}
use Rattle.sheet.specs.Shift.{shift}
use Rattle.sheet.specs.Transfer.{mov, load_acc, store_acc, ldea, xch, from_segment}
use Rattle.sheet.specs.Stack.{push_register, pop_place}
use Rattle.sheet.specs.Traps.{untrapped, jump_far}
use Rattle.sheet.specs.Branch.{jump, branch_if, dbnz, dbnz_while, bcwz, call_near, ret}
use Rattle.quick_place.specs.Packed.{op_of, unary_at, shift_at, convert_at, string_at, product_at, primitive_at, repeat_at, cond_of, seg_of, word_of, rm_of, reg_of, disp_of, imm_of, address_of}
use Rattle.quick_pack.specs.Readings.{amount_at}

-- in the order of `readings_0`
abbrev pub trees_0 : ℕ → List (Act Unit)
trees_0 r =
    pure tt
    ∷ two (operation_at (op_of r)) (word_of r) (Register (rm_of r)) (Held (Register (reg_of r)))
    ∷ two (operation_at (op_of r)) (word_of r) (Register (reg_of r)) (Held (Memory (address_of r)))
    ∷ two (operation_at (op_of r)) (word_of r) (Memory (address_of r)) (Held (Register (reg_of r)))
    ∷ mov (word_of r) (Register (rm_of r)) (Held (Register (reg_of r)))
    ∷ mov (word_of r) (Register (reg_of r)) (Held (Memory (address_of r)))
    ∷ mov (word_of r) (Memory (address_of r)) (Held (Register (reg_of r)))
    ∷ mov (word_of r) (Register (rm_of r)) (Immediate (imm_of r))
    ∷ push_register (rm_of r)
    ∷ pop_place (Register (rm_of r))
    ∷ branch_if (cond_of r) (disp_of r)
    ∷ call_near (disp_of r)
    ∷ ret
    ∷ []

-- in the order of `readings_16`
abbrev pub trees_16 : ℕ → List (Act Unit)
trees_16 r =
    two (operation_at (op_of r)) (word_of r) (Register (rm_of r)) (Immediate (imm_of r))
    ∷ two (operation_at (op_of r)) (word_of r) (Memory (address_of r)) (Immediate (imm_of r))
    ∷ mov (word_of r) (Memory (address_of r)) (Immediate (imm_of r))
    ∷ one (unary_at (op_of r)) (word_of r) (Register (rm_of r))
    ∷ one (unary_at (op_of r)) (word_of r) (Memory (address_of r))
    ∷ jump (disp_of r)
    ∷ jump (disp_of r)
    ∷ dbnz (disp_of r)
    ∷ shift (shift_at (op_of r)) (word_of r) (Register (rm_of r)) One
    ∷ shift (shift_at (op_of r)) (word_of r) (Memory (address_of r)) One
    ∷ load_acc (word_of r) (address_of r)
    ∷ store_acc (word_of r) (address_of r)
    ∷ test (word_of r) (Register (rm_of r)) (Held (Register (reg_of r)))
    ∷ test (word_of r) (Register (rm_of r)) (Immediate (imm_of r))
    ∷ []

-- in the order of `readings_32`; quotients may trap
abbrev pub trees_32 : ℕ → ℕ → List (Act Bool)
trees_32 r start =
    untrapped (block (primitive_at (op_of r)) (word_of r) (seg_of r) (repeat_at (reg_of r)) start)
    ∷ untrapped (decimal (string_at (op_of r) (seg_of r)))
    ∷ untrapped (convert (convert_at (op_of r)))
    ∷ multiply (product_at (op_of r) (word_of r) (Register (rm_of r)))
    ∷ untrapped (bcwz (disp_of r))
    ∷ untrapped (shift (shift_at (op_of r)) (word_of r) (Register (rm_of r)) (Counted (amount_at (reg_of r) (imm_of r))))
    ∷ untrapped (shift (shift_at (op_of r)) (word_of r) (Memory (address_of r)) (Counted (amount_at (reg_of r) (imm_of r))))
    ∷ untrapped (ldea (reg_of r) (address_of r))
    ∷ untrapped (xch (word_of r) (reg_of r) (Register (rm_of r)))
    ∷ untrapped (from_segment (Register (rm_of r)) (seg_of r))
    ∷ untrapped (jump_far (imm_of r) (disp_of r))
    ∷ untrapped (dbnz_while false (disp_of r))
    ∷ untrapped (dbnz_while true (disp_of r))
    ∷ []
