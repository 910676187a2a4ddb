-- The instruction of each kind, from the fields of its reading.
use Prim.Native.Nat.{ℕ, ◌%◌}
use mathlib.Core.Path.{◌≡◌}
use mathlib.Core.Bool.{Bool}
use Rattle.sheet.specs.declared.Instr.TheVariants.{Multiplies, Blocks, Ports}
use Rattle.sheet.specs.declared.Place.TheVariants.{Register, Memory}
use Rattle.sheet.specs.declared.Source.TheVariants.{Held, Immediate}
use Rattle.sheet.specs.declared.Io.TheVariants.{In, Out}
use Rattle.sheet.specs.declared.Repeat.TheVariants.{WhileZ}
use Rattle.sheet.specs.declared.Places.TheVariants as places
use Rattle.sheet.specs.declared.Arithmetic.TheVariants.{Two, One, Test}
use Rattle.sheet.specs.declared.Transfer.TheVariants.{Mov, LoadAcc, StoreAcc, Ldea, Xch, FromSegment}
use Rattle.sheet.specs.declared.Stack.TheVariants.{Push, Pop}
use Rattle.sheet.specs.declared.Branch.TheVariants.{CallNear, Ret, BrNear, BrShort, BrFar}
use Rattle.sheet.specs.declared.Conditional.TheVariants.{If, Dbnz, Dbnzne, Dbnze, Bcwz}
use Rattle.sheet.specs.Groups.{Transfers, Calculates, Converts, Shifts, Decimals, Stacks, Branches, Tests}
use Rattle.sheet.specs.FirstByte.{operation_at}
use Rattle.quick_place.specs.Packed.{unary_at, shift_at, convert_at, string_at, product_at, primitive_at, repeat_at, address_at, Fields}
use Rattle.quick_pack.specs.Readings.{amount_at, readings_0, readings_16, readings_32, port_at, stream_at, readings_48, instr_of}

module _ {r z m g o s d i : ℕ} {b : Bool} where
  pub is_1 : Fields r 1 z m g o s b d i → instr_of r ≡ Calculates (Two (operation_at (o % 8)) b (Register m) (Held (Register g)))
  unfolding instr_of readings_0
  is_1 f = rw (f.kind_is, f.op_is, f.word_is, f.rm_is, f.reg_is)

  pub is_2 : Fields r 2 z m g o s b d i → instr_of r ≡ Calculates (Two (operation_at (o % 8)) b (Register g) (Held (Memory (address_at m s d))))
  unfolding instr_of readings_0
  is_2 f = rw (f.kind_is, f.op_is, f.word_is, f.rm_is, f.reg_is, f.seg_is, f.disp_is)

  pub is_3 : Fields r 3 z m g o s b d i → instr_of r ≡ Calculates (Two (operation_at (o % 8)) b (Memory (address_at m s d)) (Held (Register g)))
  unfolding instr_of readings_0
  is_3 f = rw (f.kind_is, f.op_is, f.word_is, f.rm_is, f.reg_is, f.seg_is, f.disp_is)

  pub is_4 : Fields r 4 z m g o s b d i → instr_of r ≡ Transfers (Mov b (Register m) (Held (Register g)))
  unfolding instr_of readings_0
  is_4 f = rw (f.kind_is, f.word_is, f.rm_is, f.reg_is)

  pub is_5 : Fields r 5 z m g o s b d i → instr_of r ≡ Transfers (Mov b (Register g) (Held (Memory (address_at m s d))))
  unfolding instr_of readings_0
  is_5 f = rw (f.kind_is, f.word_is, f.rm_is, f.reg_is, f.seg_is, f.disp_is)

  pub is_6 : Fields r 6 z m g o s b d i → instr_of r ≡ Transfers (Mov b (Memory (address_at m s d)) (Held (Register g)))
  unfolding instr_of readings_0
  is_6 f = rw (f.kind_is, f.word_is, f.rm_is, f.reg_is, f.seg_is, f.disp_is)

  pub is_7 : Fields r 7 z m g o s b d i → instr_of r ≡ Transfers (Mov b (Register m) (Immediate i))
  unfolding instr_of readings_0
  is_7 f = rw (f.kind_is, f.word_is, f.rm_is, f.imm_is)

  pub is_8 : Fields r 8 z m g o s b d i → instr_of r ≡ Stacks (Push (Register m))
  unfolding instr_of readings_0
  is_8 f = rw (f.kind_is, f.rm_is)

  pub is_9 : Fields r 9 z m g o s b d i → instr_of r ≡ Stacks (Pop (Register m))
  unfolding instr_of readings_0
  is_9 f = rw (f.kind_is, f.rm_is)

  pub is_10 : Fields r 10 z m g o s b d i → instr_of r ≡ Tests (If o d)
  unfolding instr_of readings_0
  is_10 f = rw (f.kind_is, f.cond_is, f.disp_is)

  pub is_11 : Fields r 11 z m g o s b d i → instr_of r ≡ Branches (CallNear d)
  unfolding instr_of readings_0
  is_11 f = rw (f.kind_is, f.disp_is)

  pub is_12 : Fields r 12 z m g o s b d i → instr_of r ≡ Branches Ret
  unfolding instr_of readings_0
  is_12 f = rw f.kind_is

  pub is_16 : Fields r 16 z m g o s b d i → instr_of r ≡ Calculates (Two (operation_at (o % 8)) b (Register m) (Immediate i))
  unfolding instr_of readings_16
  is_16 f = rw (f.kind_is, f.op_is, f.word_is, f.rm_is, f.imm_is)

  pub is_17 : Fields r 17 z m g o s b d i → instr_of r ≡ Calculates (Two (operation_at (o % 8)) b (Memory (address_at m s d)) (Immediate i))
  unfolding instr_of readings_16
  is_17 f = rw (f.kind_is, f.op_is, f.word_is, f.rm_is, f.seg_is, f.disp_is, f.imm_is)

  pub is_18 : Fields r 18 z m g o s b d i → instr_of r ≡ Transfers (Mov b (Memory (address_at m s d)) (Immediate i))
  unfolding instr_of readings_16
  is_18 f = rw (f.kind_is, f.word_is, f.rm_is, f.seg_is, f.disp_is, f.imm_is)

  pub is_19 : Fields r 19 z m g o s b d i → instr_of r ≡ Calculates (One (unary_at (o % 8)) b (Register m))
  unfolding instr_of readings_16
  is_19 f = rw (f.kind_is, f.op_is, f.word_is, f.rm_is)

  pub is_20 : Fields r 20 z m g o s b d i → instr_of r ≡ Calculates (One (unary_at (o % 8)) b (Memory (address_at m s d)))
  unfolding instr_of readings_16
  is_20 f = rw (f.kind_is, f.op_is, f.word_is, f.rm_is, f.seg_is, f.disp_is)

  pub is_21 : Fields r 21 z m g o s b d i → instr_of r ≡ Branches (BrNear d)
  unfolding instr_of readings_16
  is_21 f = rw (f.kind_is, f.disp_is)

  pub is_22 : Fields r 22 z m g o s b d i → instr_of r ≡ Branches (BrShort d)
  unfolding instr_of readings_16
  is_22 f = rw (f.kind_is, f.disp_is)

  pub is_23 : Fields r 23 z m g o s b d i → instr_of r ≡ Tests (Dbnz d)
  unfolding instr_of readings_16
  is_23 f = rw (f.kind_is, f.disp_is)

  pub is_24 : Fields r 24 z m g o s b d i → instr_of r ≡ Shifts (shift_at (o % 8)) b (Register m) places.One
  unfolding instr_of readings_16
  is_24 f = rw (f.kind_is, f.op_is, f.word_is, f.rm_is)

  pub is_25 : Fields r 25 z m g o s b d i → instr_of r ≡ Shifts (shift_at (o % 8)) b (Memory (address_at m s d)) places.One
  unfolding instr_of readings_16
  is_25 f = rw (f.kind_is, f.op_is, f.word_is, f.rm_is, f.seg_is, f.disp_is)

  pub is_26 : Fields r 26 z m g o s b d i → instr_of r ≡ Transfers (LoadAcc b (address_at m s d))
  unfolding instr_of readings_16
  is_26 f = rw (f.kind_is, f.word_is, f.rm_is, f.seg_is, f.disp_is)

  pub is_27 : Fields r 27 z m g o s b d i → instr_of r ≡ Transfers (StoreAcc b (address_at m s d))
  unfolding instr_of readings_16
  is_27 f = rw (f.kind_is, f.word_is, f.rm_is, f.seg_is, f.disp_is)

  pub is_28 : Fields r 28 z m g o s b d i → instr_of r ≡ Calculates (Test b (Register m) (Held (Register g)))
  unfolding instr_of readings_16
  is_28 f = rw (f.kind_is, f.word_is, f.rm_is, f.reg_is)

  pub is_29 : Fields r 29 z m g o s b d i → instr_of r ≡ Calculates (Test b (Register m) (Immediate i))
  unfolding instr_of readings_16
  is_29 f = rw (f.kind_is, f.word_is, f.rm_is, f.imm_is)

  pub is_32 : Fields r 32 z m g o s b d i → instr_of r ≡ Blocks (primitive_at (o % 8)) b s (repeat_at g)
  unfolding instr_of readings_32
  is_32 f = rw (f.kind_is, f.op_is, f.word_is, f.reg_is, f.seg_is)

  pub is_33 : Fields r 33 z m g o s b d i → instr_of r ≡ Decimals (string_at (o % 8) s)
  unfolding instr_of readings_32
  is_33 f = rw (f.kind_is, f.op_is, f.seg_is)

  pub is_34 : Fields r 34 z m g o s b d i → instr_of r ≡ Converts (convert_at (o % 8))
  unfolding instr_of readings_32
  is_34 f = rw (f.kind_is, f.op_is)

  pub is_35 : Fields r 35 z m g o s b d i → instr_of r ≡ Multiplies (product_at (o % 8) b (Register m))
  unfolding instr_of readings_32
  is_35 f = rw (f.kind_is, f.op_is, f.word_is, f.rm_is)

  pub is_36 : Fields r 36 z m g o s b d i → instr_of r ≡ Tests (Bcwz d)
  unfolding instr_of readings_32
  is_36 f = rw (f.kind_is, f.disp_is)

  pub is_37 : Fields r 37 z m g o s b d i → instr_of r ≡ Shifts (shift_at (o % 8)) b (Register m) (places.Counted (amount_at g i))
  unfolding instr_of readings_32
  is_37 f = rw (f.kind_is, f.op_is, f.word_is, f.rm_is, f.reg_is, f.imm_is)

  pub is_38 : Fields r 38 z m g o s b d i → instr_of r ≡ Shifts (shift_at (o % 8)) b (Memory (address_at m s d)) (places.Counted (amount_at g i))
  unfolding instr_of readings_32
  is_38 f = rw (f.kind_is, f.op_is, f.word_is, f.rm_is, f.seg_is, f.disp_is, f.reg_is, f.imm_is)

  pub is_39 : Fields r 39 z m g o s b d i → instr_of r ≡ Transfers (Ldea g (address_at m s d))
  unfolding instr_of readings_32
  is_39 f = rw (f.kind_is, f.rm_is, f.seg_is, f.disp_is, f.reg_is)

  pub is_40 : Fields r 40 z m g o s b d i → instr_of r ≡ Transfers (Xch b g (Register m))
  unfolding instr_of readings_32
  is_40 f = rw (f.kind_is, f.word_is, f.rm_is, f.reg_is)

  pub is_41 : Fields r 41 z m g o s b d i → instr_of r ≡ Transfers (FromSegment (Register m) s)
  unfolding instr_of readings_32
  is_41 f = rw (f.kind_is, f.rm_is, f.seg_is)

  pub is_42 : Fields r 42 z m g o s b d i → instr_of r ≡ Branches (BrFar i d)
  unfolding instr_of readings_32
  is_42 f = rw (f.kind_is, f.imm_is, f.disp_is)

  pub is_43 : Fields r 43 z m g o s b d i → instr_of r ≡ Tests (Dbnzne d)
  unfolding instr_of readings_32
  is_43 f = rw (f.kind_is, f.disp_is)

  pub is_44 : Fields r 44 z m g o s b d i → instr_of r ≡ Tests (Dbnze d)
  unfolding instr_of readings_32
  is_44 f = rw (f.kind_is, f.disp_is)

  pub is_48 : Fields r 48 z m g o s b d i → instr_of r ≡ Ports (In b (port_at m d))
  unfolding instr_of readings_48
  is_48 f = rw (f.kind_is, f.word_is, f.rm_is, f.disp_is)

  pub is_49 : Fields r 49 z m g o s b d i → instr_of r ≡ Ports (Out b (port_at m d))
  unfolding instr_of readings_48
  is_49 f = rw (f.kind_is, f.word_is, f.rm_is, f.disp_is)

  pub is_50 : Fields r 50 z m g o s b d i → instr_of r ≡ Blocks (stream_at (o % 8)) b s WhileZ
  unfolding instr_of readings_48
  is_50 f = rw (f.kind_is, f.op_is, f.word_is, f.seg_is)
