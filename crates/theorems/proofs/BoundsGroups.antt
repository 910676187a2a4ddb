-- Bounds on the groups of instructions that calculate and move: transfers, arithmetic, products, shifts, bits, decimals, fields.
use Prim.Native.Nat.{ℕ, suc, zero, ◌+◌, ◌/◌, ◌%◌, ◌≤◌}
use mathlib.Core.Bool.{Bool, true, false}
use native.Mathlib.Nat.{mul-le-mul_right}
use native.Mathlib.Omega.{arith}
use lib.Dec.{lit≤, ltb}
use Rattle.sheet.specs.declared.Place.{Place}
use Rattle.sheet.specs.declared.Spot.{Spot}
use Rattle.sheet.specs.declared.Product.{Product}
use Rattle.std.specs.Prelude.{Option, Some, None}
use Rattle.sheet.specs.declared.Quotient.{Quotient}
use Rattle.sheet.specs.declared.Chain.{Chain}
use Rattle.sheet.specs.declared.Transfer.{Transfer}
use Rattle.sheet.specs.declared.Transfer.TheVariants.{Mov, LoadAcc, StoreAcc, ToSegment, FromSegment, LoadPointer, AhFromPsw, PswFromAh, Ldea, Trans, Xch}
use Rattle.sheet.specs.declared.Operation.{Operation}
use Rattle.sheet.specs.declared.Operation.TheVariants.{Add, Or, Addc, Subc, And, Sub, Xor, Cmp}
use Rattle.sheet.specs.declared.Arithmetic.{Arithmetic}
use Rattle.sheet.specs.declared.Arithmetic.TheVariants.{Two, One, Test}
use Rattle.sheet.specs.declared.Multiply.{Multiply}
use Rattle.sheet.specs.declared.Multiply.TheVariants.{Mulu, Mul, MulByte, MulWord, Divu, Div}
use Rattle.sheet.specs.declared.Convert.{Convert}
use Rattle.sheet.specs.declared.Convert.TheVariants.{Adjba, Adj4a, Adjbs, Adj4s, Cvtbd, Cvtdb, Cvtbw, Cvtwl}
use Rattle.sheet.specs.declared.Shift.{Shift}
use Rattle.sheet.specs.declared.Shift.TheVariants.{Rol, Ror, Rolc, Rorc, Shl, Shr, Shra}
use Rattle.sheet.specs.declared.Places.{Places}
use Rattle.sheet.specs.declared.Places.TheVariants as places
use Rattle.sheet.specs.declared.Amount.{Amount}
use Rattle.sheet.specs.declared.Bit.{Bit}
use Rattle.sheet.specs.declared.Bit.TheVariants.{Test1, Clr1, Set1, Not1}
use Rattle.sheet.specs.declared.Decimal.{Decimal}
use Rattle.sheet.specs.declared.Decimal.TheVariants.{Add4s, Sub4s, Cmp4s, Rol4, Ror4}
use Rattle.sheet.specs.declared.Length.{Length}
use Rattle.sheet.specs.declared.Length.TheVariants.{InRegister, Given}
use Rattle.sheet.specs.declared.Field.{Field}
use Rattle.sheet.specs.declared.Field.TheVariants.{Ins, Ext}
use Rattle.sheet.specs.Registers.{CL, read_reg}
use Rattle.sheet.specs.Act.{Act, ◌>>=◌}
use Rattle.sheet.specs.Operand.{deposit, reg_value}
use Rattle.sheet.specs.Transfer.{mov, load_acc, store_acc, to_segment, from_segment, load_pointer, ah_from_psw, psw_from_ah, ldea, trans, xch, transfer}
use Rattle.sheet.specs.Arithmetic.{Result, finish, operate, conclude, two, test, one, calculate}
use Rattle.sheet.specs.Multiply.{set_product, multiplied, mulu, mul, mul_by, set_quotient, divided, divu, div, multiply}
use Rattle.sheet.specs.Convert.{set_converted, cvtbd, cvtdb, cvtbw, cvtwl, convert}
use Rattle.sheet.specs.Shift.{carry_in, shift_by, shift}
use Rattle.sheet.specs.Bits.{bit_done, bits}
use Rattle.sheet.specs.declared.Way.{Way}
use Rattle.sheet.specs.declared.Way.TheVariants.{Addition, Subtraction}
use Rattle.sheet.specs.declared.Storing.{Storing}
use Rattle.sheet.specs.declared.Storing.TheVariants.{Stored, NotStored}
use Rattle.sheet.specs.Adjust.{adj4, adjb}
use Rattle.sheet.specs.Decimal.{stores, link, chained, string, rol4, ror4, decimal}
use Rattle.sheet.specs.Fields.{length_of, advance, insert_into, first_part, second_part, ins, window, ext, field}
use Rattle.sheet.specs.Traps.{untrapped}
use Rattle.theorems.proofs.BoundsRules.{Measure, Traits, Bound, Most, seq, any, up, either_way, of_pure, of_get, of_registers, of_set, of_flag, of_psw, of_flags, of_peek, of_poke, of_peek_byte, of_poke_byte, of_loop}
use Rattle.theorems.proofs.BoundsOperands.{of_reg_value, of_set_reg, of_locate, of_fetch, of_deposit, of_value_at, of_source_value, of_pair_at, of_amount_of, of_trap}

-- ---- transfers

pub of_transfer : (i : Transfer) → Most Unit (transfer i) 4
unfolding transfer mov load_acc store_acc to_segment from_segment load_pointer ah_from_psw psw_from_ah ldea trans xch
of_transfer (Mov w to from) = seq (of_source_value w from) λ v. seq (of_locate to) λ s. of_deposit w s v
of_transfer (LoadAcc w from) = seq (of_source_value w _) λ v. seq (of_locate _) λ s. of_deposit w s v
of_transfer (StoreAcc w to) = seq (of_source_value w _) λ v. seq (of_locate _) λ s. of_deposit w s v
of_transfer (ToSegment seg from) = up (lit≤ tt) (seq (of_value_at true from) λ v. of_set)
of_transfer (FromSegment to seg) = up (lit≤ tt) (seq (of_locate to) λ s. seq of_registers λ r. of_deposit true s _)
of_transfer (LoadPointer seg reg from) = seq (of_pair_at from) λ p. seq (of_set_reg _ _ _) λ _. of_set
of_transfer AhFromPsw = up (lit≤ tt) (seq of_psw λ x. of_set_reg _ _ _)
of_transfer PswFromAh = up (lit≤ tt) (seq (of_reg_value _ _) λ x. of_flags)
of_transfer (Ldea reg from) = up (lit≤ tt) (seq of_registers λ r. of_set_reg _ _ _)
of_transfer (Trans seg) = up (lit≤ tt) (seq of_registers λ r. seq of_peek λ v. of_set_reg _ _ _)
of_transfer (Xch w reg with) = seq (of_locate with) λ s. seq (of_fetch w s) λ x. seq (of_reg_value _ _) λ y. seq (of_deposit w s y) λ _. of_set_reg _ _ _

-- ---- arithmetic

of_operate : (op : Operation) (w : Bool) (a b : ℕ) → Most Result (operate op w a b) 0
unfolding operate
of_operate Add w a b = of_pure
of_operate Or w a b = of_pure
of_operate Addc w a b = seq of_flag λ c. of_pure
of_operate Subc w a b = seq of_flag λ c. of_pure
of_operate And w a b = of_pure
of_operate Sub w a b = of_pure
of_operate Xor w a b = of_pure
of_operate Cmp w a b = of_pure

pub of_conclude : (op : Operation) (w : Bool) (s : Spot) (v : ℕ) → Most Unit (conclude op w s v) 2
unfolding conclude
of_conclude Add w s v = of_deposit w s v
of_conclude Or w s v = of_deposit w s v
of_conclude Addc w s v = of_deposit w s v
of_conclude Subc w s v = of_deposit w s v
of_conclude And w s v = of_deposit w s v
of_conclude Sub w s v = of_deposit w s v
of_conclude Xor w s v = of_deposit w s v
of_conclude Cmp w s v = up (lit≤ tt) of_pure

pub of_finish : (w : Bool) (s : Spot) (r : Result) → Most Unit (finish w s r) 2
unfolding finish
of_finish w s r = seq of_flags λ _. of_deposit w s _

pub of_calculate : (i : Arithmetic) → Most Unit (calculate i) 6
unfolding calculate two one test
of_calculate (Two op w to from) =
    seq (of_locate to) λ s. seq (of_fetch w s) λ a. seq (of_source_value w from) λ b. seq (of_operate op w a b) λ r. seq of_flags λ _. of_conclude op w s r.value
of_calculate (One op w to) = up (lit≤ tt) (seq (of_locate to) λ s. seq (of_fetch w s) λ a. of_finish w s _)
of_calculate (Test w left right) = up (lit≤ tt) (seq (of_value_at w left) λ a. seq (of_source_value w right) λ b. of_flags)

-- ---- products and quotients

pub of_untrapped : {m : Measure} {s : Traits} {p : Act Unit} {n : ℕ} → Bound m s Unit p n → Bound m s Bool (untrapped p) (n + 0)
unfolding untrapped
of_untrapped h = seq h λ _. any of_pure

of_set_product : (w : Bool) (x : ℕ) → Most Unit (set_product w x) 0
unfolding set_product
of_set_product false x = of_set
of_set_product true x = seq of_set λ _. of_set

of_multiplied : (w : Bool) (p : Product) → Most Unit (multiplied w p) 0
unfolding multiplied
of_multiplied w p = seq of_flags λ _. of_set_product w _

of_mul_by : (reg : ℕ) (from : Place) (by : ℕ) → Most Unit (mul_by reg from by) 2
unfolding mul_by
of_mul_by reg from by = seq (of_value_at true from) λ a. seq of_flags λ _. of_set_reg _ _ _

of_set_quotient : (w : Bool) (q m : ℕ) → Most Unit (set_quotient w q m) 0
unfolding set_quotient
of_set_quotient false q m = of_set
of_set_quotient true q m = seq of_set λ _. of_set

of_divided : (w : Bool) (d : Option Quotient) → Most Bool (divided w d) 8
unfolding divided
of_divided w (Some d) = up (lit≤ tt) (seq (of_set_quotient w d.quotient d.remainder) λ _. seq of_flags λ _. of_pure)
of_divided w None = seq (of_trap 0) λ _. seq of_flags λ _. of_pure

pub of_multiply : (i : Multiply) → Most Bool (multiply i) 10
unfolding multiply mulu mul divu div
of_multiply (Mulu w by) = up (lit≤ tt) (of_untrapped (seq (of_value_at w by) λ b. seq (of_reg_value _ _) λ a. of_multiplied w _))
of_multiply (Mul w by) = up (lit≤ tt) (of_untrapped (seq (of_value_at w by) λ b. seq (of_reg_value _ _) λ a. of_multiplied w _))
of_multiply (MulByte reg from by) = up (lit≤ tt) (of_untrapped (of_mul_by reg from by))
of_multiply (MulWord reg from by) = up (lit≤ tt) (of_untrapped (of_mul_by reg from by))
of_multiply (Divu w by) = seq (of_value_at w by) λ b. seq of_registers λ r. of_divided w _
of_multiply (Div w by) = seq (of_value_at w by) λ b. seq of_registers λ r. of_divided w _

-- ---- adjustments and conversions

of_adj4 : (way : Way) → Most Unit (adj4 way) 0
unfolding adj4 finish deposit
of_adj4 way = seq (of_reg_value _ _) λ x. seq of_flag λ ac. seq of_flag λ cy. seq of_flags λ _. of_set_reg _ _ _

of_adjb : (way : Way) → Most Unit (adjb way) 0
unfolding adjb
of_adjb way = seq of_registers λ r. seq of_flag λ ac. seq of_flags λ _. of_set

of_converted : (ah al : ℕ) → Most Unit (set_converted ah al) 0
unfolding set_converted
of_converted ah al = seq of_flags λ _. of_set

pub of_convert : (i : Convert) → Most Unit (convert i) 0
unfolding convert cvtbd cvtdb cvtbw cvtwl
of_convert Adjba = of_adjb Addition
of_convert Adj4a = of_adj4 Addition
of_convert Adjbs = of_adjb Subtraction
of_convert Adj4s = of_adj4 Subtraction
of_convert Cvtbd = seq (of_reg_value _ _) λ x. of_converted _ _
of_convert Cvtdb = seq (of_reg_value _ _) λ x. seq (of_reg_value _ _) λ y. of_converted _ _
of_convert Cvtbw = seq (of_reg_value _ _) λ x. of_set
of_convert Cvtwl = seq of_registers λ r. of_set

-- ---- shifts and bits

pub of_carry_in : (k : Shift) → Most Bool (carry_in k) 0
unfolding carry_in
of_carry_in Rol = of_pure
of_carry_in Ror = of_pure
of_carry_in Rolc = of_flag
of_carry_in Rorc = of_flag
of_carry_in Shl = of_pure
of_carry_in Shr = of_pure
of_carry_in Shra = of_pure

of_shift_by : (k : Shift) (w : Bool) (s : Spot) (x n : ℕ) → Most Unit (shift_by k w s x n) 2
unfolding shift_by
of_shift_by k w s x zero = of_deposit w s x
of_shift_by k w s x (suc n) = seq (of_carry_in k) λ cy. of_finish w s _

pub of_shift : (k : Shift) (w : Bool) (to : Place) (n : Places) → Most Unit (shift k w to n) 4
unfolding shift
of_shift k w to places.One = seq (of_locate to) λ s. seq (of_fetch w s) λ x. seq (of_carry_in k) λ cy. of_finish w s _
of_shift k w to (places.Counted a) = seq (of_amount_of a) λ n. seq (of_locate to) λ s. seq (of_fetch w s) λ x. of_shift_by k w s x n

of_bit_done : (op : Bit) (w : Bool) (s : Spot) (x n : ℕ) → Most Unit (bit_done op w s x n) 2
unfolding bit_done
of_bit_done Test1 w s x n = up (lit≤ tt) of_flags
of_bit_done Clr1 w s x n = of_deposit w s _
of_bit_done Set1 w s x n = of_deposit w s _
of_bit_done Not1 w s x n = of_deposit w s _

pub of_bits : (op : Bit) (w : Bool) (to : Place) (number : Amount) → Most Unit (bits op w to number) 4
unfolding bits
of_bits op w to number = seq (of_amount_of number) λ n. seq (of_locate to) λ s. seq (of_fetch w s) λ x. of_bit_done op w s x _

-- ---- decimal strings: at most 128 bytes, three accesses each

of_link : (way : Way) (storing : Storing) (seg i : ℕ) (c : Chain) → Most Chain (link way storing seg i c) 3
unfolding link
of_link way storing seg i c =
    seq of_registers λ r. seq of_peek_byte λ a. seq of_peek_byte λ b. seq (either_way (stores storing) of_poke_byte (up (lit≤ tt) of_pure)) λ _. of_pure

pub half_of_cl : (x : ℕ) → (x % 256 + 1) / 2 ≤ 128
half_of_cl x = omega arith

of_string : (way : Way) (storing : Storing) (seg : ℕ) → Most Unit (string way storing seg) 384
unfolding string chained reg_value read_reg ◌>>=◌
of_string way storing seg = of_get λ r. seq (up (mul-le-mul_right 3 (half_of_cl (r CL))) (of_loop (link way storing seg) 3 (of_link way storing seg) _ 0 _)) λ c. of_flags

pub of_rol4 : (to : Place) → Most Unit (rol4 to) 4
unfolding rol4
of_rol4 to = seq (of_reg_value _ _) λ al. seq (of_locate to) λ s. seq (of_fetch false s) λ x. seq (of_deposit false s _) λ _. of_set_reg _ _ _

pub of_ror4 : (to : Place) → Most Unit (ror4 to) 4
unfolding ror4
of_ror4 to = seq (of_reg_value _ _) λ al. seq (of_locate to) λ s. seq (of_fetch false s) λ x. seq (of_deposit false s _) λ _. of_set_reg _ _ _

pub of_decimal : (i : Decimal) → Most Unit (decimal i) 384
unfolding decimal
of_decimal (Add4s seg) = of_string Addition Stored seg
of_decimal (Sub4s seg) = of_string Subtraction Stored seg
of_decimal (Cmp4s seg) = of_string Subtraction NotStored seg
of_decimal (Rol4 to) = up (lit≤ tt) (of_rol4 to)
of_decimal (Ror4 to) = up (lit≤ tt) (of_ror4 to)

-- ---- bit fields

of_length_of : (n : Length) → Most ℕ (length_of n) 0
unfolding length_of
of_length_of (InRegister n) = seq (of_reg_value _ _) λ v. of_pure
of_length_of (Given n) = of_pure

of_advance : (offset n sum : ℕ) → Most Unit (advance offset n sum) 0
unfolding advance
of_advance offset n sum = seq (of_set_reg _ _ _) λ _. seq of_registers λ r. of_set

of_insert_into : (base offset at n v : ℕ) → Most Unit (insert_into base offset at n v) 4
unfolding insert_into
of_insert_into base offset at n v = seq of_peek λ x. of_poke

of_window : (base offset : ℕ) (beyond : Bool) → Most ℕ (window base offset beyond) 4
unfolding window
of_window base offset false = up (lit≤ tt) of_peek
of_window base offset true = seq of_peek λ low. seq of_peek λ high. of_pure

pub of_field : (i : Field) → Most Unit (field i) 8
unfolding field ins first_part second_part ext
of_field (Ins offset length) =
    seq (of_reg_value _ _) λ o. seq (of_length_of length) λ n. seq of_registers λ r. seq (of_insert_into _ _ _ _ _) λ _. seq (either_way (ltb 16 (o % 16 + n)) (of_insert_into _ _ _ _ _) (up (lit≤ tt) of_pure)) λ _. of_advance _ _ _
of_field (Ext seg offset length) =
    up (lit≤ tt) (seq (of_reg_value _ _) λ o. seq (of_length_of length) λ n. seq of_registers λ r. seq (of_window _ _ _) λ x. seq of_set λ _. of_advance _ _ _)
