-- What each return of the code comes to, over plain values.
use Prim.Native.Nat.{ℕ}
use mathlib.Core.Path.{◌≡◌}
use mathlib.Core.Bool.{Bool}
use mathlib.Core.List.{List}
use lib.Dec.{lit≤}
use borrow.Author.Tests.{eq-eqb, ne_eqb}
use Rattle.sheet.specs.declared.Address.TheVariants.{Formed, Direct}
use Rattle.sheet.specs.declared.Address.{Address}
use Rattle.sheet.specs.declared.Amount.{Amount}
use Rattle.sheet.specs.declared.Bus.{Bus}
use Rattle.sheet.specs.declared.Convert.{Convert}
use Rattle.sheet.specs.declared.Decimal.{Decimal}
use Rattle.sheet.specs.declared.Multiply.{Multiply}
use Rattle.sheet.specs.declared.Place.{Place}
use Rattle.sheet.specs.declared.Place.TheVariants.{Register, Memory}
use Rattle.sheet.specs.declared.Places.TheVariants.{Counted}
use Rattle.sheet.specs.declared.Repeat.{Repeat}
use Rattle.sheet.specs.declared.Shift.{Shift}
use Rattle.sheet.specs.Block.{block}
use Rattle.sheet.specs.Convert.{convert}
use Rattle.sheet.specs.Decimal.{decimal}
use Rattle.sheet.specs.Multiply.{multiply}
use Rattle.sheet.specs.Shift.{shift}
use Rattle.sheet.specs.Contract.{OnFile, OnMemory}
use Rattle.sheet.proofs.Lifted.{memory_at_most}
use Rattle.do_block.specs.declared.Portless.{Portless}
use Rattle.do_block.specs.Portless.{primitive_of}
use Rattle.quick_place.specs.Packed.{op_of, rm_of, reg_of, seg_of, word_of, disp_of, imm_of, primitive_at, repeat_at, string_at, product_at, convert_at, shift_at, address_at, address_of}
use Rattle.quick_pack.specs.Readings.{amount_at}
use Rattle.quick_perform.specs.Tries.{Tries}

pub block_is : (r start o m s : ℕ) (w : Bool) (k : Portless) (q : Repeat) (b : Bus) (f g ram ram' rom : List ℕ) → w ≡ word_of r → o ≡ op_of r → primitive_of k ≡ primitive_at o → m ≡ reg_of r → q ≡ repeat_at m → s ≡ seg_of r
    → OnMemory Unit (block (primitive_of k) w s q start) f ram rom tt g ram' b 4
    → OnMemory Unit (block (primitive_at (op_of r)) (word_of r) (seg_of r) (repeat_at (reg_of r)) start) f ram rom tt g ram' b 384
block_is r start o m s w k q b f g ram ram' rom wide op known reg again seg h = rw (← wide, ← op, ← known, ← reg, ← again, ← seg) (memory_at_most {t = 4} 384 (lit≤ tt) h)

pub string_is : (r o s : ℕ) (i : Decimal) (b : Bus) (f g ram ram' rom : List ℕ) → o ≡ op_of r → s ≡ seg_of r → i ≡ string_at o s → OnMemory Unit (decimal i) f ram rom tt g ram' b 384
    → OnMemory Unit (decimal (string_at (op_of r) (seg_of r))) f ram rom tt g ram' b 384
string_is r o s i b f g ram ram' rom op seg e h = rw (← op, ← seg, ← e) h

pub convert_is : (r : ℕ) (i : Convert) (f g : List ℕ) → i ≡ convert_at (op_of r) → OnFile Unit (convert i) f tt g → OnFile Unit (convert (convert_at (op_of r))) f tt g
convert_is r i f g e h = rw (← e) h

pub multiply_is : (r o m : ℕ) (w : Bool) (i : Multiply) (t : Bool) (b : Bus) (f g ram ram' rom : List ℕ) → o ≡ op_of r → w ≡ word_of r → m ≡ rm_of r → i ≡ product_at o w (Register m) → OnMemory Bool (multiply i) f ram rom t g ram' b 10
    → Tries (multiply (product_at (op_of r) (word_of r) (Register (rm_of r)))) f ram rom g ram' b 384
multiply_is r o m w i t b f g ram ram' rom op wide rm e h = record { trapped = t; does = rw (← op, ← wide, ← rm, ← e) (memory_at_most {t = 10} 384 (lit≤ tt) h) }

-- ---- shifts by a count

module _ (r s d m : ℕ) (seg : s ≡ seg_of r) (disp : d ≡ disp_of r) (form : m ≡ rm_of r) where
  pub address_direct : m ≡ 8 → Direct s d ≡ address_of r
  unfolding address_at
  address_direct e = rw (← seg, ← disp, ← form, eq-eqb m 8 e)

  pub address_formed : (m ≡ 8 → ⊥) → Formed s m d ≡ address_of r
  unfolding address_at
  address_formed h = rw (← seg, ← disp, ← form, ne_eqb m 8 h)

pub shift_by_is : (r m v : ℕ) (k : Shift) (w : Bool) (a : Amount) (to : Place) (b : Bus) (f g ram ram' rom : List ℕ) → k ≡ shift_at (op_of r) → w ≡ word_of r → m ≡ reg_of r → v ≡ imm_of r → a ≡ amount_at m v
    → OnMemory Unit (shift k w to (Counted a)) f ram rom tt g ram' b 4
    → OnMemory Unit (shift (shift_at (op_of r)) (word_of r) to (Counted (amount_at (reg_of r) (imm_of r)))) f ram rom tt g ram' b 384
shift_by_is r m v k w a to b f g ram ram' rom kind wide reg imm amount h = rw (← kind, ← wide, ← reg, ← imm, ← amount) (memory_at_most {t = 4} 384 (lit≤ tt) h)

module _ (r : ℕ) (n : Bus) (f g ram ram' rom : List ℕ) where
  pub shift_r_is : (m : ℕ) → m ≡ rm_of r → OnMemory Unit (shift (shift_at (op_of r)) (word_of r) (Register m) (Counted (amount_at (reg_of r) (imm_of r)))) f ram rom tt g ram' n 384
      → OnMemory Unit (shift (shift_at (op_of r)) (word_of r) (Register (rm_of r)) (Counted (amount_at (reg_of r) (imm_of r)))) f ram rom tt g ram' n 384
  shift_r_is m e h = rw (← e) h

  pub shift_m_is : (a : Address) → a ≡ address_of r → OnMemory Unit (shift (shift_at (op_of r)) (word_of r) (Memory a) (Counted (amount_at (reg_of r) (imm_of r)))) f ram rom tt g ram' n 384
      → OnMemory Unit (shift (shift_at (op_of r)) (word_of r) (Memory (address_of r)) (Counted (amount_at (reg_of r) (imm_of r)))) f ram rom tt g ram' n 384
  shift_m_is a e h = rw (← e) h
