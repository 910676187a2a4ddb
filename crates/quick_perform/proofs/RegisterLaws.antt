-- What each return of the code comes to, over plain values.
use Prim.Native.Nat.{ℕ}
use mathlib.Core.Path.{◌≡◌}
use mathlib.Core.Bool.{Bool, true}
use mathlib.Core.List.{List}
use Rattle.sheet.specs.declared.Place.TheVariants.{Register}
use Rattle.sheet.specs.Registers.{file_of, read_reg, segment}
use Rattle.sheet.specs.Operand.{offset_of, locate, fetch, deposit, set_reg}
use Rattle.sheet.specs.Traps.{jump_far}
use Rattle.sheet.specs.Transfer.{ldea, xch, from_segment}
use Rattle.sheet.specs.Contract.{OnFile}
use Rattle.sheet.proofs.Lifted.{file_pure, file_seq, file_registers}
use Rattle.mach_registers.proofs.Laws.{file_reg}
use Rattle.quick_place.specs.Packed.{rm_of, reg_of, seg_of, word_of, disp_of, imm_of, address_of}

module _ (r : ℕ) (f g : List ℕ) where
  pub ldea_is : (n o : ℕ) → n ≡ reg_of r → o ≡ offset_of (file_of f) (address_of r) → OnFile Unit (set_reg true n o) f tt g → OnFile Unit (ldea (reg_of r) (address_of r)) f tt g
  unfolding ldea
  ldea_is n o e q h = rw (← e) (file_seq _ file_registers (rw (← q) h))

  pub xch_is : (w : Bool) (m n x y : ℕ) (k : List ℕ) → w ≡ word_of r → m ≡ rm_of r → n ≡ reg_of r → x ≡ read_reg w (file_of f) m → y ≡ read_reg w (file_of f) n → OnFile Unit (set_reg w m y) f tt k
      → OnFile Unit (set_reg w n x) k tt g → OnFile Unit (xch (word_of r) (reg_of r) (Register (rm_of r))) f tt g
  unfolding xch locate fetch deposit
  xch_is w m n x y k wide with-m reg p q h l = rw (← wide, ← with-m, ← reg) (file_seq _ file_pure (file_seq _ (file_reg w m p) (file_seq _ (file_reg w n q) (file_seq _ h l))))

  pub from_segment_is : (s m v : ℕ) → s ≡ seg_of r → m ≡ rm_of r → v ≡ file_of f (segment s) → OnFile Unit (set_reg true m v) f tt g → OnFile Unit (from_segment (Register (rm_of r)) (seg_of r)) f tt g
  unfolding from_segment locate deposit
  from_segment_is s m v e q l h = rw (← e, ← q) (file_seq _ file_pure (file_seq _ file_registers (rw (← l) h)))

  pub br_far_is : (ps pc : ℕ) → ps ≡ imm_of r → pc ≡ disp_of r → OnFile Unit (jump_far ps pc) f tt g → OnFile Unit (jump_far (imm_of r) (disp_of r)) f tt g
  br_far_is ps pc e q h = rw (← e, ← q) h
