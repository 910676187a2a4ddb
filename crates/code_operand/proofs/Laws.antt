-- What each return of the code comes to, over plain values.
use Prim.Native.Nat.{ℕ, ◌+◌, ◌/◌, ◌%◌, ◌<◌}
use mathlib.Core.Path.{◌≡◌, refl}
use mathlib.Core.Bool.{Bool, true, false, ◌&&◌}
use Rattle.std.specs.Prelude.{Option, None, Some, unwrap_or, ok_or}
use Rattle.sheet.specs.declared.Refusal.TheVariants.{UnknownInstruction}
use Rattle.sheet.specs.declared.Instr.{Instr}
use Rattle.sheet.specs.Registers.{in_ds0}
use native.Mathlib.Omega.{arith}
use borrow.Author.Tests.{eq-eqb, ne_eqb, eqb-true}
use lib.Dec.{eqb}
use lib.ListN.{get_or}
use Rattle.sheet.specs.declared.Form.{Form}
use Rattle.sheet.specs.declared.Address.{Address}
use Rattle.sheet.specs.declared.Address.TheVariants.{Formed, Direct}
use Rattle.sheet.specs.declared.Place.{Place}
use Rattle.sheet.specs.declared.Place.TheVariants.{Register, Memory}
use Rattle.sheet.specs.declared.Prefixes.{Prefixes}
use Rattle.sheet.specs.declared.Primitive.{Primitive}
use Rattle.sheet.specs.declared.Shift.{Shift}
use Rattle.sheet.specs.declared.Instr.TheVariants.{Blocks}
use Rattle.sheet.specs.Operand.{form_at}
use Rattle.sheet.specs.Reading.{byte, word, signed_byte}
use Rattle.sheet.specs.Encoding.{seg_or, mod_field, mem_field, formed, direct, displacement, with_displacement, with_offset, address, in_memory, place}
use Rattle.sheet.specs.FirstByte.{shifts}
use Rattle.sheet.specs.Contract.{Reads}
use Rattle.sheet.proofs.ReadingLaws.{reads_seq, reads_got, read_true, read_false}
use Rattle.code_answer.specs.Answer.{Answer, known_as, Takes}
use Rattle.code_answer.proofs.CodeLaws.{not_both}
use Rattle.code_operand.specs.Operands.{Operands, shift_of}

-- what the library answers for a segment that a prefix may put in its place
pub seg_given : (s : Option ℕ) (usual : ℕ) → unwrap_or s usual ≡ seg_or s usual
seg_given None usual = refl
seg_given (Some n) usual = refl

pub formed_is : (p : Prefixes) (n disp s : ℕ) (f : Form) → f ≡ form_at n → s ≡ unwrap_or p.seg f.seg → Formed s n disp ≡ formed p n disp
unfolding formed
formed_is p n disp s f e h = rw (h, e, seg_given)

pub direct_is : (p : Prefixes) (offset s : ℕ) → s ≡ unwrap_or p.seg in_ds0 → Direct s offset ≡ direct p offset
direct_is p offset s h = rw (h, seg_given)

pub block_is : (k : Primitive) (w : Bool) (p : Prefixes) (s i : ℕ) (r : Answer Instr) → r ≡ known_as (Blocks k w s p.repeat) i → s ≡ unwrap_or p.seg in_ds0 → r ≡ known_as (Blocks k w (seg_or p.seg in_ds0) p.repeat) i
block_is k w p s i r e h = rw (h, seg_given) at e

-- the library's answers and the definitions
pub shift_known : (reg : ℕ) (s : Option Shift) → s ≡ get_or shifts reg None → ok_or s UnknownInstruction ≡ shift_of reg
shift_known reg s e = rw e

module _ {src : ℕ → ℕ} {i : ℕ} where
  pub displacement_none : (mode : ℕ) → mode ≡ 0 → Takes ℕ (displacement mode) src i 0 i 2
  unfolding displacement
  displacement_none mode e = record { reads = read_true _ _ (eq-eqb mode 0 e) reads_got; most = omega arith }

  pub displacement_byte : (mode v : ℕ) → (mode ≡ 0 → ⊥) → mode ≡ 1 → Reads ℕ signed_byte src i v (i + 1) → Takes ℕ (displacement mode) src i v (i + 1) 2
  unfolding displacement
  displacement_byte mode v f e x = record { reads = read_false _ _ (ne_eqb mode 0 f) (read_true _ _ (eq-eqb mode 1 e) x); most = omega arith }

  pub displacement_word : (mode v : ℕ) → (mode ≡ 0 → ⊥) → (mode ≡ 1 → ⊥) → Reads ℕ word src i v (i + 2) → Takes ℕ (displacement mode) src i v (i + 2) 2
  unfolding displacement
  displacement_word mode v f e x = record { reads = read_false _ _ (ne_eqb mode 0 f) (read_false _ _ (ne_eqb mode 1 e) x); most = omega arith }

  module _ (p : Prefixes) (m : ℕ) where
    pub address_direct : (v : ℕ) (a : Address) → m / 64 ≡ 0 → m % 8 ≡ 6 → Reads ℕ word src i v (i + 2) → a ≡ direct p v → Takes Address (address p (mod_field m) (mem_field m)) src i a (i + 2) 2
    unfolding address with_offset
    address_direct v a k l x h =
        let t : (eqb (mod_field m) 0 && eqb (mem_field m) 6) ≡ true = rw (eq-eqb (mod_field m) 0 k, eq-eqb (mem_field m) 6 l) in
        record { reads = read_true _ _ t (rw h (reads_seq _ x reads_got)); most = omega arith }

    pub address_formed : (v j : ℕ) (a : Address) → (m / 64 ≡ 0 → m % 8 ≡ 6 → ⊥) → Takes ℕ (displacement (m / 64)) src i v j 2 → a ≡ formed p (m % 8) v
        → Takes Address (address p (mod_field m) (mem_field m)) src i a j 2
    unfolding address with_displacement
    address_formed v j a e x h =
        let t : (eqb (mod_field m) 0 && eqb (mem_field m) 6) ≡ false = not_both (eqb (mod_field m) 0) (eqb (mem_field m) 6) (λ k l. e (eqb-true (mod_field m) 0 k) (eqb-true (mem_field m) 6 l)) in
        record { reads = read_false _ _ t (rw h (reads_seq _ x.reads reads_got)); most = x.most }

    place_register : m / 64 ≡ 3 → Takes Place (place p m) src i (Register (m % 8)) i 2
    unfolding place
    place_register e = record { reads = read_true _ _ (eq-eqb (mod_field m) 3 e) reads_got; most = omega arith }

    place_memory : (a : Address) (j : ℕ) → (m / 64 ≡ 3 → ⊥) → Takes Address (address p (mod_field m) (mem_field m)) src i a j 2 → Takes Place (place p m) src i (Memory a) j 2
    unfolding place in_memory
    place_memory a j e x = record { reads = read_false _ _ (ne_eqb (mod_field m) 3 e) (reads_seq _ x.reads reads_got); most = x.most }

    operands_named : (a : Place) (j : ℕ) → m < 256 → Reads ℕ byte src i m (i + 1) → Takes Place (place p m) src (i + 1) a j 2 → Operands p src i (m / 8 % 8) a j
    operands_named a j h x y = let l = y.most in record { m = m; below = h; code = x; field = refl; named = y.reads; most = omega arith }

module _ {src : ℕ → ℕ} {i : ℕ} (p : Prefixes) (m : ℕ) where
  pub operands_register : m < 256 → Reads ℕ byte src i m (i + 1) → m / 64 ≡ 3 → Operands p src i (m / 8 % 8) (Register (m % 8)) (i + 1)
  operands_register h x e = operands_named p m _ _ h x (place_register p m e)

  pub operands_memory : (a : Address) (j : ℕ) → m < 256 → Reads ℕ byte src i m (i + 1) → (m / 64 ≡ 3 → ⊥) → Takes Address (address p (mod_field m) (mem_field m)) src (i + 1) a j 2
      → Operands p src i (m / 8 % 8) (Memory a) j
  operands_memory a j h x e y = operands_named p m _ _ h x (place_memory p m a j e y)
