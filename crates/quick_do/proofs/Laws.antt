-- What each return of the code comes to, over plain values.
use Prim.Native.Nat.{ℕ, zero, suc, ◌+◌, ◌%◌, ◌≤◌, ◌<◌}
use mathlib.Core.Path.{◌≡◌, refl}
use mathlib.Core.Bool.{Bool, true, false}
use mathlib.Core.List.{List, [], ◌∷◌}
use native.Mathlib.Omega.{arith}
use lib.Bits.{bit_and}
use lib.Dec.{eqb}
use lib.ListN.{get_or, set}
use borrow.Author.Tests.{ne_eqb, eq-eqb, lt-ltb}
use Rattle.sheet.specs.declared.Address.TheVariants.{Formed, Direct}
use Rattle.std.specs.Prelude.{Some, None}
use Rattle.sheet.specs.declared.Flagged.{Flagged}
use Rattle.sheet.specs.declared.Operation.{Operation}
use Rattle.sheet.specs.declared.Operation.TheVariants.{Add, Or, Addc, Subc, And, Sub, Xor, Cmp}
use Rattle.sheet.specs.declared.Place.TheVariants.{Register}
use Rattle.sheet.specs.declared.Source.TheVariants.{Held, Immediate}
use Rattle.sheet.specs.declared.Spot.{Spot}
use Rattle.sheet.specs.declared.Spot.TheVariants.{InRegister}
use Rattle.sheet.specs.declared.Unary.{Unary}
use Rattle.sheet.specs.Width.{pick, add16, sub16}
use Rattle.sheet.specs.Psw.{CY, flag_of}
use Rattle.sheet.specs.Registers.{PSW, CW, BW, in_ds0, file_of, read_reg, segment}
use Rattle.sheet.specs.FirstByte.{operation_at}
use Rattle.sheet.specs.Operand.{form, forms, form_at, index_of, form_offset, offset_of, base_of, locate, fetch, deposit, value_at, source_value, set_reg}
use Rattle.sheet.specs.Act.{affect, pure}
use Rattle.sheet.specs.Arithmetic.{Result, logical, unary, finish, operate, conclude, two, one, test}
use Rattle.sheet.specs.Transfer.{mov}
use Rattle.sheet.specs.Branch.{jump, branch_if, dbnz}
use Rattle.sheet.specs.Contract.{OnFile, flagged}
use Rattle.sheet.proofs.Lifted.{file_pure, file_seq}
use Rattle.calc_psw.proofs.Results.{file_affect, value_is}
use Rattle.mach_registers.proofs.Laws.{file_reg}
use Rattle.calc_arith.specs.Operate.{operated}
use Rattle.calc_arith.proofs.OperateLaws.{operate_ends}
use Rattle.do_conditional.proofs.Laws.{jumps, stays, counts, dbnz_is}
use Rattle.quick_place.specs.Packed.{op_of, unary_at, cond_of, word_of, rm_of, reg_of, seg_of, disp_of, imm_of, address_at, address_of}
use Rattle.quick_do.specs.Settle.{settle}

-- ---- address forms

pub base_at_lem : (n k : ℕ) → n % 8 ≡ k → (get_or forms k (form BW None in_ds0)).base ≡ (form_at n).base
unfolding form_at
base_at_lem n k e = rw e

pub op_below : (r : ℕ) → op_of r < 8
op_below r = omega arith

from_four : (k : ℕ) → (k ≡ 0 → ⊥) → (k ≡ 1 → ⊥) → (k ≡ 2 → ⊥) → (k ≡ 3 → ⊥) → 4 ≤ k
from_four k a b c d = omega arith

seven : (k : ℕ) → k < 8 → 4 ≤ k → (k ≡ 4 → ⊥) → (k ≡ 5 → ⊥) → (k ≡ 6 → ⊥) → k ≡ 7
seven k l m a b c = omega arith

below_eight : (n : ℕ) → n % 8 < 8
below_eight n = omega arith

pub base_last : (n : ℕ) → (n % 8 ≡ 0 → ⊥) → (n % 8 ≡ 1 → ⊥) → (n % 8 ≡ 2 → ⊥) → (n % 8 ≡ 3 → ⊥) → (n % 8 ≡ 4 → ⊥) → (n % 8 ≡ 5 → ⊥) → (n % 8 ≡ 6 → ⊥) → 3 ≡ (form_at n).base
base_last n a b c d e f g = base_at_lem n 7 (seven (n % 8) (below_eight n) (from_four (n % 8) a b c d) e f g)

-- the first four forms have an index, the others none
indexed : (k : ℕ) → k < 4 → (get_or forms k (form BW None in_ds0)).index ≡ Some (6 + k % 2)
indexed zero h = refl
indexed (suc zero) h = refl
indexed (suc (suc zero)) h = refl
indexed (suc (suc (suc zero))) h = refl
indexed (suc (suc (suc (suc k)))) h = absurd (omega arith)

unindexed : (k : ℕ) → k < 8 → 4 ≤ k → (get_or forms k (form BW None in_ds0)).index ≡ None
unindexed zero h l = absurd (omega arith)
unindexed (suc zero) h l = absurd (omega arith)
unindexed (suc (suc zero)) h l = absurd (omega arith)
unindexed (suc (suc (suc zero))) h l = absurd (omega arith)
unindexed (suc (suc (suc (suc zero)))) h l = refl
unindexed (suc (suc (suc (suc (suc zero))))) h l = refl
unindexed (suc (suc (suc (suc (suc (suc zero)))))) h l = refl
unindexed (suc (suc (suc (suc (suc (suc (suc zero))))))) h l = refl
unindexed (suc (suc (suc (suc (suc (suc (suc (suc k)))))))) h l = absurd (omega arith)

index_form : (n : ℕ) → n % 8 < 4 → (form_at n).index ≡ Some (6 + n % 8 % 2)
unfolding form_at
index_form n h = indexed (n % 8) h

no_index : (n : ℕ) → 4 ≤ n % 8 → (form_at n).index ≡ None
unfolding form_at
no_index n h = unindexed (n % 8) (below_eight n) h

-- a general register's word
general : (f : List ℕ) (n x : ℕ) → n ≤ 7 → x ≡ get_or f n 0 → x ≡ read_reg true (file_of f) n
unfolding read_reg
general f n x h e = let q : n % 8 ≡ n = omega arith in rw (q, lt-ltb n 13 (omega arith)) e

sum_two : (b i d l x : ℕ) → l ≡ add16 b d → x ≡ add16 l i → x ≡ add16 (b + i) d
sum_two b i d l x e h = omega arith

sum_one : (b d l : ℕ) → l ≡ add16 b d → l ≡ add16 (b + 0) d
sum_one b d l e = omega arith

module _ (f : List ℕ) (n disp b low : ℕ) (base : b ≡ (form_at n).base) (few : b ≤ 7) (sum : low ≡ add16 (get_or f b 0) disp) where
  pub offset_two : (i x : ℕ) → n % 8 < 4 → i ≡ n % 2 → x ≡ add16 low (get_or f (6 + i) 0) → x ≡ form_offset (file_of f) (form_at n) disp
  unfolding form_offset index_of
  offset_two i x h k e =
      let p : 6 + i ≡ 6 + n % 8 % 2 = omega arith in
      rw (← base, index_form n h, ← p, ← general f b (get_or f b 0) few refl, ← general f (6 + i) (get_or f (6 + i) 0) (omega arith) refl) (sum_two (get_or f b 0) (get_or f (6 + i) 0) disp low x sum e)

  pub offset_one : 4 ≤ n % 8 → low ≡ form_offset (file_of f) (form_at n) disp
  unfolding form_offset index_of
  offset_one h = rw (← base, no_index n h, ← general f b (get_or f b 0) few refl) (sum_one (get_or f b 0) disp low sum)

pub offset_given : (f : List ℕ) (r x : ℕ) → rm_of r ≡ 8 → x ≡ disp_of r → x ≡ offset_of (file_of f) (address_of r)
unfolding offset_of address_at
offset_given f r x h e = rw (eq-eqb (rm_of r) 8 h) e

pub offset_formed : (f : List ℕ) (r d x : ℕ) → (rm_of r ≡ 8 → ⊥) → d ≡ disp_of r → x ≡ form_offset (file_of f) (form_at (rm_of r)) d → x ≡ offset_of (file_of f) (address_of r)
unfolding offset_of address_at
offset_formed f r d x h e q = rw (ne_eqb (rm_of r) 8 h) (rw e at q)

pub base_is : (f : List ℕ) (r x : ℕ) → x ≡ file_of f (segment (seg_of r)) → x ≡ base_of (file_of f) (address_of r)
unfolding base_of address_at
base_is f r x e = go (eqb (rm_of r) 8)
  where
    go : (c : Bool) → x ≡ base_of (file_of f) (pick c (Direct (seg_of r) (disp_of r)) (Formed (seg_of r) (rm_of r) (disp_of r)))
    go true = e
    go false = e

-- ---- operations

module _ (w : Bool) (n v : ℕ) (f g : List ℕ) where
  pub drops_cmp : (op : Operation) → op ≡ Cmp → OnFile Unit (conclude op w (InRegister n) v) f tt f
  unfolding conclude
  drops_cmp op e = rw e file_pure

  pub keeps : (op : Operation) → (op ≡ Cmp → ⊥) → OnFile Unit (set_reg w n v) f tt g → OnFile Unit (conclude op w (InRegister n) v) f tt g
  unfolding conclude deposit
  keeps Add z h = h
  keeps Or z h = h
  keeps Addc z h = h
  keeps Subc z h = h
  keeps And z h = h
  keeps Sub z h = h
  keeps Xor z h = h
  keeps Cmp z h = absurd (z refl)

-- with both operands at hand
pub settles : (op : Operation) (w : Bool) (s : Spot) (a b : ℕ) (x : Flagged) (f g : List ℕ) → x ≡ flagged (operated op w a b (flag_of (get_or f PSW 0) CY)) (get_or f PSW 0)
    → OnFile Unit (conclude op w s x.value) (set f PSW x.psw) tt g → OnFile Unit (settle op w s a b) f tt g
unfolding settle
settles op w s a b x f g e h =
    let o = operated op w a b (flag_of (get_or f PSW 0) CY) in
    let z : OnFile Result (operate op w a b) f o f = record { at = λ s ram rom tape log. operate_ends op w a b _ } in
    file_seq _ z (file_seq _ (file_affect o f x e) (rw (value_is o f x e) at h))

pub alu_to_is : (op : Operation) (w : Bool) (to a b : ℕ) (x : Flagged) (f g : List ℕ) → a ≡ read_reg w (file_of f) to → x ≡ flagged (operated op w a b (flag_of (get_or f PSW 0) CY)) (get_or f PSW 0)
    → OnFile Unit (conclude op w (InRegister to) x.value) (set f PSW x.psw) tt g → OnFile Unit (settle op w (InRegister to) (read_reg w (file_of f) to) b) f tt g
alu_to_is op w to a b x f g k e h = rw (← k) (settles op w (InRegister to) a b x f g e h)

two_is : (op : Operation) (w : Bool) (to from b : ℕ) (f g : List ℕ) → b ≡ read_reg w (file_of f) from
    → OnFile Unit (settle op w (InRegister to) (read_reg w (file_of f) to) b) f tt g → OnFile Unit (two op w (Register to) (Held (Register from))) f tt g
unfolding two settle locate fetch source_value value_at
two_is op w to from b f g q h = file_seq _ file_pure (file_seq _ (file_reg w to refl) (file_seq _ (file_seq _ file_pure (file_reg w from q)) h))

two_imm_is : (op : Operation) (w : Bool) (to b : ℕ) (f g : List ℕ) → OnFile Unit (settle op w (InRegister to) (read_reg w (file_of f) to) b) f tt g → OnFile Unit (two op w (Register to) (Immediate b)) f tt g
unfolding two settle locate fetch source_value
two_imm_is op w to b f g h = file_seq _ file_pure (file_seq _ (file_reg w to refl) (file_seq _ file_pure h))

one_is : (op : Unary) (w : Bool) (n a : ℕ) (x : Flagged) (f g : List ℕ) → a ≡ read_reg w (file_of f) n → x ≡ flagged (unary op w a) (get_or f PSW 0)
    → OnFile Unit (set_reg w n x.value) (set f PSW x.psw) tt g → OnFile Unit (one op w (Register n)) f tt g
unfolding one finish locate fetch deposit
one_is op w n a x f g q e h = let o = unary op w a in file_seq _ file_pure (file_seq _ (file_reg w n q) (file_seq _ (file_affect o f x e) (rw (value_is o f x e) at h)))

mov_reg_is : (w : Bool) (to from v : ℕ) (f g : List ℕ) → v ≡ read_reg w (file_of f) from → OnFile Unit (set_reg w to v) f tt g → OnFile Unit (mov w (Register to) (Held (Register from))) f tt g
unfolding mov locate fetch source_value value_at deposit
mov_reg_is w to from v f g q h = file_seq _ (file_seq _ file_pure (file_reg w from q)) (file_seq _ file_pure h)

mov_imm_is : (w : Bool) (n v : ℕ) (f g : List ℕ) → OnFile Unit (set_reg w n v) f tt g → OnFile Unit (mov w (Register n) (Immediate v)) f tt g
unfolding mov locate source_value deposit
mov_imm_is w n v f g h = file_seq _ file_pure (file_seq _ file_pure h)

-- ---- by fields

pub branch_if_is : (r d : ℕ) (f g : List ℕ) → d ≡ disp_of r → OnFile Unit (branch_if (cond_of r) d) f tt g → OnFile Unit (branch_if (cond_of r) (disp_of r)) f tt g
branch_if_is r d f g e h = rw (← e) h

module _ (r m n : ℕ) (w : Bool) (f g : List ℕ) where
  pub alu_rr_is : (op : Operation) (b : ℕ) → w ≡ word_of r → n ≡ reg_of r → b ≡ read_reg w (file_of f) n → op ≡ operation_at (op_of r) → m ≡ rm_of r
      → OnFile Unit (settle op w (InRegister m) (read_reg w (file_of f) m) b) f tt g
      → OnFile Unit (two (operation_at (op_of r)) (word_of r) (Register (rm_of r)) (Held (Register (reg_of r)))) f tt g
  alu_rr_is op b d k q e l h = rw (← d, ← k, ← e, ← l) (two_is op w m n b f g q h)

  pub mov_rr_is : (v : ℕ) → w ≡ word_of r → n ≡ reg_of r → v ≡ read_reg w (file_of f) n → m ≡ rm_of r → OnFile Unit (set_reg w m v) f tt g
      → OnFile Unit (mov (word_of r) (Register (rm_of r)) (Held (Register (reg_of r)))) f tt g
  mov_rr_is v d k q l h = rw (← d, ← k, ← l) (mov_reg_is w m n v f g q h)

  pub mov_ri_is : (v : ℕ) → w ≡ word_of r → m ≡ rm_of r → v ≡ imm_of r → OnFile Unit (set_reg w m v) f tt g → OnFile Unit (mov (word_of r) (Register (rm_of r)) (Immediate (imm_of r))) f tt g
  mov_ri_is v d l e h = rw (← d, ← l, ← e) (mov_imm_is w m v f g h)

  pub alu_ri_is : (op : Operation) (b : ℕ) → w ≡ word_of r → op ≡ operation_at (op_of r) → m ≡ rm_of r → b ≡ imm_of r → OnFile Unit (settle op w (InRegister m) (read_reg w (file_of f) m) b) f tt g
      → OnFile Unit (two (operation_at (op_of r)) (word_of r) (Register (rm_of r)) (Immediate (imm_of r))) f tt g
  alu_ri_is op b d e l q h = rw (← d, ← e, ← l, ← q) (two_imm_is op w m b f g h)

  pub one_r_is : (op : Unary) (a : ℕ) (x : Flagged) → op ≡ unary_at (op_of r) → w ≡ word_of r → m ≡ rm_of r → a ≡ read_reg w (file_of f) m → x ≡ flagged (unary op w a) (get_or f PSW 0)
      → OnFile Unit (set_reg w m x.value) (set f PSW x.psw) tt g → OnFile Unit (one (unary_at (op_of r)) (word_of r) (Register (rm_of r))) f tt g
  one_r_is op a x k d l q e h = rw (← k, ← d, ← l) (one_is op w m a x f g q e h)

  module _ (a b : ℕ) (wide : w ≡ word_of r) (left : m ≡ rm_of r) (first : a ≡ read_reg w (file_of f) m) (does : OnFile Unit (affect (logical w (bit_and a b)).column) f tt g) where
    pub test_rr_is : n ≡ reg_of r → b ≡ read_reg w (file_of f) n → OnFile Unit (test (word_of r) (Register (rm_of r)) (Held (Register (reg_of r)))) f tt g
    unfolding test value_at source_value locate fetch
    test_rr_is k q = rw (← wide, ← left, ← k) (file_seq _ (file_seq _ file_pure (file_reg w m first)) (file_seq _ (file_seq _ file_pure (file_reg w n q)) does))

    pub test_ri_is : b ≡ imm_of r → OnFile Unit (test (word_of r) (Register (rm_of r)) (Immediate (imm_of r))) f tt g
    unfolding test value_at source_value locate fetch
    test_ri_is q = rw (← wide, ← left, ← q) (file_seq _ (file_seq _ file_pure (file_reg w m first)) (file_seq _ file_pure does))

pub test_flags : (w : Bool) (a b : ℕ) (x : Flagged) (f : List ℕ) → x ≡ flagged (logical w (bit_and a b)) (get_or f PSW 0) → OnFile Unit (affect (logical w (bit_and a b)).column) f tt (set f PSW x.psw)
test_flags w a b x f e = file_affect (logical w (bit_and a b)) f x e

module _ (r d : ℕ) (f g : List ℕ) (disp : d ≡ disp_of r) where
  pub br_is : OnFile Unit (jump d) f tt g → OnFile Unit (jump (disp_of r)) f tt g
  br_is h = rw (← disp) h

  pub dbnz_goes : (x : ℕ) → x ≡ sub16 (get_or f CW 0) 1 → (x ≡ 0 → ⊥) → OnFile Unit (jump d) (set f CW x) tt g → OnFile Unit (dbnz (disp_of r)) f tt g
  dbnz_goes x e z h = rw (← disp) (dbnz_is f g (set f CW x) d _ (counts f g f d x e) (jumps (set f CW x) g f d _ (rw (ne_eqb x 0 z)) h))

pub dbnz_ends : (r x : ℕ) (f : List ℕ) → x ≡ sub16 (get_or f CW 0) 1 → x ≡ 0 → OnFile Unit (dbnz (disp_of r)) f tt (set f CW x)
dbnz_ends r x f e z = dbnz_is f (set f CW x) (set f CW x) (disp_of r) _ (counts f f f (disp_of r) x e) (stays (set f CW x) f f (disp_of r) _ (rw (eq-eqb x 0 z)))
