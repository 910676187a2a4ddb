-- What each instruction comes to, from what its parts come to.
use Prim.Native.Nat.{ℕ}
use mathlib.Core.Path.{◌≡◌, refl}
use mathlib.Core.Bool.{Bool, true, false}
use mathlib.Core.List.{List}
use lib.Dec.{lit≤}
use lib.ListN.{get_or, set}
use Rattle.sheet.specs.declared.Bus.{Bus}
use Rattle.sheet.specs.declared.Flagged.{Flagged}
use Rattle.sheet.specs.declared.Operation.{Operation}
use Rattle.sheet.specs.declared.Operation.TheVariants.{Add, Or, Addc, Subc, And, Sub, Xor, Cmp}
use Rattle.sheet.specs.declared.Unary.TheVariants.{Not}
use Rattle.sheet.specs.declared.Place.{Place}
use Rattle.sheet.specs.declared.Source.{Source}
use Rattle.sheet.specs.declared.Shift.{Shift}
use Rattle.sheet.specs.declared.Turn.{Turn}
use Rattle.sheet.specs.declared.Spot.{Spot}
use Rattle.sheet.specs.declared.Spot.TheVariants.{InRegister}
use Rattle.sheet.specs.Psw.{AC, CY, flag_of, blank, only, keeps, settled}
use Rattle.sheet.specs.Registers.{BW, AL, DS0, PSW, file_of, read_reg}
use Rattle.sheet.specs.Handler.{nothing, ◌⊕◌}
use Rattle.sheet.specs.Operand.{locate, fetch, deposit, source_value, set_reg}
use Rattle.sheet.specs.Arithmetic.{Result, added, carry, unary, finish, conclude, one}
use Rattle.sheet.specs.Shift.{turn, one_place, rotated, carry_in}
use Rattle.sheet.specs.CardArithmetic.{daa_result, card_two, changing, counting, dad, rotate, daa, cma}
use Rattle.sheet.specs.CardPoint.{ldax, stax}
use Rattle.sheet.specs.Contract.{OnFile, OnMemory, flagged}
use Rattle.sheet.proofs.Lifted.{file_seq, file_pure, file_registers, file_flag, file_flags, memory_seq, memory_free, memory_last, memory_at_most, on_memory}
use Rattle.mach_registers.proofs.Laws.{file_reg}
use Rattle.mach_memory.specs.Accesses.{Loads, Stores}
use Rattle.calc_psw.proofs.Results.{file_affect, value_is}
use Rattle.calc_shift.specs.Carry.{carried}
use Rattle.calc_shift.proofs.CarryLaws.{carry_ends}
use Rattle.calc_8080.specs.CardOperate.{card_operated}
use Rattle.calc_8080.proofs.Laws.{operate_file}

module _ (f g : List ℕ) where
  -- any but CMP
  pub concludes : (op : Operation) (v : ℕ) → (op ≡ Cmp → ⊥) → OnFile Unit (set_reg false AL v) f tt g → OnFile Unit (conclude op false (InRegister AL) v) f tt g
  unfolding conclude deposit
  concludes Add v e h = h
  concludes Or v e h = h
  concludes Addc v e h = h
  concludes Subc v e h = h
  concludes And v e h = h
  concludes Sub v e h = h
  concludes Xor v e h = h
  concludes Cmp v e h = absurd (e refl)

  pub drops_cmp : (op : Operation) (v : ℕ) → op ≡ Cmp → OnFile Unit (conclude op false (InRegister AL) v) f tt f
  unfolding conclude
  drops_cmp op v e = rw e file_pure

  -- AL becomes a result
  set_al : (r : Result) (x : Flagged) → x ≡ flagged r (get_or f PSW 0) → OnFile Unit (set_reg false AL x.value) (set f PSW x.psw) tt g → OnFile Unit (finish false (InRegister AL) r) f tt g
  unfolding finish deposit
  set_al r x q h = file_seq _ (file_affect r f x q) (rw (value_is r f x q) at h)

  module _ (ram rom : List ℕ) where
    pub two_is : (op : Operation) (from : Source) (a b : ℕ) (x : Flagged) (n : Bus) → a ≡ read_reg false (file_of f) AL → OnMemory ℕ (source_value false from) f ram rom b f ram n 2
        → x ≡ flagged (card_operated op a b (flag_of (get_or f PSW 0) CY)) (get_or f PSW 0) → OnFile Unit (conclude op false (InRegister AL) x.value) (set f PSW x.psw) tt g
        → OnMemory Unit (card_two op from) f ram rom tt g ram n 4
    unfolding card_two
    two_is op from a b x n e p q h =
        let o = card_operated op a b (flag_of (get_or f PSW 0) CY) in
        memory_at_most {t = 2} 4 (lit≤ tt) (memory_free _ (file_reg false AL e) (memory_last _ p (file_seq _ (operate_file op a b f) (file_seq _ (file_affect o f x q) (rw (value_is o f x q) at h)))))

    pub changing_is : (u : ℕ → Result) (to : Place) (s : Spot) (a : ℕ) (x : Flagged) (ram' : List ℕ) (n m : Bus) → OnFile Spot (locate to) f s f → OnMemory ℕ (fetch false s) f ram rom a f ram n 2
        → x ≡ flagged (u a) (get_or f PSW 0) → OnMemory Unit (deposit false s x.value) (set f PSW x.psw) ram rom tt g ram' m 2 → OnMemory Unit (changing u to) f ram rom tt g ram' (n ⊕ m) 4
    unfolding changing finish
    changing_is u to s a x ram' n m p q e h = memory_free _ p (memory_seq _ {t = 2} {u = 2} q (memory_free _ (file_affect (u a) f x e) (rw (value_is (u a) f x e) at h)))

    pub counting_is : (u : ℕ → ℕ) (pair x y : ℕ) → x ≡ read_reg true (file_of f) pair → y ≡ u x → OnFile Unit (set_reg true pair y) f tt g → OnMemory Unit (counting u pair) f ram rom tt g ram nothing 4
    unfolding counting
    counting_is u pair x y e q h = on_memory ram rom 4 (file_seq _ (file_reg true pair e) (rw q at h))

    pub dad_is : (pair x y p : ℕ) (t : Turn) → x ≡ read_reg true (file_of f) BW → y ≡ read_reg true (file_of f) pair → t ≡ turn (added true x y false) (carry true x y false)
        → p ≡ settled keeps (only CY t.cy) (get_or f PSW 0) → OnFile Unit (set_reg true BW t.value) (set f PSW p) tt g → OnMemory Unit (dad pair) f ram rom tt g ram nothing 4
    unfolding dad
    dad_is pair x y p t e q z w h =
        on_memory ram rom 4 (file_seq _ (file_reg true BW e) (file_seq _ (file_reg true pair q) (file_seq _ (file_flags (only CY (carry true x y false)) (rw z at w)) (rw z at h))))

    carry_is : (k : Shift) (c : Bool) → c ≡ carried k (flag_of (get_or f PSW 0) CY) → OnFile Bool (carry_in k) f c f
    carry_is k c e = rw e (record { at = λ s ram rom tape log. carry_ends k _ })

    pub rotate_is : (k : Shift) (a : ℕ) (c : Bool) (x : Flagged) → a ≡ read_reg false (file_of f) AL → c ≡ carried k (flag_of (get_or f PSW 0) CY) → x ≡ flagged (rotated (one_place k false (turn a c)) blank) (get_or f PSW 0)
        → OnFile Unit (set_reg false AL x.value) (set f PSW x.psw) tt g → OnMemory Unit (rotate k) f ram rom tt g ram nothing 4
    unfolding rotate
    rotate_is k a c x e q z h = on_memory ram rom 4 (file_seq _ (file_reg false AL e) (file_seq _ (carry_is k c q) (set_al (rotated (one_place k false (turn a c)) blank) x z h)))

    pub daa_is : (a : ℕ) (x : Flagged) → a ≡ read_reg false (file_of f) AL → x ≡ flagged (daa_result a (flag_of (get_or f PSW 0) AC) (flag_of (get_or f PSW 0) CY)) (get_or f PSW 0)
        → OnFile Unit (set_reg false AL x.value) (set f PSW x.psw) tt g → OnMemory Unit daa f ram rom tt g ram nothing 4
    unfolding daa
    daa_is a x e z h =
        on_memory ram rom 4 (file_seq _ (file_reg false AL e) (file_seq _ (file_flag AC refl) (file_seq _ (file_flag CY refl) (set_al (daa_result a (flag_of (get_or f PSW 0) AC) (flag_of (get_or f PSW 0) CY)) x z h))))

    pub cma_is : (a : ℕ) (x : Flagged) → a ≡ read_reg false (file_of f) AL → x ≡ flagged (unary Not false a) (get_or f PSW 0) → OnFile Unit (set_reg false AL x.value) (set f PSW x.psw) tt g → OnMemory Unit cma f ram rom tt g ram nothing 4
    unfolding cma one locate fetch
    cma_is a x e z h = on_memory ram rom 4 (file_seq _ file_pure (file_seq _ (file_reg false AL e) (set_al (unary Not false a) x z h)))

    pub ldax_is : (pair ds0 o v : ℕ) (n : Bus) → ds0 ≡ get_or f DS0 0 → o ≡ read_reg true (file_of f) pair → Loads false ram rom ds0 o v n → OnFile Unit (set_reg false AL v) f tt g → OnMemory Unit (ldax pair) f ram rom tt g ram n 2
    unfolding ldax
    ldax_is pair ds0 o v n e q h k = memory_free _ file_registers (rw (← e, ← q) (memory_last _ (h.at f) k))

pub stax_is : (f ram rom ram' : List ℕ) (pair ds0 o a : ℕ) (n : Bus) → ds0 ≡ get_or f DS0 0 → o ≡ read_reg true (file_of f) pair → a ≡ read_reg false (file_of f) AL → Stores false ram ds0 o a ram' n
    → OnMemory Unit (stax pair) f ram rom tt f ram' n 2
unfolding stax
stax_is f ram rom ram' pair ds0 o a n e q z h = memory_free _ file_registers (rw (← e, ← q, ← z) (h.at f rom))
