-- What each instruction comes to, from what its parts come to.
use Prim.Native.Nat.{ℕ}
use mathlib.Core.Path.{◌≡◌, refl}
use mathlib.Core.Bool.{Bool}
use mathlib.Core.List.{List}
use lib.Bits.{bit_and}
use lib.Dec.{lit≤}
use lib.ListN.{get_or, set}
use Rattle.sheet.specs.declared.Bus.{Bus}
use Rattle.sheet.specs.declared.Flagged.{Flagged}
use Rattle.sheet.specs.declared.Operation.{Operation}
use Rattle.sheet.specs.declared.Operation.TheVariants.{Add, Or, Addc, Subc, And, Sub, Xor, Cmp}
use Rattle.sheet.specs.declared.Unary.{Unary}
use Rattle.sheet.specs.declared.Place.{Place}
use Rattle.sheet.specs.declared.Source.{Source}
use Rattle.sheet.specs.declared.Spot.{Spot}
use Rattle.sheet.specs.Psw.{CY, flag_of}
use Rattle.sheet.specs.Registers.{PSW}
use Rattle.sheet.specs.Handler.{nothing, ◌⊕◌}
use Rattle.sheet.specs.Operand.{locate, fetch, deposit, value_at, source_value}
use Rattle.sheet.specs.Arithmetic.{Result, logical, unary, operate, conclude, two, one, test, finish}
use Rattle.sheet.specs.Contract.{OnFile, OnMemory, flagged}
use Rattle.sheet.proofs.Lifted.{file_pure, memory_seq, memory_free, memory_last, memory_at_most, on_memory}
use Rattle.calc_psw.proofs.Results.{file_affect, value_is}
use Rattle.calc_arith.specs.Operate.{operated}
use Rattle.calc_arith.proofs.OperateLaws.{operate_ends}

-- what the operation hands on, from the CY of PSW
operate_file : (op : Operation) (w : Bool) (a b : ℕ) (f : List ℕ) → OnFile Result (operate op w a b) f (operated op w a b (flag_of (get_or f PSW 0) CY)) f
operate_file op w a b f = record { at = λ s ram rom tape log. operate_ends op w a b _ }

module _ (f g ram ram' rom : List ℕ) where
  -- any but CMP
  pub concludes : (op : Operation) (w : Bool) (s : Spot) (v : ℕ) (n : Bus) → (op ≡ Cmp → ⊥) → OnMemory Unit (deposit w s v) f ram rom tt g ram' n 2 → OnMemory Unit (conclude op w s v) f ram rom tt g ram' n 2
  unfolding conclude
  concludes Add w s v n e h = h
  concludes Or w s v n e h = h
  concludes Addc w s v n e h = h
  concludes Subc w s v n e h = h
  concludes And w s v n e h = h
  concludes Sub w s v n e h = h
  concludes Xor w s v n e h = h
  concludes Cmp w s v n e h = absurd (e refl)

  pub drops_cmp : (op : Operation) (w : Bool) (s : Spot) (v : ℕ) → op ≡ Cmp → OnMemory Unit (conclude op w s v) f ram rom tt f ram nothing 2
  unfolding conclude
  drops_cmp op w s v e = rw e (on_memory ram rom 2 file_pure)

  pub two_is : (op : Operation) (w : Bool) (to : Place) (from : Source) (s : Spot) (a b : ℕ) (x : Flagged) (n m k : Bus) → OnFile Spot (locate to) f s f
      → OnMemory ℕ (fetch w s) f ram rom a f ram n 2 → OnMemory ℕ (source_value w from) f ram rom b f ram m 2 → x ≡ flagged (operated op w a b (flag_of (get_or f PSW 0) CY)) (get_or f PSW 0)
      → OnMemory Unit (conclude op w s x.value) (set f PSW x.psw) ram rom tt g ram' k 2 → OnMemory Unit (two op w to from) f ram rom tt g ram' (n ⊕ (m ⊕ k)) 6
  unfolding two
  two_is op w to from s a b x n m k p q r e h =
      let o = operated op w a b (flag_of (get_or f PSW 0) CY) in
      memory_free _ p (memory_seq _ {t = 2} {u = 4} q
      (memory_seq _ {t = 2} {u = 2} r (memory_free _ (operate_file op w a b f) (memory_free _ (file_affect o f x e) (rw (value_is o f x e) at h)))))

  pub one_is : (op : Unary) (w : Bool) (to : Place) (s : Spot) (a : ℕ) (x : Flagged) (n m : Bus) → OnFile Spot (locate to) f s f → OnMemory ℕ (fetch w s) f ram rom a f ram n 2
      → x ≡ flagged (unary op w a) (get_or f PSW 0) → OnMemory Unit (deposit w s x.value) (set f PSW x.psw) ram rom tt g ram' m 2 → OnMemory Unit (one op w to) f ram rom tt g ram' (n ⊕ m) 6
  unfolding one finish
  one_is op w to s a x n m p q e h =
      let o = unary op w a in
      memory_at_most {t = 4} 6 (lit≤ tt) (memory_free _ p (memory_seq _ {t = 2} {u = 2} q (memory_free _ (file_affect o f x e) (rw (value_is o f x e) at h))))

  pub test_is : (w : Bool) (left : Place) (right : Source) (a b : ℕ) (x : Flagged) (n m : Bus) → OnMemory ℕ (value_at w left) f ram rom a f ram n 2 → OnMemory ℕ (source_value w right) f ram rom b f ram m 2
      → x ≡ flagged (logical w (bit_and a b)) (get_or f PSW 0) → OnMemory Unit (test w left right) f ram rom tt (set f PSW x.psw) ram (n ⊕ m) 6
  unfolding test
  test_is w left right a b x n m p q e =
      memory_at_most {t = 4} 6 (lit≤ tt) (memory_seq _ {t = 2} {u = 2} p (memory_last _ q (file_affect (logical w (bit_and a b)) f x e)))
