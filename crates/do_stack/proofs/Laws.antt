-- What each instruction comes to, from what its parts come to.
use Prim.Native.Nat.{ℕ, ◌<◌}
use mathlib.Core.Path.{◌≡◌}
use mathlib.Core.Bool.{true}
use mathlib.Core.List.{List}
use lib.ListN.{get_or, set}
use Rattle.sheet.specs.declared.Bus.{Bus}
use Rattle.sheet.specs.declared.Address.{Address}
use Rattle.sheet.specs.declared.Place.{Place}
use Rattle.sheet.specs.declared.Place.TheVariants.{Memory}
use Rattle.sheet.specs.declared.Spot.{Spot}
use Rattle.sheet.specs.Width.{sub16}
use Rattle.sheet.specs.Registers.{SP, SS, PSW, file_of, segment, read_reg}
use Rattle.sheet.specs.Act.{◌≔◌}
use Rattle.sheet.specs.Handler.{◌⊕◌}
use Rattle.sheet.specs.Operand.{locate, deposit, value_at}
use Rattle.sheet.specs.Traps.{push, pop, pop_into, push_psw}
use Rattle.sheet.specs.Stack.{push_register, push_place, push_segment, pop_place, pop_segment}
use Rattle.sheet.specs.Contract.{OnFile, OnMemory}
use Rattle.sheet.proofs.Lifted.{file_registers, file_set, file_psw, memory_seq, memory_free, memory_last}
use Rattle.calc_word.proofs.WidthLaws.{wrap_id}
use Rattle.mach_memory.specs.Accesses.{Stores}

module _ (f g ram ram' rom : List ℕ) where
  pub push_register_is : (n x ss sp v : ℕ) (m : Bus) → x ≡ sub16 (get_or f SP 0) 2 → ss ≡ get_or (set f SP x) SS 0 → sp ≡ get_or (set f SP x) SP 0 → v ≡ read_reg true (file_of (set f SP x)) n
      → Stores true ram ss sp v ram' m → OnMemory Unit (push_register n) f ram rom tt (set f SP x) ram' m 2
  unfolding push_register read_reg
  push_register_is n x ss sp v m e q k z h =
      memory_free _ file_registers (rw (← e) (memory_free _ (file_set SP x) (memory_free _ file_registers (rw (← z, ← q, ← k) (h.at (set f SP x) rom)))))

  pub push_held_is : (a : Address) (v : ℕ) (n m : Bus) → OnMemory ℕ (value_at true (Memory a)) f ram rom v f ram n 2 → OnMemory Unit (push v) f ram rom tt g ram' m 2
      → OnMemory Unit (push_place (Memory a)) f ram rom tt g ram' (n ⊕ m) 4
  unfolding push_place
  push_held_is a v n m p q = memory_seq _ {t = 2} {u = 2} p q

  pub push_segment_is : (seg v : ℕ) (n : Bus) → v ≡ file_of f (segment seg) → OnMemory Unit (push v) f ram rom tt g ram' n 2 → OnMemory Unit (push_segment seg) f ram rom tt g ram' n 2
  unfolding push_segment
  push_segment_is seg v n e h = memory_free _ file_registers (rw (← e) h)

  pub push_psw_is : (x : ℕ) (n : Bus) → x ≡ get_or f PSW 0 → x < 65536 → OnMemory Unit (push x) f ram rom tt g ram' n 2 → OnMemory Unit push_psw f ram rom tt g ram' n 2
  unfolding push_psw
  push_psw_is x n e l h = memory_free _ (file_psw true) (rw (← e, wrap_id true x l) h)

  pub pop_place_is : (to : Place) (v : ℕ) (s : Spot) (h : List ℕ) (n m : Bus) → OnMemory ℕ pop f ram rom v h ram n 2 → OnFile Spot (locate to) h s h
      → OnMemory Unit (deposit true s v) h ram rom tt g ram' m 2 → OnMemory Unit (pop_place to) f ram rom tt g ram' (n ⊕ m) 4
  unfolding pop_place
  pop_place_is to v s h n m p q k = memory_seq _ {t = 2} {u = 2} p (memory_free _ q k)

  pub pop_segment_is : (seg v : ℕ) (h : List ℕ) (n : Bus) → OnMemory ℕ pop f ram rom v h ram n 2 → OnFile Unit (segment seg ≔ v) h tt g → OnMemory Unit (pop_segment seg) f ram rom tt g ram n 2
  unfolding pop_segment pop_into
  pop_segment_is seg v h n p q = memory_last _ p q
