-- What each instruction comes to, from what its parts come to.
use Prim.Native.Nat.{ℕ}
use mathlib.Core.Path.{◌≡◌}
use mathlib.Core.Bool.{true}
use mathlib.Core.List.{List}
use lib.ListN.{get_or, set}
use Rattle.sheet.specs.declared.Bus.{Bus}
use Rattle.sheet.specs.declared.Address.{Address}
use Rattle.sheet.specs.declared.Place.TheVariants.{Register, Memory}
use Rattle.sheet.specs.Registers.{PC, file_of, read_reg}
use Rattle.sheet.specs.Handler.{◌⊕◌}
use Rattle.sheet.specs.Operand.{value_at, pair_at}
use Rattle.sheet.specs.Traps.{push, push_ps_pc, jump_far}
use Rattle.sheet.specs.Branch.{jump, push_pc, call_near, call_to, call_far, call_far_at}
use Rattle.sheet.specs.Contract.{OnFile, OnMemory}
use Rattle.sheet.proofs.Lifted.{file_seq, file_registers, file_set, memory_seq, memory_free, memory_last}
use Rattle.mach_registers.proofs.Laws.{file_reg}

module _ (f g ram ram' rom : List ℕ) where
  pub push_pc_is : (pc : ℕ) (n : Bus) → pc ≡ get_or f PC 0 → OnMemory Unit (push pc) f ram rom tt g ram' n 2 → OnMemory Unit push_pc f ram rom tt g ram' n 2
  unfolding push_pc
  push_pc_is pc n e h = memory_free _ file_registers (rw (← e) h)

  pub call_near_is : (disp : ℕ) (h : List ℕ) (n : Bus) → OnMemory Unit push_pc f ram rom tt h ram' n 2 → OnFile Unit (jump disp) h tt g → OnMemory Unit (call_near disp) f ram rom tt g ram' n 2
  unfolding call_near
  call_near_is disp h n p q = memory_last _ p q

  pub call_register_is : (r x : ℕ) (n : Bus) → OnMemory Unit push_pc f ram rom tt g ram' n 2 → x ≡ read_reg true (file_of g) r
      → OnMemory Unit (call_to (Register r)) f ram rom tt (set g PC x) ram' n 2
  unfolding call_to
  call_register_is r x n p e = memory_last _ p (file_seq _ (file_reg true r e) (file_set PC x))

  pub call_held_is : (a : Address) (v : ℕ) (n m : Bus) → OnMemory ℕ (value_at true (Memory a)) f ram rom v f ram n 2 → OnMemory Unit push_pc f ram rom tt g ram' m 2
      → OnMemory Unit (call_to (Memory a)) f ram rom tt (set g PC v) ram' (n ⊕ m) 4
  unfolding call_to
  call_held_is a v n m p q = memory_seq _ {t = 2} {u = 2} p (memory_last _ q (file_set PC v))

  pub call_far_is : (ps pc : ℕ) (h : List ℕ) (n : Bus) → OnMemory Unit push_ps_pc f ram rom tt h ram' n 4 → OnFile Unit (jump_far ps pc) h tt g → OnMemory Unit (call_far ps pc) f ram rom tt g ram' n 4
  unfolding call_far
  call_far_is ps pc h n p k = memory_last _ p k

  pub call_far_at_is : (at : Address) (x y : ℕ) (n m : Bus) → OnMemory (ℕ × ℕ) (pair_at at) f ram rom ((x, y)) f ram n 4 → OnMemory Unit (call_far y x) f ram rom tt g ram' m 4
      → OnMemory Unit (call_far_at at) f ram rom tt g ram' (n ⊕ m) 8
  unfolding call_far_at
  call_far_at_is at x y n m p q = memory_seq _ {t = 4} {u = 4} p q
