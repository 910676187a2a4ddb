-- What each instruction comes to, from what its parts come to.
use Prim.Native.Nat.{ℕ}
use mathlib.Core.Path.{◌≡◌}
use mathlib.Core.Bool.{true}
use mathlib.Core.List.{List}
use lib.ListN.{get_or, set}
use Rattle.sheet.specs.declared.Bus.{Bus}
use Rattle.sheet.specs.declared.Address.{Address}
use Rattle.sheet.specs.declared.Place.{Place}
use Rattle.sheet.specs.declared.Branch.{Branch}
use Rattle.sheet.specs.Width.{add16}
use Rattle.sheet.specs.Registers.{SP, PC, file_of}
use Rattle.sheet.specs.Handler.{nothing, ◌⊕◌}
use Rattle.sheet.specs.Operand.{base_of, offset_of, value_at}
use Rattle.sheet.specs.Traps.{pop, pop_into, jump_far}
use Rattle.sheet.specs.Branch.{release, ret, ret_pop, ret_far, ret_far_pop, br_to, br_far_at, branch}
use Rattle.sheet.specs.Contract.{OnFile, OnMemory}
use Rattle.sheet.proofs.Lifted.{file_known, file_seq, file_registers, file_set, memory_seq, memory_free, memory_last, on_memory}
use Rattle.mach_memory.specs.Accesses.{Loads}

module _ (f g h ram rom : List ℕ) where
  pub release_is : (size x : ℕ) → x ≡ add16 (get_or f SP 0) size → OnFile Unit (release size) f tt (set f SP x)
  unfolding release
  release_is size x e = file_seq _ file_registers (rw (← e) (file_set SP x))

  pub ret_is : (v : ℕ) (n : Bus) → OnMemory ℕ pop f ram rom v g ram n 2 → OnMemory Unit ret f ram rom tt (set g PC v) ram n 2
  unfolding ret pop_into
  ret_is v n p = memory_last _ p (file_set PC v)

  pub ret_pop_is : (size : ℕ) (n : Bus) → OnMemory Unit ret f ram rom tt h ram n 2 → OnFile Unit (release size) h tt g → OnMemory Unit (ret_pop size) f ram rom tt g ram n 2
  unfolding ret_pop
  ret_pop_is size n p q = memory_last _ p q

  pub ret_far_is : (v w : ℕ) (h₁ : List ℕ) (n m : Bus) → OnMemory ℕ pop f ram rom v h₁ ram n 2 → OnMemory ℕ pop h₁ ram rom w h ram m 2 → OnFile Unit (jump_far w v) h tt g
      → OnMemory Unit ret_far f ram rom tt g ram (n ⊕ m) 4
  unfolding ret_far
  ret_far_is v w h₁ n m p q k = memory_seq _ {t = 2} {u = 2} p (memory_last _ q k)

  pub ret_far_pop_is : (size : ℕ) (n : Bus) → OnMemory Unit ret_far f ram rom tt h ram n 4 → OnFile Unit (release size) h tt g → OnMemory Unit (ret_far_pop size) f ram rom tt g ram n 4
  unfolding ret_far_pop
  ret_far_pop_is size n p q = memory_last _ p q

  pub br_to_is : (to : Place) (v : ℕ) (n : Bus) → OnMemory ℕ (value_at true to) f ram rom v f ram n 2 → OnMemory Unit (br_to to) f ram rom tt (set f PC v) ram n 2
  unfolding br_to
  br_to_is to v n p = memory_last _ p (file_set PC v)

  pub br_far_at_is : (a : Address) (b o next ps pc : ℕ) (n m : Bus) → b ≡ base_of (file_of f) a → o ≡ offset_of (file_of f) a → next ≡ add16 o 2 → Loads true ram rom b next ps n
      → Loads true ram rom b o pc m → OnFile Unit (jump_far ps pc) f tt g → OnMemory Unit (br_far_at a) f ram rom tt g ram (n ⊕ m) 4
  unfolding br_far_at
  br_far_at_is a b o next ps pc n m e q z p r k =
      memory_free _ file_registers (rw (← e, ← q, ← z) (memory_seq _ {t = 2} {u = 2} (p.at f) (memory_last _ (r.at f) k)))

pub jump_known : (i j : Branch) (f g ram rom : List ℕ) → i ≡ j → OnFile Unit (branch j) f tt g → OnMemory Unit (branch i) f ram rom tt g ram nothing 8
jump_known i j f g ram rom e h = on_memory ram rom 8 (file_known branch e h)
