-- What each instruction comes to, from what its parts come to.
use Prim.Native.Nat.{ℕ, ◌+◌, ◌*◌, ◌/◌, ◌%◌}
use mathlib.Core.Path.{◌≡◌, refl}
use mathlib.Core.Bool.{true, false}
use mathlib.Core.List.{List}
use lib.ListN.{get_or, set}
use Rattle.sheet.specs.declared.Bus.{Bus}
use Rattle.sheet.specs.Width.{wrap_of, add16, sub16}
use Rattle.sheet.specs.Psw.{column, keeps, settled}
use Rattle.sheet.specs.Registers.{AW, BW, BP, AL, DS0, PSW, file_of, read_reg}
use Rattle.sheet.specs.Handler.{◌⊕◌}
use Rattle.sheet.specs.Operand.{set_reg}
use Rattle.sheet.specs.Transfer.{flags_of_byte}
use Rattle.sheet.specs.CardStack.{card_push, card_pop, push_pair, pop_pair, push_al_psw, pop_al_psw, xthl}
use Rattle.sheet.specs.Contract.{OnFile, OnMemory}
use Rattle.sheet.proofs.Lifted.{file_seq, file_pure, file_registers, file_set, file_psw, file_flags, memory_seq, memory_free, memory_last}
use Rattle.mach_registers.proofs.Laws.{file_reg}
use Rattle.mach_memory.specs.Accesses.{Loads, Stores}

module _ (f ram rom : List ℕ) where
  pub push_is : (ram' : List ℕ) (v bp ds0 : ℕ) (n : Bus) → bp ≡ sub16 (get_or f BP 0) 2 → ds0 ≡ get_or f DS0 0 → Stores true ram ds0 bp v ram' n → OnMemory Unit (card_push v) f ram rom tt (set f BP bp) ram' n 2
  unfolding card_push
  push_is ram' v bp ds0 n e q h = memory_free _ file_registers (rw (← e, ← q) (memory_free _ (file_set BP bp) (h.at (set f BP bp) rom)))

  pub pop_is : (v bp ds0 next : ℕ) (n : Bus) → bp ≡ get_or f BP 0 → ds0 ≡ get_or f DS0 0 → next ≡ add16 bp 2 → Loads true ram rom ds0 bp v n → OnMemory ℕ card_pop f ram rom v (set f BP next) ram n 2
  unfolding card_pop
  pop_is v bp ds0 next n e q z h = memory_free _ file_registers (rw (← e, ← q, ← z) (memory_last _ (h.at f) (file_seq _ (file_set BP next) file_pure)))

  pub push_pair_is : (g ram' : List ℕ) (pair x : ℕ) (n : Bus) → x ≡ read_reg true (file_of f) pair → OnMemory Unit (card_push x) f ram rom tt g ram' n 2 → OnMemory Unit (push_pair pair) f ram rom tt g ram' n 2
  unfolding push_pair
  push_pair_is g ram' pair x n e h = memory_free _ (file_reg true pair e) h

  pub pop_pair_is : (g h : List ℕ) (pair v : ℕ) (n : Bus) → OnMemory ℕ card_pop f ram rom v g ram n 2 → OnFile Unit (set_reg true pair v) g tt h → OnMemory Unit (pop_pair pair) f ram rom tt h ram n 2
  unfolding pop_pair
  pop_pair_is g h pair v n p q = memory_last _ p q

  pub push_psw_is : (g ram' : List ℕ) (n : Bus) → OnMemory Unit (card_push (get_or f AW 0 % 256 * 256 + get_or f PSW 0 % 256)) f ram rom tt g ram' n 2 → OnMemory Unit push_al_psw f ram rom tt g ram' n 2
  unfolding push_al_psw read_reg wrap_of
  push_psw_is g ram' n h = memory_free _ (file_reg false AL refl) (memory_free _ (file_psw false) h)

  pub pop_psw_is : (g h : List ℕ) (v x : ℕ) (n : Bus) → OnMemory ℕ card_pop f ram rom v g ram n 2 → x ≡ settled keeps (column (flags_of_byte (v % 256))) (get_or g PSW 0)
      → OnFile Unit (set_reg false AL (v / 256)) (set g PSW x) tt h → OnMemory Unit pop_al_psw f ram rom tt h ram n 2
  unfolding pop_al_psw
  pop_psw_is g h v x n p e q = memory_last _ p (file_seq _ (file_flags (column (flags_of_byte (v % 256))) e) q)

  pub xthl_is : (ram' : List ℕ) (ds0 bp bw v : ℕ) (n m : Bus) → ds0 ≡ get_or f DS0 0 → bp ≡ get_or f BP 0 → bw ≡ get_or f BW 0 → Loads true ram rom ds0 bp v n → Stores true ram ds0 bp bw ram' m
      → OnMemory Unit xthl f ram rom tt (set f BW v) ram' (n ⊕ m) 4
  unfolding xthl
  xthl_is ram' ds0 bp bw v n m e q z h k =
      memory_free _ file_registers (rw (← e, ← q, ← z) (memory_seq _ {t = 2} {u = 2} (h.at f) (memory_last _ (k.at f rom) (file_set BW v))))
