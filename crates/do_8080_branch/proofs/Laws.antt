-- What each instruction comes to, from what its parts come to.
use Prim.Native.Nat.{ℕ}
use mathlib.Core.Path.{◌≡◌}
use mathlib.Core.Bool.{Bool, true, false}
use mathlib.Core.List.{List}
use lib.ListN.{get_or, set}
use Rattle.sheet.specs.declared.Bus.{Bus}
use Rattle.sheet.specs.Registers.{BW, PC}
use Rattle.sheet.specs.Act.{Act}
use Rattle.sheet.specs.Handler.{nothing}
use Rattle.sheet.specs.Branch.{condition}
use Rattle.sheet.specs.CardStack.{card_push, card_pop}
use Rattle.sheet.specs.CardBranch.{jmp, card_call, card_ret, pchl, provided}
use Rattle.sheet.specs.Contract.{OnFile, OnMemory}
use Rattle.sheet.proofs.Lifted.{file_seq, file_pure, file_registers, file_set, memory_free, memory_last, memory_true, memory_false, on_memory}

module _ (f ram rom : List ℕ) where
  pub jmp_is : (to : ℕ) → OnMemory Unit (jmp to) f ram rom tt (set f PC to) ram nothing 2
  unfolding jmp
  jmp_is to = on_memory ram rom 2 (file_set PC to)

  pub pchl_is : OnMemory Unit pchl f ram rom tt (set f PC (get_or f BW 0)) ram nothing 2
  unfolding pchl
  pchl_is = on_memory ram rom 2 (file_seq _ file_registers (file_set PC (get_or f BW 0)))

  pub call_is : (g ram' : List ℕ) (pc to : ℕ) (n : Bus) → pc ≡ get_or f PC 0 → OnMemory Unit (card_push pc) f ram rom tt g ram' n 2 → OnMemory Unit (card_call to) f ram rom tt (set g PC to) ram' n 2
  unfolding card_call
  call_is g ram' pc to n e h = memory_free _ file_registers (rw (← e) (memory_last _ h (file_set PC to)))

  pub ret_is : (g : List ℕ) (v : ℕ) (n : Bus) → OnMemory ℕ card_pop f ram rom v g ram n 2 → OnMemory Unit card_ret f ram rom tt (set g PC v) ram n 2
  unfolding card_ret
  ret_is g v n h = memory_last _ h (file_set PC v)

  module _ (k : ℕ) (p : Act Unit) (b : Bool) (c : OnFile Bool (condition k) f b f) where
    pub provided_so : (g ram' : List ℕ) (n : Bus) → b ≡ true → OnMemory Unit p f ram rom tt g ram' n 2 → OnMemory Unit (provided k p) f ram rom tt g ram' n 2
    unfolding provided
    provided_so g ram' n e h = memory_free _ c (memory_true _ _ e h)

    pub provided_not : b ≡ false → OnMemory Unit (provided k p) f ram rom tt f ram nothing 2
    unfolding provided
    provided_not e = memory_free _ c (memory_false _ _ e (on_memory ram rom 2 file_pure))
