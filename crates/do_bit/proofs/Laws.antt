-- What each instruction comes to, from what its parts come to.
use Prim.Native.Nat.{ℕ}
use mathlib.Core.Path.{◌≡◌}
use mathlib.Core.Bool.{Bool, not}
use mathlib.Core.List.{List}
use lib.ListN.{get_or, set}
use Rattle.sheet.specs.declared.Amount.{Amount}
use Rattle.sheet.specs.declared.Bit.{Bit}
use Rattle.sheet.specs.declared.Bit.TheVariants.{Test1, Not1}
use Rattle.sheet.specs.declared.Bus.{Bus}
use Rattle.sheet.specs.declared.Place.{Place}
use Rattle.sheet.specs.declared.Spot.{Spot}
use Rattle.sheet.specs.Psw.{keeps, column, settled}
use Rattle.sheet.specs.Registers.{PSW}
use Rattle.sheet.specs.Handler.{nothing, ◌⊕◌}
use Rattle.sheet.specs.Operand.{locate, fetch, deposit, amount_of}
use Rattle.sheet.specs.Bits.{bit_number, bit_at, with_bit, bit_column, bit_done, bits}
use Rattle.sheet.specs.Contract.{OnFile, OnMemory}
use Rattle.sheet.proofs.Lifted.{file_flags, memory_seq, memory_free, on_memory}

module _ (f g ram ram' rom : List ℕ) (w : Bool) (s : Spot) (x : ℕ) (n : Bus) where
  pub written_is : (i v : ℕ) (b : Bool) → v ≡ with_bit x (bit_number w i) b → OnMemory Unit (deposit w s v) f ram rom tt g ram' n 2
      → OnMemory Unit (deposit w s (with_bit x (bit_number w i) b)) f ram rom tt g ram' n 2
  written_is i v b e h = rw e at h

  module _ (op : Bit) (i : ℕ) where
    pub bit_known : (o : Bit) → op ≡ o → OnMemory Unit (bit_done o w s x i) f ram rom tt g ram' n 2 → OnMemory Unit (bit_done op w s x i) f ram rom tt g ram' n 2
    bit_known o e h = rw e h

    pub at_not : (b : Bool) → op ≡ Not1 → b ≡ bit_at x i → OnMemory Unit (deposit w s (with_bit x i (not b))) f ram rom tt g ram' n 2 → OnMemory Unit (bit_done op w s x i) f ram rom tt g ram' n 2
    unfolding bit_done
    at_not b e q h = rw e (rw q at h)

module _ (f ram rom : List ℕ) (op : Bit) (w : Bool) where
  pub at_test : (s : Spot) (x i y : ℕ) → op ≡ Test1 → y ≡ settled keeps (column (bit_column x i)) (get_or f PSW 0) → OnMemory Unit (bit_done op w s x i) f ram rom tt (set f PSW y) ram nothing 2
  unfolding bit_done
  at_test s x i y e q = rw e (on_memory ram rom 2 (file_flags (column (bit_column x i)) q))

  pub bits_is : (to : Place) (a : Amount) (s : Spot) (x i : ℕ) (g ram' : List ℕ) (n m : Bus) → OnFile ℕ (amount_of a) f i f → OnFile Spot (locate to) f s f → OnMemory ℕ (fetch w s) f ram rom x f ram n 2
      → OnMemory Unit (bit_done op w s x (bit_number w i)) f ram rom tt g ram' m 2 → OnMemory Unit (bits op w to a) f ram rom tt g ram' (n ⊕ m) 4
  unfolding bits
  bits_is to a s x i g ram' n m c p q h = memory_free _ c (memory_free _ p (memory_seq _ {t = 2} {u = 2} q h))
