-- What each form comes to, from what its parts come to.
use Prim.Native.Nat.{ℕ, zero, suc, ◌≤◌, ◌<◌}
use mathlib.Core.Path.{◌≡◌}
use mathlib.Core.Bool.{Bool}
use mathlib.Core.List.{List}
use native.Mathlib.Omega.{arith}
use lib.ListN.{get_or, set}
use Rattle.sheet.specs.declared.Amount.{Amount}
use Rattle.sheet.specs.declared.Bus.{Bus}
use Rattle.sheet.specs.declared.Flagged.{Flagged}
use Rattle.sheet.specs.declared.Place.{Place}
use Rattle.sheet.specs.declared.Places.{Places}
use Rattle.sheet.specs.declared.Places.TheVariants.{One, Counted}
use Rattle.sheet.specs.declared.Shift.{Shift}
use Rattle.sheet.specs.declared.Spot.{Spot}
use Rattle.sheet.specs.Psw.{CY, flag_of}
use Rattle.sheet.specs.Registers.{PSW}
use Rattle.sheet.specs.Handler.{◌⊕◌}
use Rattle.sheet.specs.Operand.{locate, fetch, deposit, amount_of}
use Rattle.sheet.specs.Arithmetic.{Result, finish}
use Rattle.sheet.specs.Shift.{carry_in, shift_one, shift_many, shift_by, shift}
use Rattle.sheet.specs.Contract.{OnFile, OnMemory, flagged}
use Rattle.sheet.proofs.Lifted.{memory_seq, memory_free}
use Rattle.calc_psw.proofs.Results.{file_affect, value_is}
use Rattle.calc_shift.specs.Carry.{carried}
use Rattle.calc_shift.proofs.CarryLaws.{carry_ends}

carry_file : (k : Shift) (f : List ℕ) → OnFile Bool (carry_in k) f (carried k (flag_of (get_or f PSW 0) CY)) f
carry_file k f = record { at = λ s ram rom tape log. carry_ends k _ }

module _ (f g ram ram' rom : List ℕ) (k : Shift) (w : Bool) where
  finish_is : (s : Spot) (r : Result) (y : Flagged) (n : Bus) → y ≡ flagged r (get_or f PSW 0) → OnMemory Unit (deposit w s y.value) (set f PSW y.psw) ram rom tt g ram' n 2
      → OnMemory Unit (finish w s r) f ram rom tt g ram' n 2
  unfolding finish
  finish_is s r y n e h = memory_free _ (file_affect r f y e) (rw (value_is r f y e) at h)

  pub one_is : (to : Place) (s : Spot) (x : ℕ) (cy : Bool) (y : Flagged) (n m : Bus) → OnFile Spot (locate to) f s f → OnMemory ℕ (fetch w s) f ram rom x f ram n 2
      → cy ≡ carried k (flag_of (get_or f PSW 0) CY) → y ≡ flagged (shift_one k w x cy) (get_or f PSW 0)
      → OnMemory Unit (deposit w s y.value) (set f PSW y.psw) ram rom tt g ram' m 2 → OnMemory Unit (shift k w to One) f ram rom tt g ram' (n ⊕ m) 4
  unfolding shift
  one_is to s x cy y n m p q c e h =
      memory_free _ p (memory_seq _ {t = 2} {u = 2} q (memory_free _ (carry_file k f) (rw (← c) (finish_is s (shift_one k w x cy) y m e h))))

  module _ (s : Spot) (x : ℕ) (n : Bus) where
    pub no_places : (i : ℕ) → i < 1 → OnMemory Unit (deposit w s x) f ram rom tt g ram' n 2 → OnMemory Unit (shift_by k w s x i) f ram rom tt g ram' n 2
    unfolding shift_by
    no_places zero i h = h
    no_places (suc j) i h = absurd (omega arith)

    pub some_places : (i : ℕ) (cy : Bool) (y : Flagged) → 1 ≤ i → cy ≡ carried k (flag_of (get_or f PSW 0) CY) → y ≡ flagged (shift_many k w i x cy) (get_or f PSW 0)
        → OnMemory Unit (deposit w s y.value) (set f PSW y.psw) ram rom tt g ram' n 2 → OnMemory Unit (shift_by k w s x i) f ram rom tt g ram' n 2
    unfolding shift_by
    some_places zero cy y i c e h = absurd (omega arith)
    some_places (suc j) cy y i c e h = memory_free _ (carry_file k f) (rw (← c) (finish_is s (shift_many k w (suc j) x cy) y n e h))

  pub counted_is : (to : Place) (a : Amount) (s : Spot) (i x : ℕ) (n m : Bus) → OnFile ℕ (amount_of a) f i f → OnFile Spot (locate to) f s f → OnMemory ℕ (fetch w s) f ram rom x f ram n 2
      → OnMemory Unit (shift_by k w s x i) f ram rom tt g ram' m 2 → OnMemory Unit (shift k w to (Counted a)) f ram rom tt g ram' (n ⊕ m) 4
  unfolding shift
  counted_is to a s i x n m c p q h = memory_free _ c (memory_free _ p (memory_seq _ {t = 2} {u = 2} q h))

  pub places_known : (to : Place) (i j : Places) (n : Bus) → i ≡ j → OnMemory Unit (shift k w to j) f ram rom tt g ram' n 4 → OnMemory Unit (shift k w to i) f ram rom tt g ram' n 4
  places_known to i j n e h = rw e h
