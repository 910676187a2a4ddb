-- What each return of the code comes to, over plain values.
use Prim.Native.Nat.{ℕ, zero, suc, ◌≤◌, ◌<◌}
use mathlib.Core.Path.{◌≡◌, refl}
use mathlib.Core.Bool.{Bool}
use mathlib.Core.List.{List, [], ◌∷◌}
use lib.Dec.{lit≤}
use lib.ListN.{get_or, set}
use Rattle.sheet.specs.declared.Bus.{Bus}
use Rattle.sheet.specs.declared.Flagged.{Flagged}
use Rattle.sheet.specs.declared.Place.TheVariants.{Register, Memory}
use Rattle.sheet.specs.declared.Places.TheVariants.{One}
use Rattle.sheet.specs.declared.Shift.{Shift}
use Rattle.sheet.specs.Width.{mod_of}
use Rattle.sheet.specs.Psw.{CY, flag_of}
use Rattle.sheet.specs.Registers.{PSW, file_of, read_reg}
use Rattle.sheet.specs.Memory.{read_mem}
use Rattle.sheet.specs.Operand.{offset_of, base_of, locate, fetch, deposit, set_reg}
use Rattle.sheet.specs.Arithmetic.{finish}
use Rattle.sheet.specs.Shift.{carry_in, shift_one, shift}
use Rattle.sheet.specs.Contract.{OnFile, OnMemory, flagged}
use Rattle.sheet.proofs.Lifted.{file_pure, file_seq, memory_seq, memory_free, memory_at_most}
use Rattle.calc_psw.proofs.Results.{file_affect, value_is}
use Rattle.calc_shift.specs.Carry.{carried}
use Rattle.calc_shift.proofs.CarryLaws.{carry_ends}
use Rattle.mach_registers.proofs.Laws.{file_reg}
use Rattle.mach_memory.specs.Accesses.{Stores}
use Rattle.mach_memory.proofs.Laws.{loads}
use Rattle.mach_tally.specs.Sums.{Costs, Joins}
use Rattle.quick_place.specs.Packed.{op_of, shift_at, word_of, rm_of, address_of}
use Rattle.quick_memory.proofs.Laws.{located, finish_stores}

-- ---- by 1

carry_file : (k : Shift) (f : List ℕ) (cy : Bool) → cy ≡ carried k (flag_of (get_or f PSW 0) CY) → OnFile Bool (carry_in k) f cy f
carry_file k f cy e = rw e (record { at = λ s ram rom tape log. carry_ends k _ })

module _ (r x : ℕ) (k : Shift) (w cy : Bool) (y : Flagged) (f : List ℕ) (known : k ≡ shift_at (op_of r)) (wide : w ≡ word_of r) (carry : cy ≡ carried k (flag_of (get_or f PSW 0) CY))
    (result : y ≡ flagged (shift_one k w x cy) (get_or f PSW 0)) where
  pub one_r_is : (n : ℕ) (g : List ℕ) → n ≡ rm_of r → x ≡ read_reg w (file_of f) n → OnFile Unit (set_reg w n y.value) (set f PSW y.psw) tt g
      → OnFile Unit (shift (shift_at (op_of r)) (word_of r) (Register (rm_of r)) One) f tt g
  unfolding shift finish locate fetch deposit
  one_r_is n g l q h =
      let o = shift_one k w x cy in
      rw (← known, ← wide, ← l) (file_seq _ file_pure (file_seq _ (file_reg w n q) (file_seq _ (carry_file k f cy carry) (file_seq _ (file_affect o f y result) (rw (value_is o f y result) at h)))))

  pub one_m_is : (ram ram' rom : List ℕ) (g o : ℕ) (n i t : Bus) → g ≡ base_of (file_of f) (address_of r) → o ≡ offset_of (file_of f) (address_of r) → x ≡ read_mem w ram rom g o → x < mod_of w → Costs w o 0 n
      → Stores w ram g o y.value ram' i → Joins n i t
      → OnMemory Unit (shift (shift_at (op_of r)) (word_of r) (Memory (address_of r)) One) f ram rom tt (set f PSW y.psw) ram' t 6
  unfolding shift fetch
  one_m_is ram ram' rom g o n i t at off e l cost h j =
      rw (← known, ← wide, j.is)
      (memory_at_most {t = 4} 6 (lit≤ tt)
      (memory_free _ (located (address_of r) f g o at off)
      (memory_seq _ {t = 2} {u = 2} ((loads w ram rom g o x n e l cost).at f) (memory_free _ (carry_file k f cy carry) (finish_stores w g o (shift_one k w x cy) y f ram ram' rom i result h)))))
