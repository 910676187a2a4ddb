-- The bounds of what accesses come to.
use Prim.Native.Nat.{ℕ, ◌+◌, ◌≤◌, zero-le}
use mathlib.Core.Bool.{Bool}
use mathlib.Core.List.{List}
use native.Mathlib.Nat.{add-le-add, le_trans}
use native.Mathlib.Omega.{arith}
use Rattle.sheet.specs.declared.Bus.{Bus}
use Rattle.sheet.specs.Act.{Act}
use Rattle.sheet.specs.Handler.{nothing, ◌⊕◌}
use Rattle.sheet.specs.Contract.{OnMemory}
use Rattle.mach_tally.specs.Sums.{Free, Costs}
use Rattle.mach_tally.specs.Bounds.{Within}

pub within_none : {t : ℕ} → Within nothing t
within_none = record { cycles = zero-le; dropped = zero-le }

pub within_free : {n : Bus} {t : ℕ} → Free n → Within n t
within_free e = rw e.is within_none

pub within_access : {w : Bool} {o : ℕ} {n : Bus} → Costs w o 0 n → Within n 2
within_access e = record { cycles = e.most; dropped = rw e.is zero-le }

pub within_memory : {A : Type 0} {p : Act A} {f ram rom f' ram' : List ℕ} {a : A} {n : Bus} {t : ℕ} → OnMemory A p f ram rom a f' ram' n t → Within n t
within_memory h = record { cycles = h.most; dropped = h.fair }

pub within_more : {n : Bus} {t u : ℕ} → t ≤ u → Within n t → Within n u
within_more q h = record { cycles = le_trans h.cycles q; dropped = h.dropped }

pub within_both : {n m : Bus} {t u : ℕ} → Within n t → Within m u → Within (n ⊕ m) (t + u)
within_both h k = record { cycles = add-le-add h.cycles k.cycles; dropped = (let a = h.dropped in let b = k.dropped in omega arith) }
