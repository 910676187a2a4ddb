-- What one access of memory comes to, whatever the registers are.
use Rattle.std.specs.Prelude.{◌≡◌, ℕ, ◌<◌, ◌≤◌, Bool, List, slice_set}
use Rattle.sheet.specs.declared.Bus.{Bus}
use Rattle.sheet.specs.Width.{pick, mod_of}
use Rattle.sheet.specs.Memory.{write_mem, lost, lost_bytes}
use Rattle.sheet.specs.Act.{peek, poke}
use Rattle.mach_tally.specs.Sums.{Costs}
use Rattle.mach_tally.specs.Bounds.{Fair}
use Rattle.sheet.specs.Contract.{OnMemory}

-- a byte was written, or dropped
pub record Lands (ram : List ℕ) (a v : ℕ) (ram' : List ℕ) (landed : Bool) : Type 0 where
  pub is : ram' ≡ slice_set ram a v
  pub told : pick landed 0 1 ≡ lost ram a

pub record Missed (landed : Bool) (n : ℕ) : Type 0 where
  pub is : n ≡ pick landed 0 1
  pub most : n ≤ 1

pub record Writes (w : Bool) (ram : List ℕ) (g o v : ℕ) (ram' : List ℕ) (n : ℕ) : Type 0 where
  pub is : ram' ≡ write_mem w ram g o v
  pub told : n ≡ lost_bytes w ram g o

pub record Loads (w : Bool) (ram rom : List ℕ) (g o v : ℕ) (n : Bus) : Type 0 where
  pub below : v < mod_of w
  pub cost : Costs w o 0 n
  pub fair : Fair n
  pub at : (f : List ℕ) → OnMemory ℕ (peek w g o) f ram rom v f ram n 2

pub record Stores (w : Bool) (ram : List ℕ) (g o v : ℕ) (ram' : List ℕ) (n : Bus) : Type 0 where
  pub cost : Costs w o (lost_bytes w ram g o) n
  pub fair : Fair n
  pub at : (f rom : List ℕ) → OnMemory Unit (poke w g o v) f ram rom tt f ram' n 2
