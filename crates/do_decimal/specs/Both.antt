-- What reading byte i of both strings comes to.
use Rattle.std.specs.Prelude.{ℕ, ◌≤◌, false, List, ◌≡◌}
use Rattle.sheet.specs.declared.Bus.{Bus}
use Rattle.sheet.specs.Width.{add16}
use Rattle.sheet.specs.Registers.{IX, IY, DS1, file_of, segment}
use Rattle.sheet.specs.Act.{peek}
use Rattle.sheet.specs.Handler.{◌⊕◌}
use Rattle.sheet.specs.Contract.{OnMemory}
use Rattle.mach_tally.specs.Bounds.{Fair}

pub record Both (f ram rom : List ℕ) (seg i to from : ℕ) (n : Bus) : Type 0 where
  pub most : n.cycles ≤ 2
  pub fair : Fair n
  pub first : Bus
  pub second : Bus
  pub sum : n ≡ first ⊕ second
  pub target : OnMemory ℕ (peek false (file_of f DS1) (add16 (file_of f IY) i)) f ram rom to f ram first 1
  pub source : OnMemory ℕ (peek false (file_of f (segment seg)) (add16 (file_of f IX) i)) f ram rom from f ram second 1
