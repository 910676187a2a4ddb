-- How much accesses come to at most.
use Rattle.std.specs.Prelude.{ℕ, ◌*◌, ◌≤◌}
use Rattle.sheet.specs.declared.Bus.{Bus}

-- two dropped bytes a bus cycle, so that sums stay in range wherever those of the cycles do
abbrev pub Fair : Bus → Type 0
Fair n = n.dropped ≤ 2 * n.cycles

-- `top` bus cycles
pub record Within (n : Bus) (top : ℕ) : Type 0 where
  pub cycles : n.cycles ≤ top
  pub dropped : Fair n
