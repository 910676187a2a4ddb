-- What accesses come to, made by code: none, one, two after each other.
use Rattle.std.specs.Prelude.{ℕ, ◌+◌, ◌≤◌, Bool, ◌≡◌}
use Rattle.sheet.specs.declared.Bus.{Bus}
use Rattle.sheet.specs.Handler.{nothing, ◌⊕◌, bus_with}

-- so many bus cycles and nothing else, in examples
abbrev pub cycles_only : ℕ → Bus
cycles_only n = record { cycles = n; dropped = 0 }

pub record Free (r : Bus) : Type 0 where
  pub is : r ≡ nothing

-- one access of a width at an offset, or at a port, that drops d bytes
pub record Costs (w : Bool) (o d : ℕ) (r : Bus) : Type 0 where
  pub is : r ≡ bus_with w o d
  pub most : r.cycles ≤ 2

pub record Joins (a b r : Bus) : Type 0 where
  pub is : r ≡ a ⊕ b
  -- as a number, for the bounds of further sums
  pub cycles : r.cycles ≡ a.cycles + b.cycles
  pub dropped : r.dropped ≡ a.dropped + b.dropped

pub record JoinsThree (a b c r : Bus) : Type 0 where
  pub is : r ≡ a ⊕ (b ⊕ c)
