-- A quotient and a remainder that the registers of a width hold.
use Rattle.std.specs.Prelude.{ℕ, ◌<◌, Bool, ◌≡◌, Option}
use Rattle.sheet.specs.declared.Quotient.{Quotient}
use Rattle.sheet.specs.Width.{mod_of}
use Rattle.sheet.specs.Multiply.{gives}

pub record Held (w : Bool) (q m : ℕ) : Type 0 where
  pub quotient : q < mod_of w
  pub remainder : m < mod_of w

pub record Within (w : Bool) (d : Option Quotient) : Type 0 where
  pub both : (q m : ℕ) → d ≡ gives q m → Held w q m
