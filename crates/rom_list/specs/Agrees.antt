-- What is said of comparing lines.
use Rattle.std.specs.Prelude.{ℕ, ◌≡◌, Bool, true, false, List, ◌++◌, length, drop}
use Rattle.rom_form.specs.Listing.{listing}

-- whether s begins with x
pub record Begins (x s : List ℕ) (b : Bool) : Type 0 where
  pub yes : b ≡ true → s ≡ x ++ drop (length x) s
  pub no : b ≡ false → (t : List ℕ) → s ≡ x ++ t → ⊥

-- whether lines are the listing of an image
pub record Agrees (lines image : List ℕ) (b : Bool) : Type 0 where
  pub yes : b ≡ true → listing image ≡ lines
  pub no : b ≡ false → listing image ≡ lines → ⊥
