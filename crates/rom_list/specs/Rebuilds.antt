-- What is said of rebuilding an image from lines.
use Rattle.std.specs.Prelude.{ℕ, ◌≤◌, ◌<◌, ◌≡◌, ◌⊎◌, List, length}
use Rattle.base_laws.specs.Writes.{Writes}
use Rattle.rom_form.specs.Listing.{listing}
use Rattle.rom_form.specs.Restored.{restored}

-- lines that are the listing of the image that they name
pub record Listed (lines : List ℕ) : Type 0 where
  pub prints : listing (restored lines) ≡ lines
  pub short : length (restored lines) ≤ 32768

-- the image stands at the start of out, or out is as it was: 16 for lines that no listing prints, 6 for too little room
pub record Rebuilds (lines out : List ℕ) (number len : ℕ) (out' : List ℕ) : Type 0 where
  pub numbers : (number ≡ 0) ⊎ ((number ≡ 16) ⊎ (number ≡ 6))
  pub rebuilt : number ≡ 0 → Listed lines × Writes (restored lines) out len out'
  pub unlisted : number ≡ 16 → Listed lines → ⊥
  pub no_room : number ≡ 6 → Listed lines × (length out < length (restored lines))
  pub untouched : (number ≡ 0 → ⊥) → (len ≡ 0) × (out' ≡ out)
