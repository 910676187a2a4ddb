-- What contracts of the lister say.
use Rattle.std.specs.Prelude.{ℕ, ◌≤◌, ◌<◌, List, length}
use Rattle.base_laws.specs.Writes.{Writes}
use Rattle.rom_form.specs.Listing.{listing}

-- the listing was written, or refused by 17 for too long an image and then by 6 for too little room
pub data Lists (image out : List ℕ) : (number len : ℕ) (out' : List ℕ) → Type 0 where
  listed : {len : ℕ} {out' : List ℕ} → length image ≤ 32768 → Writes (listing image) out len out' → Lists image out 0 len out'
  too_long : 32768 < length image → Lists image out 17 0 out
  no_room : length image ≤ 32768 → length out < length (listing image) → Lists image out 6 0 out
