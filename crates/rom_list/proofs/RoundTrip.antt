-- What the reader's promise comes to: a listing gives its image back, and what is refused with 16 is no listing. Assumes nothing.
use Prim.Native.Nat.{ℕ, ◌≤◌}
use mathlib.Core.Path.{◌≡◌, refl, ap}
use mathlib.Core.Logic.{◌⊎◌, inl, inr}
use mathlib.Core.List.{List}
use native.Mathlib.Nat.{lt_irrefl}
use native.Mathlib.Omega.{arith}
use lib.ListN.{length}
use Rattle.base_laws.specs.Writes.{Writes}
use Rattle.base_laws.proofs.Bytes.{Bytes}
use Rattle.rom_mnemonic.proofs.Words.{words_printed}
use Rattle.rom_form.specs.Listing.{listing}
use Rattle.rom_form.specs.Restored.{restored}
use Rattle.rom_form.proofs.RoundTrip.{restored_listing}
use Rattle.rom_list.specs.Rebuilds.{Listed, Rebuilds}

module _ (image : List ℕ) (bytes : Bytes image) (few : length image ≤ 32768) where
  back : restored (listing image) ≡ image
  back = restored_listing words_printed image bytes (omega arith)

  listed : Listed (listing image)
  listed = record { prints = ap listing back; short = rw back few }

  module _ {out out' : List ℕ} {number len : ℕ} (r : Rebuilds (listing image) out number len out') where
    pub listing_rebuilt : length image ≤ length out → (number ≡ 0) × Writes image out len out'
    listing_rebuilt room = go r.numbers
      where
        go : (number ≡ 0) ⊎ ((number ≡ 16) ⊎ (number ≡ 6)) → (number ≡ 0) × Writes image out len out'
        go (inl z) = (z, rw back at (r.rebuilt z).1)
        go (inr (inl z)) = absurd (r.unlisted z listed)
        go (inr (inr z)) = absurd (lt_irrefl (length out) (omega (arith, (r.no_room z).1, ap length back)))

  pub refused_is_none : {lines out out' : List ℕ} {len : ℕ} → Rebuilds lines out 16 len out' → listing image ≡ lines → ⊥
  refused_is_none r e = r.unlisted refl (rw e at listed)
