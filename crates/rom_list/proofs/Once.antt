-- A listing has one result only.
use Prim.Native.Nat.{ℕ, ◌≤◌, ◌<◌}
use mathlib.Core.Path.{◌≡◌, refl, sym, ◌∙◌}
use mathlib.Core.List.{List}
use native.Mathlib.Nat.{lt_irrefl}
use native.Mathlib.Omega.{arith}
use lib.ListN.{length}
use Rattle.base_laws.specs.Writes.{Writes}
use Rattle.rom_form.specs.Listing.{listing}
use Rattle.rom_list.specs.Lists.{Lists, listed, too_long, no_room}

module _ (image out : List ℕ) where
  short_long : {A : Type 0} → length image ≤ 32768 → 32768 < length image → A
  short_long h k = absurd (lt_irrefl 32768 (omega arith))

  room_none : {A : Type 0} {len : ℕ} {o : List ℕ} → Writes (listing image) out len o → length out < length (listing image) → A
  room_none w k = absurd (lt_irrefl (length out) (omega (arith, w.count, w.within)))

  pub list_once : {n n' len len' : ℕ} {o o' : List ℕ} → Lists image out n len o → Lists image out n' len' o' → (n ≡ n') × (len ≡ len') × (o ≡ o')
  list_once (listed h w) (listed k v) = (refl, w.count ∙ sym v.count, w.left ∙ sym v.left)
  list_once (listed h w) (too_long k) = short_long h k
  list_once (listed h w) (no_room k m) = room_none w m
  list_once (too_long h) (listed k v) = short_long k h
  list_once (too_long h) (too_long k) = (refl, refl, refl)
  list_once (too_long h) (no_room k m) = short_long k h
  list_once (no_room h m) (listed k v) = room_none v m
  list_once (no_room h m) (too_long k) = short_long h k
  list_once (no_room h m) (no_room k l) = (refl, refl, refl)
