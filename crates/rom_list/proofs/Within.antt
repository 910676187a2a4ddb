-- What was written lies within the buffer.
use Prim.Native.Nat.{ℕ, ◌≤◌, zero-le}
use mathlib.Core.Path.{◌≡◌, sym, ◌∙◌}
use mathlib.Core.List.{List}
use mathlib.Core.Logic.{◌⊎◌, inl, inr}
use native.Mathlib.Omega.{arith}
use lib.ListN.{length, take}
use lib.Seq.{length-take-le}
use Rattle.base_laws.proofs.Writing.{same}
use Rattle.rom_list.specs.Lists.{Lists, listed, too_long, no_room}
use Rattle.rom_list.specs.Rebuilds.{Rebuilds}

pub lists_within : {image out out' : List ℕ} {number len : ℕ} → Lists image out number len out' → len ≤ length out'
lists_within (listed h w) = omega (arith, w.within, same w)
lists_within (too_long h) = zero-le
lists_within (no_room h m) = zero-le

pub rebuilds_within : {lines out out' : List ℕ} {number len : ℕ} → Rebuilds lines out number len out' → len ≤ length out'
rebuilds_within {lines} {out} {out'} {number} {len} r = go r.numbers
  where
    go : (number ≡ 0) ⊎ ((number ≡ 16) ⊎ (number ≡ 6)) → len ≤ length out'
    go (inl e) = let w = (r.rebuilt e).1 in omega (arith, w.within, same w)
    go (inr (inl e)) = let u = r.untouched (λ z. let f : ◌≡◌ {A = ℕ} 16 0 = sym e ∙ z in omega arith) in omega (arith, u.0)
    go (inr (inr e)) = let u = r.untouched (λ z. let f : ◌≡◌ {A = ℕ} 6 0 = sym e ∙ z in omega arith) in omega (arith, u.0)

pub part_long : (n : ℕ) (l : List ℕ) → n ≤ length l → n ≡ length (take n l)
part_long n l h = sym (length-take-le n l h)
