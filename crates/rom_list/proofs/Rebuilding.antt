-- How a rebuilding ends. Assumes nothing.
use Prim.Native.Nat.{ℕ, ◌≤◌, ◌<◌}
use mathlib.Core.Path.{◌≡◌, refl, sym, ap, ◌∙◌}
use mathlib.Core.Bool.{Bool, true, false, not}
use mathlib.Core.Logic.{inl, inr}
use mathlib.Core.List.{List}
use native.Mathlib.Nat.{lt_irrefl}
use native.Mathlib.Omega.{arith}
use lib.ListN.{length, take, drop}
use lib.Seq.{take_at, length-take-le}
use borrow.Author.Tests.{eqb-false, not-true, not-false}
use Rattle.base_laws.specs.Writes.{Writes}
use Rattle.base_laws.proofs.Writing.{same}
use Rattle.rom_form.specs.Restored.{restored}
use Rattle.rom_list.specs.Agrees.{Agrees}
use Rattle.rom_list.specs.Rebuilds.{Listed, Rebuilds}

not_listed : {lines out : List ℕ} → (Listed lines → ⊥) → Rebuilds lines out 16 0 out
not_listed n =
    record {
      numbers = inr (inl refl);
      rebuilt = λ z. absurd (eqb-false 16 0 refl z);
      unlisted = λ z. n;
      no_room = λ z. absurd (eqb-false 16 6 refl z);
      untouched = λ z. (refl, refl);
    }

module _ {lines image : List ℕ} {b : Bool} (e : image ≡ restored lines) (a : Agrees lines image b) where
  pub unlike : {out : List ℕ} → not b ≡ true → Rebuilds lines out 16 0 out
  unlike f = not_listed λ l. a.no (not-true b f) (rw e l.prints)

  module _ (h : length image ≤ 32768) (t : not b ≡ false) where
    listed : Listed lines
    listed = record { prints = rw (← e) (a.yes (not-false b t)); short = rw (← e) h }

    pub small : {out : List ℕ} → length out < length image → Rebuilds lines out 6 0 out
    small r =
        record {
          numbers = inr (inr refl);
          rebuilt = λ z. absurd (eqb-false 6 0 refl z);
          unlisted = λ z. absurd (eqb-false 6 16 refl z);
          no_room = λ z. (listed, rw (← e) r);
          untouched = λ z. (refl, refl);
        }

    pub handed : {out out' : List ℕ} {len : ℕ} → Writes image out len out' → Rebuilds lines out 0 len out'
    handed w =
        record {
          numbers = inl refl;
          rebuilt = λ z. (listed, rw (← e) w);
          unlisted = λ z. absurd (eqb-false 0 16 refl z);
          no_room = λ z. absurd (eqb-false 0 6 refl z);
          untouched = λ z. absurd (z refl);
        }

-- ---- what was restored to the scratch

pub too_long : (lines scratch : List ℕ) {out : List ℕ} → length scratch ≡ 32768 → length scratch < length (restored lines) → Rebuilds lines out 16 0 out
too_long lines scratch h k = not_listed λ l. lt_irrefl 32768 (omega (arith, h, k, l.short))

module _ (lines : List ℕ) {scratch scratch' : List ℕ} {len : ℕ} (h : length scratch ≡ 32768) (stands : Writes (restored lines) scratch len scratch') where
  pub part : len ≤ length scratch'
  part = omega (arith, stands.within, same stands)

  pub part_long : len ≡ length (take len scratch')
  part_long = sym (length-take-le len scratch' part)

  -- it stands at the start
  pub part_restored : take len scratch' ≡ restored lines
  part_restored = ap (take len) stands.left ∙ take_at (restored lines) (drop (length (restored lines)) scratch) len (sym stands.count)

  pub part_short : length (take len scratch') ≤ 32768
  part_short = omega (arith, part_long, stands.within)
