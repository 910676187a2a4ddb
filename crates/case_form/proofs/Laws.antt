-- What the turns of the loops come to, and what is known of buffers that a case fits in. Assumes nothing.
use Prim.Native.Nat.{ℕ, ◌+◌, ◌*◌, ◌^◌, ◌<◌, ◌≤◌}
use mathlib.Core.Bool.{Bool, true, false, true≢false, ◌&&◌}
use mathlib.Core.List.{List}
use mathlib.Core.Path.{◌≡◌, ◌∙◌, refl, sym}
use native.Mathlib.Numerals.{add-one}
use native.Mathlib.Omega.{arith}
use lib.ListN.{get_or, set}
use lib.Dec.{leb}
use mir.Syntax.{w64}
use mir.Val.{Fits}
use borrow.Author.Tests.{leb-true}
use Rattle.case_bytes.specs.Numbers.{word_at, word_put}
use Rattle.case_form.specs.declared.Case.{Case}
use Rattle.case_form.specs.Form.{place_of, file_of, fits_in, with_file}

both : (a b : Bool) → a && b ≡ true → (a ≡ true) × (b ≡ true)
both true b e = (refl, e)
both false b e = absurd (true≢false (sym e))

-- what is known of buffers that a case fits in
module _ (c : Case) (ram rom tape log patches : ℕ) (r : Bool) (e : r ≡ fits_in c ram rom tape log patches) (h : r ≡ true) where
  all_fit : (c.ram ≤ ram) × (c.rom ≤ rom) × (c.tape ≤ tape) × (c.log ≤ log) × (c.patches * 6 ≤ patches)
  unfolding fits_in
  all_fit =
      let a = both (leb c.ram ram) _ (sym e ∙ h) in
      let b = both (leb c.rom rom) _ a.1 in
      let d = both (leb c.tape tape) _ b.1 in
      let f = both (leb c.log log) _ d.1 in
      (leb-true _ _ a.0, leb-true _ _ b.0, leb-true _ _ d.0, leb-true _ _ f.0, leb-true _ _ f.1)

  pub ram_fits : c.ram ≤ ram
  ram_fits = all_fit.0

  pub rom_fits : c.rom ≤ rom
  rom_fits = all_fit.1

  pub tape_fits : c.tape ≤ tape
  tape_fits = all_fit.2

  pub log_fits : c.log ≤ log
  log_fits = all_fit.3

  pub patches_fit : c.patches * 6 ≤ patches
  patches_fit = all_fit.4

  -- what is known of every slice keeps their bytes in range
  pub patches_small : patches * 1 < 2 ^ 63 → Fits w64 (c.patches * 6)
  patches_small l = record { fits = omega (arith, patches_fit, l) }

-- one register more is read
pub file_more : (header file : List ℕ) (i at value : ℕ) → at ≡ place_of i → value ≡ word_at header (6 + i * 2) → file ≡ file_of header i → set file at value ≡ file_of header (i + 1)
unfolding file_of
file_more header file i at value a b e = rw (add-one i, a, b, e)

-- one register more is put in
pub with_more : (file l₀ l z : List ℕ) (i at : ℕ) → at ≡ place_of i → l ≡ with_file file i l₀ → z ≡ word_put l (10 + i * 2) (get_or file at 0) → z ≡ with_file file (i + 1) l₀
unfolding with_file
with_more file l₀ l z i at a e f = rw (add-one i) (f ∙ rw (a, e))
