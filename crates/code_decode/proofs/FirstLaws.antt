-- The table of first bytes by its parts.
use Rattle.sheet.specs.declared.Instr.{Instr}
use Prim.Native.Nat.{ℕ, ◌+◌, ◌≤◌, ◌<◌}
use mathlib.Core.Path.{◌≡◌, refl, ◌∙◌}
use mathlib.Core.Bool.{Bool, true, ◌&&◌, and-eq-true_iff}
use mathlib.Core.List.{List, [], ◌∷◌, ◌++◌}
use native.Mathlib.Omega.{arith}
use lib.Dec.{leb}
use borrow.Author.Tests.{leb-true, lt-leb}
use Rattle.sheet.specs.declared.Prefixes.{Prefixes}
use Rattle.sheet.specs.Reading.{no, scan}
use Rattle.sheet.specs.Encoding.{Row, look_up}
use Rattle.sheet.specs.FirstByte.{bytes00, bytes40, bytes80, bytes_c0, first_bytes}
use Rattle.sheet.proofs.TableLaws.{below}
use Rattle.code_answer.specs.Answer.{Answer, Decodes, Names}
use Rattle.std.specs.Prelude.{Err}
use Rattle.sheet.specs.declared.Refusal.{Refusal}
use Rattle.sheet.specs.Refusals.{refusal_number}
use Rattle.code_answer.proofs.DecodesLaws.{decodes_as}
use Rattle.code_answer.proofs.CodeLaws.{above_row}

-- every row of a list starts at n or above
abbrev above : ℕ → List Row → Bool
above n [] = true
above n (r ∷ t) = leb n r.from && above n t

-- a code past the rows of the first list is looked up in the second
in_second : (s t : List Row) (n b : ℕ) → below n s ≡ true → n ≤ b → look_up (s ++ t) b ≡ look_up t b
unfolding look_up
in_second [] t n b e h = refl
in_second (r ∷ s) t n b e h =
    let (x, y) = (and-eq-true_iff (leb (r.from + r.many) n) (below n s)).0 e in
    let z = leb-true (r.from + r.many) n x in
    rw (above_row r b (omega arith)) (in_second s t n b y h)

-- a code before the rows of the second is looked up in the first
nowhere : (t : List Row) (n b : ℕ) → above n t ≡ true → b < n → look_up t b ≡ no 3
unfolding look_up
nowhere [] n b e h = refl
nowhere (r ∷ t) n b e h =
    let (x, y) = (and-eq-true_iff (leb n r.from) (above n t)).0 e in
    let z = leb-true n r.from x in
    rw (lt-leb r.from b (omega arith)) (nowhere t n b y h)

in_first : (s t : List Row) (n b : ℕ) → above n t ≡ true → b < n → look_up (s ++ t) b ≡ look_up s b
unfolding look_up
in_first [] t n b e h = nowhere t n b e h
in_first (r ∷ s) t n b e h = rw (in_first s t n b e h)

module _ (p : Prefixes) {b : ℕ} {src : ℕ → ℕ} {i : ℕ} {r : Answer Instr} where
  pub from_00 : b < 0x40 → Names (bytes00 p) b src i r → Names (first_bytes p) b src i r
  from_00 h x = record { is = decodes_as (in_first (bytes00 p) _ 0x40 b refl h) x.is }

  pub from_40 : 0x40 ≤ b → b < 0x80 → Names (bytes40 p) b src i r → Names (first_bytes p) b src i r
  from_40 l h x = record { is = decodes_as (in_second (bytes00 p) _ 0x40 b refl l ∙ in_first (bytes40 p) _ 0x80 b refl h) x.is }

  pub from_80 : 0x80 ≤ b → b < 0xc0 → Names (bytes80 p) b src i r → Names (first_bytes p) b src i r
  from_80 l h x =
      let k : 0x40 ≤ b = omega arith in
      record { is = decodes_as (in_second (bytes00 p) _ 0x40 b refl k ∙ (in_second (bytes40 p) _ 0x80 b refl l ∙ in_first (bytes80 p) _ 0xc0 b refl h)) x.is }

  pub from_c0 : 0xc0 ≤ b → Names (bytes_c0 p) b src i r → Names (first_bytes p) b src i r
  from_c0 l x =
      let k : 0x40 ≤ b = omega arith in
      let m : 0x80 ≤ b = omega arith in
      record { is = decodes_as (in_second (bytes00 p) _ 0x40 b refl k ∙ (in_second (bytes40 p) _ 0x80 b refl m ∙ in_second (bytes80 p) _ 0xc0 b refl l)) x.is }

-- a reading that refuses, by any refusal
pub decodes_no_by : {I : Type 0} {src : ℕ → ℕ} {i : ℕ} (e : Refusal) → Decodes {I = I} (no (refusal_number e)) src i (Err e)
unfolding scan
decodes_no_by e = record { is = refl }
