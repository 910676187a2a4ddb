-- What each return of the code comes to, over plain values; and a window's reading is the code's.
use Prim.Native.Nat.{ℕ, zero, suc, ◌+◌, ◌-◌, ◌*◌, ◌/◌, ◌%◌, ◌≤◌, ◌<◌}
use mathlib.Core.Path.{◌≡◌, refl, sym, ap, ◌∙◌}
use mathlib.Core.List.{List, [], ◌∷◌}
use native.Mathlib.Omega.{arith}
use lib.ListN.{get_or, length}
use Rattle.std.specs.Int.{to_le_bytes, from_le_bytes, w64}
use Rattle.std.proofs.lemmas.Nat.{le_bytes_8}
use Rattle.sheet.specs.declared.Instr.{Instr}
use Rattle.sheet.specs.Reading.{scan, length_of}
use Rattle.sheet.specs.FirstByte.{instruction}
use Rattle.sheet.specs.Step.{code_at, code_byte}
use Rattle.sheet.proofs.ReadingLaws.{scan_rests}
use Rattle.code_answer.specs.Answer.{known_as, Decodes}
use Rattle.code_answer.proofs.DecodesLaws.{known_reads}
use Rattle.quick_place.specs.Packed.{byte_of}
use borrow.Author.Tests.{lt-ltb, le-ltb, le-leb}
use Rattle.sheet.specs.Memory.{physical, byte_at}
use Rattle.quick_window.specs.Spelled.{Spells, listed}

-- ---- bytes as a number

-- the bytes of a number are those that it was made of
bytes_at : (n j : ℕ) → j < 8 → byte_of n j ≡ get_or (to_le_bytes w64 n) j 0
unfolding byte_of
bytes_at n zero h = refl
bytes_at n (suc zero) h = refl
bytes_at n (suc (suc zero)) h = let e : n / 256 / 256 % 256 ≡ n / 65536 % 256 = omega arith in e
bytes_at n (suc (suc (suc zero))) h = let e : n / 256 / 256 / 256 % 256 ≡ n / 16777216 % 256 = omega arith in e
bytes_at n (suc (suc (suc (suc zero)))) h = let e : n / 256 / 256 / 256 / 256 % 256 ≡ n / 4294967296 % 256 = omega arith in e
bytes_at n (suc (suc (suc (suc (suc zero))))) h = let e : n / 256 / 256 / 256 / 256 / 256 % 256 ≡ n / 1099511627776 % 256 = omega arith in e
bytes_at n (suc (suc (suc (suc (suc (suc zero)))))) h = let e : n / 256 / 256 / 256 / 256 / 256 / 256 % 256 ≡ n / 281474976710656 % 256 = omega arith in e
bytes_at n (suc (suc (suc (suc (suc (suc (suc zero))))))) h = let e : n / 256 / 256 / 256 / 256 / 256 / 256 / 256 % 256 ≡ n / 72057594037927936 % 256 = omega arith in e
bytes_at n (suc (suc (suc (suc (suc (suc (suc (suc j)))))))) h = absurd (omega arith)

module _ (src : ℕ → ℕ) (i b0 b1 b2 b3 b4 b5 b6 b7 r : ℕ) (e : r ≡ from_le_bytes w64 (b0 ∷ b1 ∷ b2 ∷ b3 ∷ b4 ∷ b5 ∷ b6 ∷ b7 ∷ [])) (f0 : b0 < 256) (f1 : b1 < 256) (f2 : b2 < 256) (f3 : b3 < 256) (f4 : b4 < 256) (f5 : b5 < 256) (f6 : b6 < 256) (f7 : b7 < 256) where
  small : (j : ℕ) → get_or (b0 ∷ b1 ∷ b2 ∷ b3 ∷ b4 ∷ b5 ∷ b6 ∷ b7 ∷ []) j 0 < 256
  small zero = f0
  small (suc zero) = f1
  small (suc (suc zero)) = f2
  small (suc (suc (suc zero))) = f3
  small (suc (suc (suc (suc zero)))) = f4
  small (suc (suc (suc (suc (suc zero))))) = f5
  small (suc (suc (suc (suc (suc (suc zero)))))) = f6
  small (suc (suc (suc (suc (suc (suc (suc zero))))))) = f7
  small (suc (suc (suc (suc (suc (suc (suc (suc j)))))))) = omega arith

  pub eight_is : b0 ≡ src i → b1 ≡ src (i + 1) → b2 ≡ src (i + 2) → b3 ≡ src (i + 3) → b4 ≡ src (i + 4) → b5 ≡ src (i + 5) → b6 ≡ src (i + 6) → b7 ≡ src (i + 7) → Spells src i 8 r
  eight_is q0 q1 q2 q3 q4 q5 q6 q7 = record { at = λ j h. (bytes_at r j h ∙ (ap (λ (l : List ℕ). get_or l j 0) (le_bytes_8 (b0 ∷ b1 ∷ b2 ∷ b3 ∷ b4 ∷ b5 ∷ b6 ∷ b7 ∷ []) r refl small e) ∙ each j h)) }
    where
      each : (j : ℕ) → j < 8 → get_or (b0 ∷ b1 ∷ b2 ∷ b3 ∷ b4 ∷ b5 ∷ b6 ∷ b7 ∷ []) j 0 ≡ src (i + j)
      each zero h = let x : i + 0 ≡ i = omega arith in rw x q0
      each (suc zero) h = q1
      each (suc (suc zero)) h = q2
      each (suc (suc (suc zero))) h = q3
      each (suc (suc (suc (suc zero)))) h = q4
      each (suc (suc (suc (suc (suc zero))))) h = q5
      each (suc (suc (suc (suc (suc (suc zero)))))) h = q6
      each (suc (suc (suc (suc (suc (suc (suc zero))))))) h = q7
      each (suc (suc (suc (suc (suc (suc (suc (suc j)))))))) h = absurd (omega arith)

-- ---- windows

module _ (ram rom : List ℕ) (ps pc a r : ℕ) (e : a ≡ physical ps pc) (h : pc < 65529) (k : a ≤ 1048568) where
  on_from : (j : ℕ) → j < 8 → code_at ps pc j ≡ a + j
  on_from j l = omega arith

  pub in_ram : a + 8 ≤ length ram → Spells (listed ram) a 8 r → Spells (code_byte ram rom ps pc) 0 8 r
  unfolding byte_at
  in_ram m s = record { at = λ j l. (let x : a + j < length ram = omega arith in s.at j l ∙ sym (rw (zero_on j, on_from j l, lt-ltb (a + j) (length ram) x))) }
    where
      zero_on : (j : ℕ) → 0 + j ≡ j
      zero_on j = omega arith

  pub in_rom : length ram ≤ a → 1048576 ≤ a + length rom → Spells (listed rom) (a + length rom - 1048576) 8 r → Spells (code_byte ram rom ps pc) 0 8 r
  unfolding byte_at
  in_rom m n s = record {
    at = λ j l.
        (let x : length ram ≤ a + j = omega arith in
        let y : 1048576 ≤ a + j + length rom = omega arith in
        let z : a + length rom - 1048576 + j ≡ a + j + length rom - 1048576 = omega arith in
        (rw z at (s.at j l)) ∙ sym (rw (zero_on j, on_from j l, le-ltb (a + j) (length ram) x, le-leb 1048576 (a + j + length rom) y)));
  }
    where
      zero_on : (j : ℕ) → 0 + j ≡ j
      zero_on j = omega arith

-- ---- the window's reading is the code's

pub code_decodes : (w : ℕ) (src : ℕ → ℕ) (i : Instr) (n : ℕ) → Spells src 0 8 w → n ≤ 8 → Decodes instruction (byte_of w) 0 (known_as i n) → Decodes instruction src 0 (known_as i n)
code_decodes w src i n s h d =
    let e = (known_reads i n d).is in
    let same : scan instruction (byte_of w) 0 ≡ scan instruction src 0 = scan_rests instruction (byte_of w) src 0 (λ j l k. (let m : length_of (scan instruction (byte_of w) 0) ≡ n = rw e in let z : 0 + j ≡ j = omega arith in rw z at (s.at j (omega arith)))) in
    record { is = rw (← same) d.is }
