-- A line read from column 0 gives its bytes and leaves the reader at column 0. Assumes nothing.
use Prim.Native.Nat.{ℕ, zero, suc, ◌+◌, ◌-◌, ◌*◌, ◌/◌, ◌%◌, ◌≤◌, ◌<◌}
use mathlib.Core.Path.{◌≡◌, refl, ap, ◌∙◌}
use mathlib.Core.Bool.{Bool, true, false, and-false}
use mathlib.Core.List.{List, [], ◌∷◌, ◌++◌, append_assoc}
use native.Mathlib.Nat.{add-zero}
use native.Mathlib.Omega.{arith}
use lib.ListN.{length, replicate}
use lib.Dec.{leb, ltb, eqb, lit≤}
use borrow.Author.Tests.{ltb-true, ltb-false, lt-ltb, le-ltb, le-leb, eq-eqb, ne_eqb}
use Rattle.sheet.specs.Width.{pick}
use Rattle.base_laws.proofs.Bytes.{Bytes}
use Rattle.base_text.specs.Text.{text, hex, hex_digit}
use Rattle.rom_mnemonic.specs.Printed.{Printed, no_more, and_then_lem}
use Rattle.rom_form.specs.Listing.{bytes_text, line}
use Rattle.rom_form.specs.Restored.{digit_of, is_digit, restored_from}

-- ---- hex digits

pub digit_printed : (n : ℕ) → 48 ≤ hex_digit n
unfolding hex_digit
digit_printed n = go (ltb n 10)
  where
    go : (t : Bool) → 48 ≤ pick t (48 + n) (55 + n)
    go true = omega arith
    go false = omega arith

digit_back : (d : ℕ) → d < 16 → digit_of (hex_digit d) ≡ d
unfolding hex_digit digit_of
digit_back d h = go (ltb d 10) refl
  where
    go : (t : Bool) → ltb d 10 ≡ t → pick (ltb (pick t (48 + d) (55 + d)) 58) (pick t (48 + d) (55 + d) - 48) (pick t (48 + d) (55 + d) - 55) % 16 ≡ d
    go true e = let l = ltb-true d 10 e in rw (lt-ltb (48 + d) 58 (omega arith)) (omega arith)
    go false e = let l = ltb-false d 10 e in rw (le-ltb (55 + d) 58 (omega arith)) (omega arith)

-- ---- one character

-- what is no digit in its column is passed over
passed : (column h c : ℕ) (t : List ℕ) → 32 ≤ c → is_digit column c ≡ false → restored_from column h (c ∷ t) ≡ restored_from (column + 1) h t
unfolding restored_from
passed column h c t p e = rw (ne_eqb c 10 (λ (q : c ≡ 10). omega arith), e)

space_is_none : (column : ℕ) → is_digit column 32 ≡ false
unfolding is_digit
space_is_none column = simp and-false

late_is_none : (column c : ℕ) → 24 ≤ column → is_digit column c ≡ false
unfolding is_digit
late_is_none column c p = rw (le-ltb column 24 p) (and-false (leb 6 column))

not_the_end : (n : ℕ) → eqb (hex_digit n) 10 ≡ false
not_the_end n = let d = digit_printed n in ne_eqb (hex_digit n) 10 (λ (z : hex_digit n ≡ 10). omega arith)

is_a_digit : (column n : ℕ) → 6 ≤ column → column < 24 → is_digit column (hex_digit n) ≡ true
unfolding is_digit
is_a_digit column n p q =
    let d = digit_printed n in
    rw (le-leb 6 column p, lt-ltb column 24 q, ne_eqb (hex_digit n) 32 (λ (z : hex_digit n ≡ 32). omega arith))

-- the two digits of a byte: the first stands in an even column
module _ (k h n : ℕ) (t : List ℕ) (low : 3 ≤ k) (high : k < 12) (digit : n < 16) where
  first_digit : restored_from (2 * k) h (hex_digit n ∷ t) ≡ restored_from (2 * k + 1) n t
  unfolding restored_from
  first_digit =
      rw (not_the_end n, is_a_digit (2 * k) n (omega arith) (omega arith), ne_eqb (2 * k % 2) 1 (λ (z : 2 * k % 2 ≡ 1). omega arith), digit_back n digit)

  second_digit : restored_from (2 * k + 1) h (hex_digit n ∷ t) ≡ (16 * h + n) ∷ restored_from (2 * k + 1 + 1) 0 t
  unfolding restored_from
  second_digit =
      rw (not_the_end n, is_a_digit (2 * k + 1) n (omega arith) (omega arith), eq-eqb ((2 * k + 1) % 2) 1 (omega arith), digit_back n digit)

-- ---- the parts of a line

address_passed : (a : ℕ) (t : List ℕ) → restored_from 0 0 (hex 5 a ++ (text " " ++ t)) ≡ restored_from 6 0 t
unfolding restored_from is_digit hex
address_passed a t = simp not_the_end

byte_restored : (k b : ℕ) (t : List ℕ) → 3 ≤ k → k < 12 → b < 256 → restored_from (2 * k) 0 (hex 2 b ++ t) ≡ b ∷ restored_from (2 * (k + 1)) 0 t
unfolding hex
byte_restored k b t p q h =
    first_digit k 0 (b / 16 % 16) (hex_digit (b % 16) ∷ t) p q (omega arith)
    ∙ (second_digit k (b / 16 % 16) (b % 16) t p q (omega arith)
    ∙ rw (the_byte, the_column))
  where
    the_byte : 16 * (b / 16 % 16) + b % 16 ≡ b
    the_byte = omega arith

    the_column : 2 * k + 1 + 1 ≡ 2 * (k + 1)
    the_column = omega arith

-- two columns a byte
bytes_restored : (k : ℕ) (bytes t : List ℕ) → 3 ≤ k → k + length bytes ≤ 12 → Bytes bytes
    → restored_from (2 * k) 0 (bytes_text bytes ++ t) ≡ bytes ++ restored_from (2 * (k + length bytes)) 0 t
unfolding bytes_text
bytes_restored k [] t p q h = rw (add-zero k)
bytes_restored k (b ∷ l) t p q h =
    rw (append_assoc (hex 2 b) (bytes_text l) t)
    (byte_restored k b (bytes_text l ++ t) p (omega arith) (h 0)
    ∙ ap (λ s. b ∷ s) (bytes_restored (k + 1) l t (omega arith) (omega arith) (λ j. h (suc j)) ∙ rw the_column))
  where
    the_column : k + 1 + length l ≡ k + suc (length l)
    the_column = omega arith

spaces_passed : (n column h : ℕ) (t : List ℕ) → restored_from column h (replicate n 32 ++ t) ≡ restored_from (column + n) h t
spaces_passed zero column h t = rw (add-zero column)
spaces_passed (suc n) column h t =
    passed column h 32 (replicate n 32 ++ t) (lit≤ tt) (space_is_none column)
    ∙ (spaces_passed n (column + 1) h t
    ∙ rw the_column)
  where
    the_column : column + 1 + n ≡ column + suc n
    the_column = omega arith

words_passed : {words : List ℕ} → Printed words → (column h : ℕ) (t : List ℕ) → 24 ≤ column → restored_from column h (words ++ (10 ∷ t)) ≡ restored_from 0 0 t
unfolding restored_from
words_passed no_more column h t p = refl
words_passed (and_then_lem {c = c} {l = l} s r) column h t p =
    passed column h c (l ++ (10 ∷ t)) s (late_is_none column c p)
    ∙ words_passed r (column + 1) h t (omega arith)

-- ---- a line

pub line_restored : (a : ℕ) (bytes words t : List ℕ) → Bytes bytes → length bytes ≤ 9 → Printed words
    → restored_from 0 0 (line a bytes words ++ t) ≡ bytes ++ restored_from 0 0 t
unfolding line
line_restored a bytes words t h p w =
    simp append_assoc
    (address_passed a (bytes_text bytes ++ (replicate blank 32 ++ (words ++ (10 ∷ t))))
    ∙ (bytes_restored 3 bytes (replicate blank 32 ++ (words ++ (10 ∷ t))) (lit≤ tt) (omega arith) h
    ∙ ap (λ s. bytes ++ s) (spaces_passed blank column 0 (words ++ (10 ∷ t)) ∙ words_passed w (column + blank) 0 t (omega arith))))
  where
    column : ℕ
    column = 2 * (3 + length bytes)

    blank : ℕ
    blank = 19 - 2 * length bytes
