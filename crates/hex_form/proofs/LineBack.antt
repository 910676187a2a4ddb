-- A line that was written, and read again. Assumes nothing.
use Prim.Native.Nat.{ℕ, zero, suc, ◌+◌, ◌-◌, ◌*◌, ◌/◌, ◌%◌, ◌≤◌, ◌<◌, zero-le}
use mathlib.Core.Path.{◌≡◌, refl, sym, ap, ◌∙◌}
use mathlib.Core.Bool.{true}
use mathlib.Core.List.{List, [], ◌∷◌, ◌++◌, append_assoc}
use native.Mathlib.Nat.{not-suc-le-zero, le_of_suc-le-suc}
use native.Mathlib.Numerals.{add-one}
use native.Mathlib.Omega.{arith}
use lib.ListN.{length, get_or, drop, length-append, get_or-append}
use lib.Seq.{get_or_at}
use lib.Dec.{lit≤}
use borrow.Author.Tests.{lt-ltb, eq-eqb}
use Rattle.base_laws.proofs.Bytes.{Bytes}
use Rattle.base_laws.proofs.Table.{agree}
use Rattle.base_text.specs.Text.{hex, hex_digit}
use Rattle.hex_form.specs.Line.{all, sum, digit, digit_at, byte, size, offset, kind, ending, width, span, written, summed}
use Rattle.hex_form.specs.Writing.{pairs, at, checksum, line_text, line_bytes}
use Rattle.hex_form.proofs.Texts.{pairs_long}

-- ---- digits

digit_back : (n : ℕ) → n < 16 → digit (hex_digit n) ≡ n
unfolding digit hex_digit
digit_back n h = agree (λ i. digit (hex_digit i)) (λ i. i) 0 0 16 n refl zero-le h

-- characters of pairs, by the byte that they write
high_char : (m w : List ℕ) (i : ℕ) → i < length m → get_or (pairs m ++ w) (2 * i) 0 ≡ hex_digit (get_or m i 0 / 16 % 16)
unfolding pairs hex
high_char [] w i h = absurd (not-suc-le-zero h)
high_char (b ∷ m) w zero h = refl
high_char (b ∷ m) w (suc i) h = let e : 2 * suc i ≡ suc (suc (2 * i)) = omega arith in rw e (high_char m w i (le_of_suc-le-suc h))

low_char : (m w : List ℕ) (i : ℕ) → i < length m → get_or (pairs m ++ w) (suc (2 * i)) 0 ≡ hex_digit (get_or m i 0 % 16)
unfolding pairs hex
low_char [] w i h = absurd (not-suc-le-zero h)
low_char (b ∷ m) w zero h = refl
low_char (b ∷ m) w (suc i) h = let e : 2 * suc i ≡ suc (suc (2 * i)) = omega arith in rw e (low_char m w i (le_of_suc-le-suc h))

digit_char : (m w : List ℕ) (i : ℕ) → i < 2 * length m → digit (get_or (pairs m ++ w) i 0) < 16
unfolding pairs hex
digit_char [] w i h = absurd (not-suc-le-zero h)
digit_char (b ∷ m) w zero h = rw (digit_back (b / 16 % 16) (omega arith)) (omega arith)
digit_char (b ∷ m) w (suc zero) h = rw (digit_back (b % 16) (omega arith)) (omega arith)
digit_char (b ∷ m) w (suc (suc i)) h = digit_char m w i (omega arith)

-- ---- the bytes of a line

module _ (m w : List ℕ) where
  byte_back : Bytes m → (i : ℕ) → i < length m → byte (58 ∷ (pairs m ++ w)) i ≡ get_or m i 0
  unfolding byte
  byte_back bytes i h =
      let b = get_or m i 0 in
      let e₁ : 2 * i + 1 ≡ suc (2 * i) = omega arith in
      let e₂ : 2 * i + 2 ≡ suc (suc (2 * i)) = omega arith in
      let small = bytes i in
      let r : (16 * (b / 16 % 16) + b % 16) % 256 ≡ b = omega arith in
      rw (e₁, e₂, high_char m w i h, low_char m w i h, digit_back (b / 16 % 16) (omega arith), digit_back (b % 16) (omega arith)) r

  digits_back : (k : ℕ) → k ≤ 2 * length m → all (digit_at (58 ∷ (pairs m ++ w))) k ≡ true
  unfolding all digit_at
  digits_back zero h = refl
  digits_back (suc k) h = rw (digits_back k (omega arith), add-one k, lt-ltb (digit (get_or (pairs m ++ w) k 0)) 16 (digit_char m w k (omega arith)))

-- ---- sums

pub sum_alike : (f g : ℕ → ℕ) (k : ℕ) → ((i : ℕ) → i < k → f i ≡ g i) → sum f k ≡ sum g k
unfolding sum
sum_alike f g zero e = refl
sum_alike f g (suc k) e = rw (sum_alike f g k (λ i h. e i (omega arith)), e k (omega arith))

sum_small : (f : ℕ → ℕ) (k : ℕ) → sum f k < 256
unfolding sum
sum_small f zero = lit≤ tt
sum_small f (suc k) = omega arith

-- the sum with the checksum is 0
sum_zero : (l : List ℕ) → sum (at (l ++ (checksum l ∷ []))) (length l + 1) ≡ 0
unfolding sum at checksum
sum_zero l =
    let c = checksum l in
    let s = sum (at l) (length l) in
    let small = sum_small (at l) (length l) in
    let e : sum (at (l ++ (c ∷ []))) (length l) ≡ s = sum_alike (at (l ++ (c ∷ []))) (at l) (length l) (λ i h. get_or-append l (c ∷ []) 0 i h) in
    let z : (s + (256 - s) % 256) % 256 ≡ 0 = omega arith in
    rw (add-one (length l), e, get_or_at l c [] 0 (length l) refl) z

-- ---- lists of bytes

bytes_cons : (b : ℕ) (l : List ℕ) → b < 256 → Bytes l → Bytes (b ∷ l)
bytes_cons b l h k zero = h
bytes_cons b l h k (suc i) = k i

bytes_snoc : (l : List ℕ) (b : ℕ) → Bytes l → b < 256 → Bytes (l ++ (b ∷ []))
bytes_snoc [] b h k = bytes_cons b [] k h
bytes_snoc (c ∷ l) b h k = bytes_cons c (l ++ (b ∷ [])) (h 0) (bytes_snoc l b (λ i. h (suc i)) k)

-- ---- a whole line

pairs_append : (x y : List ℕ) → pairs (x ++ y) ≡ pairs x ++ pairs y
unfolding pairs
pairs_append [] y = refl
pairs_append (b ∷ x) y = ap (λ (l : List ℕ). hex 2 b ++ l) (pairs_append x y) ∙ sym (append_assoc (hex 2 b) (pairs x) (pairs y))

shape : (l t : List ℕ) → line_text l ++ t ≡ 58 ∷ (pairs (l ++ (checksum l ∷ [])) ++ (10 ∷ t))
unfolding line_text pairs hex
shape l t = rw (pairs_append l (checksum l ∷ []), append_assoc (pairs l), append_assoc (pairs l))

-- a line of kind k, offset o and data x stands at the start of s, and t behind it
pub record Back (k o : ℕ) (x s t : List ℕ) : Type 0 where
  pub sizes : size s ≡ length x
  pub offsets : offset s ≡ o
  pub kinds : kind s ≡ k
  pub bytes : (i : ℕ) → i < length x → byte s (i + 4) ≡ get_or x i 0
  pub writes : written s ≡ true
  pub sums : summed s ≡ true
  pub spans : span s ≡ 2 * length x + 12
  pub rests : drop (span s) s ≡ t

module _ (k o : ℕ) (x t : List ℕ) (hk : k < 256) (ho : o < 65536) (hx : length x ≤ 255) (bytes-x : Bytes x) where
  l : List ℕ
  l = line_bytes k o x

  m : List ℕ
  m = line_bytes k o x ++ (checksum (line_bytes k o x) ∷ [])

  s : List ℕ
  s = 58 ∷ (pairs m ++ (10 ∷ t))

  m_long : length m ≡ length x + 5
  unfolding m line_bytes
  m_long = length-append (line_bytes k o x) (checksum (line_bytes k o x) ∷ []) ∙ omega arith

  m_bytes : Bytes m
  unfolding m line_bytes checksum
  m_bytes = bytes_snoc (line_bytes k o x) (checksum (line_bytes k o x)) (bytes_cons (length x) (o / 256 ∷ (o % 256 ∷ (k ∷ x))) (omega arith) (bytes_cons (o / 256) (o % 256 ∷ (k ∷ x)) (omega arith) (bytes_cons (o % 256) (k ∷ x) (omega arith) (bytes_cons k x hk bytes-x)))) (omega arith)

  at_back : (i : ℕ) → i < length x + 5 → byte s i ≡ get_or m i 0
  unfolding s
  at_back i h = byte_back m (10 ∷ t) m_bytes i (rw m_long h)

  size_back : size s ≡ length x
  unfolding size m line_bytes
  size_back = at_back 0 (omega arith)

  offset_back : offset s ≡ o
  unfolding offset m line_bytes
  offset_back = let e : 256 * (o / 256) + o % 256 ≡ o = omega arith in rw (at_back 1 (omega arith), at_back 2 (omega arith)) e

  kind_back : kind s ≡ k
  unfolding kind m line_bytes
  kind_back = at_back 3 (omega arith)

  data_back : (i : ℕ) → i < length x → byte s (i + 4) ≡ get_or x i 0
  unfolding m line_bytes
  data_back i h =
      let e : i + 4 ≡ suc (suc (suc (suc i))) = omega arith in
      at_back (i + 4) (omega arith) ∙ rw e (get_or-append x (checksum (line_bytes k o x) ∷ []) 0 i h)

  width_back : width s ≡ suc (2 * length m)
  unfolding width
  width_back = omega (arith, size_back, m_long)

  ending_back : ending s (width s) ≡ 1
  unfolding ending s
  ending_back = rw (width_back, get_or_at (pairs m) 10 t 0 (2 * length m) (pairs_long m))

  written_back : written s ≡ true
  unfolding written s
  written_back = rw (digits_back m (10 ∷ t) (2 * size s + 10) (omega (arith, size_back, m_long)), ending_back)

  l_long : length l ≡ length x + 4
  unfolding l line_bytes
  l_long = omega arith

  same_bytes : (i : ℕ) → i < length l + 1 → byte s i ≡ at m i
  unfolding at
  same_bytes i h = at_back i (omega (arith, l_long))

  zero_sum : sum (at m) (length l + 1) ≡ 0
  unfolding m l
  zero_sum = sum_zero (line_bytes k o x)

  summed_back : summed s ≡ true
  unfolding summed
  summed_back =
      let e : size s + 5 ≡ length l + 1 = omega (arith, size_back, l_long) in
      eq-eqb (sum (byte s) (size s + 5)) 0 (rw e (sum_alike (byte s) (at m) (length l + 1) same_bytes ∙ zero_sum))

  span_back : span s ≡ 2 * length x + 12
  unfolding span
  span_back = omega (arith, ending_back, width_back, m_long)

  rest_back : drop (span s) s ≡ t
  unfolding s
  rest_back =
      let e : span s ≡ suc (suc (2 * length m)) = omega (arith, span_back, m_long) in
      rw e (drop_behind (2 * length m) (pairs m) (pairs_long m))
    where
      drop_behind : (j : ℕ) (p : List ℕ) → length p ≡ j → drop (suc j) (p ++ (10 ∷ t)) ≡ t
      drop_behind zero [] e = refl
      drop_behind zero (b ∷ p) e = let z : 1 ≤ 0 = omega arith in absurd (not-suc-le-zero z)
      drop_behind (suc j) [] e = let z : 1 ≤ 0 = omega arith in absurd (not-suc-le-zero z)
      drop_behind (suc j) (b ∷ p) e = drop_behind j p (omega arith)

  pub line_back : Back k o x (line_text (line_bytes k o x) ++ t) t
  unfolding s m
  line_back =
      rw (shape (line_bytes k o x) t)
      (record {
        sizes = size_back;
        offsets = offset_back;
        kinds = kind_back;
        bytes = data_back;
        writes = written_back;
        sums = summed_back;
        spans = span_back;
        rests = rest_back;
      })
