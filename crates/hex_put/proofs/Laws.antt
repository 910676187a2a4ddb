-- What the writer of one line puts down. Assumes nothing.
use Prim.Native.Nat.{ℕ, zero, suc, ◌+◌, ◌-◌, ◌*◌, ◌%◌, ◌≤◌, ◌<◌}
use mathlib.Core.Path.{◌≡◌, refl, sym, ap, ◌∙◌}
use mathlib.Core.List.{List, [], ◌∷◌, ◌++◌, append-nil, append_assoc}
use native.Mathlib.Numerals.{add-one}
use native.Mathlib.Omega.{arith}
use lib.ListN.{length, get_or, take, drop}
use lib.Seq.{take-suc, take_at, length-take-le}
use borrow.Rule.Slice.PartMut.{put_mid}
use Rattle.base_laws.specs.Writes.{Writes}
use Rattle.base_laws.proofs.Writing.{same, room, more}
use Rattle.base_text.specs.Text.{hex}
use Rattle.base_line.specs.Adds.{Adds}
use Rattle.base_line.proofs.Laws.{nothing, then}
use Rattle.hex_form.specs.Line.{sum}
use Rattle.hex_form.specs.Writing.{pairs, at, checksum, line_text, head_bytes, line_bytes}
use Rattle.hex_form.proofs.Texts.{record_long}

-- ---- the bytes of a line as digits

pairs_append : (x y : List ℕ) → pairs (x ++ y) ≡ pairs x ++ pairs y
unfolding pairs
pairs_append [] y = refl
pairs_append (b ∷ x) y = ap (λ (l : List ℕ). hex 2 b ++ l) (pairs_append x y) ∙ sym (append_assoc (hex 2 b) (pairs x) (pairs y))

pub no_pairs : (x line : List ℕ) → Adds (pairs (take 0 x)) line line
unfolding pairs
no_pairs x line = nothing line

pub more_pairs : (x : List ℕ) (i : ℕ) {line line' line'' : List ℕ} → i < length x → Adds (pairs (take i x)) line line' → Adds (hex 2 (get_or x i 0)) line' line'' → Adds (pairs (take (i + 1) x)) line line''
unfolding pairs
more_pairs x i h p q =
    let c = get_or x i 0 in
    rw (add-one i, take-suc x i 0 h, pairs_append (take i x) (c ∷ []), append-nil (hex 2 c)) (then p q)

-- ---- the checksum

pub sum_none : (f : ℕ → ℕ) → 0 ≡ sum f 0
unfolding sum
sum_none f = refl

pub sum_more : (l : List ℕ) (k : ℕ) {s : ℕ} → s ≡ sum (at l) k → (s + get_or l k 0) % 256 ≡ sum (at l) (k + 1)
unfolding at sum
sum_more l k e = rw (add-one k, e)

pub sum_bound : (f : ℕ → ℕ) (k : ℕ) {r : ℕ} → r ≡ sum f k → r < 256
unfolding sum
sum_bound f zero e = omega arith
sum_bound f (suc k) e = omega arith

-- ---- a whole line

pub line_added : (l : List ℕ) {line line₁ line₂ line₃ line₄ : List ℕ} {k : ℕ} → Adds (58 ∷ []) line line₁ → Adds (pairs l) line₁ line₂ → k ≡ checksum l
    → Adds (hex 2 k) line₂ line₃ → Adds (10 ∷ []) line₃ line₄ → Adds (line_text l) line line₄
unfolding line_text
line_added l p q e s t = then p (then q (then (rw e at s) t))

module _ (k o : ℕ) (x : List ℕ) {s l : List ℕ} {r : ℕ} (w : Writes (head_bytes k o (length x)) s r l) where
  pub head_within : r ≤ length l
  head_within = omega (arith, w.within, same w)

  pub data_room : length x ≤ 16 → 20 ≤ length s → length x ≤ length (take (length l - r) (drop r l))
  data_room h q = room w x (omega arith)

  pub data_fits : {q : ℕ} {z : List ℕ} → Writes x (take (length l - r) (drop r l)) q z → r + q ≤ length s
  data_fits {q} {z} v = (more w x z q v).within

  pub filled : {q : ℕ} {z : List ℕ} → Writes x (take (length l - r) (drop r l)) q z → Writes (line_bytes k o x) s (r + q) (put_mid r (length l - r) l z)
  unfolding line_bytes
  filled {q} {z} v = more w x z q v

-- ---- a line in a buffer

module _ (k o : ℕ) (x : List ℕ) {n : ℕ} {bytes bytes' : List ℕ} (h : length x ≤ 16) (w : Writes (line_bytes k o x) bytes n bytes') where
  pub bytes_within : n ≤ length bytes'
  bytes_within = omega (arith, w.within, same w)

  pub bytes_long : n ≡ length (take n bytes')
  bytes_long = sym (length-take-le n bytes' bytes_within)

  bytes_known : take n bytes' ≡ line_bytes k o x
  bytes_known = ap (take n) w.left ∙ take_at (line_bytes k o x) (drop (length (line_bytes k o x)) bytes) n (sym w.count)

  pub line_made : {start line : List ℕ} → start ≡ [] → Adds (line_text (take n bytes')) start line → line ≡ line_text (line_bytes k o x)
  line_made e p = (rw (bytes_known, e) at p).adds (omega (arith, record_long k o x))

pub record_room : (k o : ℕ) (x out : List ℕ) → 2 * length x + 12 ≤ length out → length (line_text (line_bytes k o x)) ≤ length out
record_room k o x out h = omega (arith, record_long k o x)
