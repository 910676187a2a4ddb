-- What the writer of lines puts down. Assumes nothing.
use Prim.Native.Nat.{ℕ, ◌+◌, ◌-◌, ◌*◌, ◌/◌, ◌%◌, ◌≤◌, ◌<◌}
use mathlib.Core.Path.{◌≡◌, sym, ap, ◌∙◌}
use mathlib.Core.List.{List, [], ◌∷◌}
use native.Mathlib.Omega.{arith}
use lib.ListN.{length, take, drop, length-append}
use borrow.Rule.Slice.PartMut.{put_mid}
use Rattle.base_laws.specs.Writes.{Writes}
use Rattle.base_laws.proofs.Writing.{none, same, room, more}
use Rattle.hex_form.specs.Writing.{line_text, line_bytes, data_text, segment_text, segment_for, turn_text, chunk_text}
use Rattle.hex_form.proofs.Texts.{record_long, segment_low, segment_fits, segment_kept, segment_new, no_turn, turn, chunk_long}

module _ (g a : ℕ) where
  pub kept : a + 16 ≤ 16 * g + 65536 → g ≡ segment_for g a
  kept h = sym (segment_kept g a h)

  pub new : 16 * g + 65536 < a + 16 → a / 16 ≡ segment_for g a
  new h = sym (segment_new g a h)

  pub turned_none : (out : List ℕ) → a + 16 ≤ 16 * g + 65536 → Writes (turn_text g a) out 0 out
  turned_none out h = rw (no_turn g a h) (none out)

  pub turn_room : (out : List ℕ) → 16 * g + 65536 < a + 16 → length (turn_text g a) ≤ length out → 16 ≤ length out
  unfolding segment_text
  turn_room out h q = let e = ap length (turn g a h) ∙ record_long 2 0 (a / 16 / 256 ∷ (a / 16 % 256 ∷ [])) in omega arith

  pub turned : {out out' : List ℕ} {r : ℕ} → 16 * g + 65536 < a + 16 → Writes (segment_text (a / 16)) out r out' → Writes (turn_text g a) out r out'
  turned h w = rw (turn g a h) w

  pub segment_under : 16 * g ≤ a → {h : ℕ} → h ≡ segment_for g a → 16 * h ≤ a
  segment_under low e = rw e (segment_low g a low)

  pub offset_small : 16 * g ≤ a → {h : ℕ} → h ≡ segment_for g a → a - 16 * h ≤ 65535
  offset_small low e = rw e (omega (arith, segment_fits g a low))

  -- the room for a chunk is room for its first line
  pub chunk_front : (x out : List ℕ) → length (chunk_text g a x) ≤ length out → length (turn_text g a) ≤ length out
  chunk_front x out h = omega (arith, chunk_long g a x)

  module _ (x : List ℕ) {s l : List ℕ} {r : ℕ} (w : Writes (turn_text g a) s r l) where
    pub turn_within : r ≤ length l
    turn_within = omega (arith, w.within, same w)

    pub data_room : length (chunk_text g a x) ≤ length s → 2 * length x + 12 ≤ length (take (length l - r) (drop r l))
    data_room q = rw (← record_long 0 0 x) (room w (line_text (line_bytes 0 0 x)) (omega (arith, chunk_long g a x, record_long 0 0 x, length-append (turn_text g a) (line_text (line_bytes 0 0 x)))))

    module _ {h q : ℕ} {z : List ℕ} (e : h ≡ segment_for g a) (v : Writes (line_text (line_bytes 0 (a - 16 * h) x)) (take (length l - r) (drop r l)) q z) where
      chunk : Writes (chunk_text g a x) s (r + q) (put_mid r (length l - r) l z)
      unfolding chunk_text data_text
      chunk = more w (data_text (a - 16 * segment_for g a) x) z q (rw e at v)

      pub chunk_fits : r + q ≤ length s
      chunk_fits = chunk.within

      pub chunk_put : Writes (chunk_text g a x) s (r + q) (put_mid r (length l - r) l z)
      chunk_put = chunk
