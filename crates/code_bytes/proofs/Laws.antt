-- What each return of the code comes to, over plain values.
use Rattle.std.proofs.Common.{◌≡◌, ℕ, ◌+◌, ◌*◌, ◌<◌, ◌≤◌, Bool, true, false, List, add_assoc, arith, le-leb}
use borrow.Author.Tests.{lt-leb}
use Rattle.sheet.specs.Width.{add16, sign_of, extend}
use Rattle.sheet.specs.Memory.{byte_at, physical}
use Rattle.sheet.specs.Reading.{byte, word, signed_byte, immediate}
use Rattle.sheet.specs.Contract.{Reads}
use Rattle.sheet.proofs.ReadingLaws.{reads_seq, reads_got, reads_byte, read_true, read_false}
use Rattle.code_answer.specs.Answer.{Takes}

pub byte_reads : (ram rom : List ℕ) (ps pc i o b : ℕ) → o ≡ add16 pc i → b ≡ byte_at ram rom (physical ps o) → Reads ℕ byte (λ j. byte_at ram rom (physical ps (add16 pc j))) i b (i + 1)
byte_reads ram rom ps pc i o b e h = reads_byte (rw e at h)

module _ {src : ℕ → ℕ} {i : ℕ} where
  pub word_reads : (low high v : ℕ) → v ≡ low + high * 256 → Reads ℕ byte src i low (i + 1) → Reads ℕ byte src (i + 1) high (i + 1 + 1) → Reads ℕ word src i v (i + 2)
  unfolding word
  word_reads low high v e x y =
      let h : Reads ℕ word src i (low + 256 * high) (i + 1 + 1) = reads_seq _ x (reads_seq _ y reads_got) in
      let q : v ≡ low + 256 * high = omega (arith, e) in
      rw q (rw (add_assoc i 1 1) at h)

  signed_reads : (b v : ℕ) → Reads ℕ byte src i b (i + 1) → v ≡ extend b → Reads ℕ signed_byte src i v (i + 1)
  unfolding signed_byte
  signed_reads b v x e = rw e (reads_seq _ x reads_got)

  -- a byte below 128 stays as it is
  pub positive_reads : (b : ℕ) → Reads ℕ byte src i b (i + 1) → b < 128 → Reads ℕ signed_byte src i b (i + 1)
  unfolding extend sign_of
  positive_reads b x h = signed_reads b b x (rw (lt-leb 128 b h))

  pub negative_reads : (b : ℕ) → Reads ℕ byte src i b (i + 1) → 128 ≤ b → Reads ℕ signed_byte src i (b + 65280) (i + 1)
  unfolding extend sign_of
  negative_reads b x h = signed_reads b (b + 65280) x (rw (le-leb 128 b h))

  pub immediate_word : (w : Bool) (v : ℕ) → w ≡ true → Reads ℕ word src i v (i + 2) → Takes ℕ (immediate w) src i v (i + 2) 2
  unfolding immediate
  immediate_word w v e x = record { reads = read_true _ _ e x; most = omega arith }

  pub immediate_byte : (w : Bool) (v : ℕ) → w ≡ false → Reads ℕ byte src i v (i + 1) → Takes ℕ (immediate w) src i v (i + 1) 2
  unfolding immediate
  immediate_byte w v e x = record { reads = read_false _ _ e x; most = omega arith }

  pub far_reads : (offset segment : ℕ) → Reads ℕ word src i offset (i + 2) → Reads ℕ word src (i + 2) segment (i + 2 + 2) → Reads ℕ word src i offset (i + 2) × Reads ℕ word src (i + 2) segment (i + 4)
  far_reads offset segment x y = (x, rw (add_assoc i 2 2) at y)
