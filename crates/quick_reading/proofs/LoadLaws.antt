-- MOV reg16,imm16, from its window to its reading.
use Prim.Native.Nat.{ℕ, ◌+◌, ◌*◌, ◌/◌, ◌%◌, ◌≤◌, ◌<◌}
use mathlib.Core.Path.{◌≡◌, refl}
use mathlib.Core.Bool.{true}
use Rattle.std.specs.Prelude.{None}
use native.Mathlib.Omega.{arith}
use lib.Dec.{lit≤}
use lib.ListN.{get_or}
use mathlib.Core.List.{List}
use Rattle.std.specs.Int.{to_le_bytes, w64}
use borrow.Author.Tests.{ne_eqb}
use Rattle.sheet.specs.declared.Place.TheVariants.{Register}
use Rattle.sheet.specs.declared.Source.TheVariants.{Immediate}
use Rattle.sheet.specs.declared.Transfer.TheVariants.{Mov}
use Rattle.sheet.specs.Groups.{Transfers}
use Rattle.sheet.specs.Reading.{◌>>=◌, byte, word, scan}
use Rattle.sheet.specs.Encoding.{prefix_of, unprefixed}
use Rattle.sheet.specs.FirstByte.{first_bytes, after_prefix, prefixed, instruction}
use Rattle.sheet.specs.Contract.{Reads}
use Rattle.code_answer.specs.Answer.{known_as, Decodes, Names}
use Rattle.code_answer.proofs.CodeLaws.{at_row}
use Rattle.code_answer.proofs.DecodesLaws.{decodes_seq}
use Rattle.code_answer.proofs.FollowLaws.{with_word_lem}
use Rattle.quick_place.specs.Packed.{byte_of, Joined, unjoined, joined}
use Rattle.quick_pack.proofs.KindLaws.{is_7}
use Rattle.quick_reading.specs.Readings.{Means, general, quick}

module _ (src : ℕ → ℕ) (low : 0xb8 ≤ src 0) (high : src 0 < 0xc0) where
  no_prefix : prefix_of (src 0) ≡ None
  unfolding prefix_of
  no_prefix =
      rw (ne_eqb (src 0) 0x26 (λ e. omega arith), ne_eqb (src 0) 0x2e (λ e. omega arith), ne_eqb (src 0) 0x36 (λ e. omega arith), ne_eqb (src 0) 0x3e (λ e. omega arith), ne_eqb (src 0) 0x64 (λ e. omega arith), ne_eqb (src 0) 0x65 (λ e. omega arith), ne_eqb (src 0) 0xf0 (λ e. omega arith), ne_eqb (src 0) 0xf2 (λ e. omega arith), ne_eqb (src 0) 0xf3 (λ e. omega arith))

  value_read : Reads ℕ word src 1 (src 1 + 256 * src 2) 3
  unfolding word scan ◌>>=◌
  value_read = record { is = refl }

  named : Names (first_bytes unprefixed) (src 0) src 1 (known_as (Transfers (Mov true (Register (src 0 % 8)) (Immediate (src 1 + 256 * src 2)))) 3)
  named = at_row 0xb8 refl low high (with_word_lem _ value_read refl)

  first_read : Reads ℕ byte src 0 (src 0) 1
  unfolding scan
  first_read = record { is = refl }

  load_decodes : Decodes instruction src 0 (known_as (Transfers (Mov true (Register (src 0 % 8)) (Immediate (src 1 + 256 * src 2)))) 3)
  unfolding instruction prefixed after_prefix
  load_decodes = decodes_seq _ first_read (rw no_prefix named.is)

decodes : (w m v : ℕ) → w % 256 / 8 ≡ 0x17 → m ≡ w % 256 % 8 → v ≡ w / 256 % 256 + w / 65536 % 256 * 256 → Decodes instruction (byte_of w) 0 (known_as (Transfers (Mov true (Register m) (Immediate v))) 3)
unfolding byte_of
decodes w m v h e q =
    let x : w % 256 % 8 ≡ m = omega arith in
    let y : w / 256 % 256 + 256 * (w / 256 / 256 % 256) ≡ v = omega arith in
    rw (x, y) at (load_decodes (byte_of w) (omega arith) (omega arith))

pub load_means : (w m v r : ℕ) (code : List ℕ) → w % 256 / 8 ≡ 0x17 → code ≡ to_le_bytes w64 w → m ≡ get_or code 0 0 % 8 → v ≡ get_or code 1 0 + get_or code 2 0 * 256 → Joined 7 3 m 0 0 0 true 0 v r → Means w r
load_means w m v r code h b e q j = load w m v r h (rw b at e) (rw b at q) j
  where
    load : (w m v r : ℕ) → w % 256 / 8 ≡ 0x17 → m ≡ w % 256 % 8 → v ≡ w / 256 % 256 + w / 65536 % 256 * 256 → Joined 7 3 m 0 0 0 true 0 v r → Means w r
    load w m v r h e q (unjoined z) = general z
    load w m v r h e q (joined l f) = quick (rw f.size_is (lit≤ tt)) (rw (f.size_is, is_7 f) (decodes w m v h e q))
