-- What each return of the code comes to, over plain values.
use Prim.Native.Nat.{ℕ, zero, suc, ◌+◌, ◌*◌, ◌/◌, ◌%◌, ◌≤◌, ◌<◌}
use mathlib.Core.Path.{◌≡◌, refl, ◌∙◌}
use mathlib.Core.List.{List}
use native.Mathlib.Decide.{ℕ_discrete}
use native.Mathlib.Omega.{arith}
use lib.ListN.{get_or, set, length-set}
use lib.Seq.{get_or-set_same, get_or-set_other}
use Rattle.sheet.specs.declared.Instr.{Instr}
use Rattle.sheet.specs.Memory.{byte_at}
use Rattle.sheet.specs.Reading.{scan, length_of}
use Rattle.sheet.specs.FirstByte.{instruction}
use Rattle.sheet.specs.Step.{code_byte}
use Rattle.sheet.proofs.ReadingLaws.{scan_rests}
use Rattle.code_answer.specs.Answer.{Answer, known_as, Decodes}
use Rattle.code_answer.proofs.DecodesLaws.{known_reads}
use Rattle.quick_place.specs.Packed.{byte_of}
use Rattle.quick_pack.specs.Readings.{Packs, none, packs}
use Rattle.std.specs.Int.{to_le_bytes, w64}
use Rattle.quick_reading.specs.declared.Slot.{Slot}
use Rattle.quick_reading.specs.Readings.{Means, general, quick, unused, Remembers}

-- ---- a window decoded

abbrev window_bytes : ℕ → List ℕ
window_bytes w = to_le_bytes w64 w

-- the window as memory, from address 0 on
stored : (w : ℕ) (rom : List ℕ) (j : ℕ) → j < 8 → code_byte (window_bytes w) rom 0 0 j ≡ byte_of w j
unfolding byte_at byte_of
stored w rom zero h = refl
stored w rom (suc zero) h = refl
stored w rom (suc (suc zero)) h = let e : w / 65536 % 256 ≡ w / 256 / 256 % 256 = omega arith in e
stored w rom (suc (suc (suc zero))) h = let e : w / 16777216 % 256 ≡ w / 256 / 256 / 256 % 256 = omega arith in e
stored w rom (suc (suc (suc (suc zero)))) h = let e : w / 4294967296 % 256 ≡ w / 256 / 256 / 256 / 256 % 256 = omega arith in e
stored w rom (suc (suc (suc (suc (suc zero))))) h = let e : w / 1099511627776 % 256 ≡ w / 256 / 256 / 256 / 256 / 256 % 256 = omega arith in e
stored w rom (suc (suc (suc (suc (suc (suc zero)))))) h = let e : w / 281474976710656 % 256 ≡ w / 256 / 256 / 256 / 256 / 256 / 256 % 256 = omega arith in e
stored w rom (suc (suc (suc (suc (suc (suc (suc zero))))))) h = let e : w / 72057594037927936 % 256 ≡ w / 256 / 256 / 256 / 256 / 256 / 256 / 256 % 256 = omega arith in e
stored w rom (suc (suc (suc (suc (suc (suc (suc (suc j)))))))) h = absurd (omega arith)

-- an instruction rests on its own bytes alone, which the window has
window_decodes : (w : ℕ) (rom : List ℕ) (i : Instr) (n : ℕ) → n ≤ 8 → Decodes instruction (code_byte (window_bytes w) rom 0 0) 0 (known_as i n) → Decodes instruction (byte_of w) 0 (known_as i n)
window_decodes w rom i n h d =
    let e = (known_reads i n d).is in
    let src : ℕ → ℕ = code_byte (window_bytes w) rom 0 0 in
    let same : scan instruction src 0 ≡ scan instruction (byte_of w) 0 = scan_rests instruction src (byte_of w) 0 (λ j l k. (let m : length_of (scan instruction src 0) ≡ n = rw e in stored w rom j (omega arith))) in
    record { is = rw (← same) d.is }

pub means : (w : ℕ) (code rom : List ℕ) (d : Answer Instr) (i : Instr) (n r : ℕ) → code ≡ window_bytes w → Decodes instruction (code_byte code rom 0 0) 0 d → d ≡ known_as i n → Packs i n r → Means w r
means w code rom d i n r e h k (none z) = general z
means w code rom d i n r e h k (packs l size instr) =
    quick (rw size l) (rw (size, instr) (window_decodes w rom i n l (rw (e, k) at h)))

-- ---- the memo

pub recalled : (m : List Slot) (i w r : ℕ) → i < 1024 → Remembers m → (get_or m i unused).window ≡ w → r ≡ (get_or m i unused).reading.bits → Means w r
recalled m i w r k h e q = rw (← e, q) (h.at i k)

pub remembered : (m m' : List Slot) (n : ℕ) (s : Slot) → n < 1024 → Remembers m → Means s.window s.reading.bits → m' ≡ set m n s → Remembers m'
remembered m m' n s l h x e = rw e (record { long = length-set m n s ∙ h.long; at = λ i k. go i k (ℕ_discrete i n) })
  where
    go : (i : ℕ) → i < 1024 → Dec (i ≡ n) → Means (get_or (set m n s) i unused).window (get_or (set m n s) i unused).reading.bits
    go i k (yes q) = let long = h.long in rw (q, get_or-set_same m n s unused (omega arith)) x
    go i k (no q) = rw (get_or-set_other m n i s unused (λ z. q z)) (h.at i k)
