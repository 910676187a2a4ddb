-- Engine and listing read the same in native mode, wherever an instruction lies in the image whole.
use Prim.Native.Nat.{ℕ, ◌+◌, ◌-◌, ◌*◌, ◌/◌, ◌%◌, ◌≤◌, ◌<◌, zero-le}
use mathlib.Core.Path.{◌≡◌, refl, sym, ap, ◌∙◌}
use mathlib.Core.Bool.{true}
use mathlib.Core.List.{List, []}
use native.Mathlib.Nat.{mod-eq_of_lt, mod-lt, add_assoc}
use native.Mathlib.Omega.{arith}
use lib.ListN.{length}
use lib.Dec.{lit<}
use borrow.Author.Tests.{le-ltb, le-leb}
use Rattle.sheet.specs.declared.Instr.{Instr}
use Rattle.sheet.specs.Width.{pick}
use Rattle.sheet.specs.Psw.{native_of}
use Rattle.sheet.specs.Memory.{physical, byte_at}
use Rattle.sheet.specs.Reading.{Read, known, length_of, scan}
use Rattle.sheet.specs.FirstByte.{instruction}
use Rattle.sheet.specs.CardCodes.{card_instruction}
use Rattle.sheet.specs.Registers.{PS, PC, file_of}
use Rattle.sheet.specs.World.{World, psw_of}
use Rattle.sheet.specs.Step.{code_at, code_byte, source, instruction_in}
use Rattle.sheet.proofs.ReadingLaws.{scan_rests}
use Rattle.rom_form.specs.Listing.{top, read_at, whole, size_of, size_at}
use Rattle.rom_form.proofs.NineBytes.{nine_read, nine_bytes}

-- the n bytes at PS:PC lie in the image, above whatever RAM there is, and the offset does not wrap among them
pub record Lies (ram image : List ℕ) (ps pc n : ℕ) : Type 0 where
  pub fits : length ram + length image ≤ top
  pub begins : top - length image ≤ physical ps pc
  pub ends : n ≤ top - physical ps pc
  pub unwrapped : pc + n ≤ 65536

-- ---- where the bytes are

-- the jth byte, where neither offset nor address wraps
unwrapped_at : (ps pc j : ℕ) → pc + j < 65536 → physical ps pc + j < top → code_at ps pc j ≡ physical ps pc + j
unwrapped_at ps pc j h k = rw (mod-eq_of_lt h, ← add_assoc (ps * 16) pc j) (sum_at (ps * 16 + pc) j k)
  where
    sum_at : (x j : ℕ) → x % top + j < top → (x + j) % top ≡ x % top + j
    sum_at x j h = omega arith

-- an address by its paragraph
paragraph_at : (a : ℕ) → a < top → physical (a / 16) (a % 16) ≡ a
paragraph_at a h = omega arith

above_ram : (ram image : List ℕ) (a : ℕ) → length ram ≤ a → byte_at [] image a ≡ byte_at ram image a
unfolding byte_at
above_ram ram image a h = rw (le-ltb a 0 zero-le, le-ltb a (length ram) h)

module _ (ram image : List ℕ) (ps pc : ℕ) where
  -- the bytes that the engine reads, and those that the listing reads
  abbrev engine_byte : ℕ → ℕ
  engine_byte = code_byte ram image ps pc

  abbrev listed_byte : ℕ → ℕ
  listed_byte = code_byte [] image (physical ps pc / 16) (physical ps pc % 16)

  same_byte : {n : ℕ} → Lies ram image ps pc n → n ≤ 9 → (j : ℕ) → j < n → engine_byte j ≡ listed_byte j
  same_byte {n} l most j h = rw (read, listed) (sym (above_ram ram image (a + j) (omega arith)))
    where
      a : ℕ
      a = physical ps pc

      inside : a < top
      inside = mod-lt (ps * 16 + pc) (lit< tt)

      paragraph : physical (a / 16) (a % 16) ≡ a
      paragraph = paragraph_at a inside

      read : code_at ps pc j ≡ a + j
      read = unwrapped_at ps pc j (omega arith) (omega arith)

      listed : code_at (a / 16) (a % 16) j ≡ a + j
      listed = unwrapped_at (a / 16) (a % 16) j (omega arith) (omega arith) ∙ ap (λ x. x + j) paragraph

-- ---- what is read there

module _ (w : World) (native : native_of (psw_of w.state) ≡ true) where
  abbrev ps : ℕ
  ps = file_of w.state.file PS

  abbrev pc : ℕ
  pc = file_of w.state.file PC

  abbrev listed : ℕ → ℕ
  listed = listed_byte w.ram w.rom ps pc

  as_native : instruction_in w ≡ scan instruction (source w) 0
  unfolding instruction_in
  as_native = ap (λ b. scan (pick b instruction card_instruction) (source w) 0) native

  -- what the listing reads, instruction or refusal, the engine reads in native mode with the image as its ROM
  pub engine_reads : (r : Read Instr) → Lies w.ram w.rom ps pc (length_of r) → read_at w.rom (physical ps pc) ≡ r → instruction_in w ≡ r
  unfolding read_at
  engine_reads r l e = as_native ∙ sym (scan_rests instruction listed (source w) 0 (λ j low high. sym (same_byte w.ram w.rom ps pc l (rw e at (nine_read listed)) j (rw e at high)))) ∙ e

  -- and the other way round
  pub listing_reads : (r : Read Instr) → Lies w.ram w.rom ps pc (length_of r) → instruction_in w ≡ r → read_at w.rom (physical ps pc) ≡ r
  unfolding read_at
  listing_reads r l e =
      let f : scan instruction (source w) 0 ≡ r = sym as_native ∙ e in
      sym (scan_rests instruction (source w) listed 0 (λ j low high. same_byte w.ram w.rom ps pc l (rw f at (nine_read (source w))) j (rw f at high))) ∙ f

  -- the line there names as many bytes as the engine's instruction has
  pub same_length : (i : Instr) (n : ℕ) → Lies w.ram w.rom ps pc n → instruction_in w ≡ known i n → size_at w.rom (physical ps pc) ≡ n
  unfolding size_at size_of whole
  same_length i n l e = rw (listing_reads (known i n) l e, le-leb n (top - physical ps pc) l.ends, le-leb n 9 (nine_bytes (source w) i n (sym as_native ∙ e))) refl
