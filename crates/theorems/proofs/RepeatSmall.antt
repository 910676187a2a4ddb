-- Small facts by which a reader can see what the statement's words mean: overlapping blocks, cycles, k, and blocks in closed form.
use Prim.Native.Nat.{ℕ, zero, suc, ◌+◌, ◌-◌, ◌*◌, ◌%◌, ◌<◌}
use native.Mathlib.Nat.{add-zero, add_assoc, zero-mul, suc-mul, mod-eq_of_lt, mod-add-mod}
use mathlib.Core.Bool.{Bool, true, false}
use mathlib.Core.List.{List, [], ◌∷◌}
use mathlib.Core.Path.{◌≡◌, refl, sym, ap, ◌∙◌}
use native.Mathlib.Omega.{arith}
use lib.Count.{ones}
use lib.ListN.{replicate}
use Rattle.sheet.specs.declared.Primitive.{Primitive}
use Rattle.sheet.specs.declared.Primitive.TheVariants.{Movbk, Cmpm}
use Rattle.sheet.specs.declared.Repeat.TheVariants.{WhileNotZ}
use Rattle.sheet.specs.Width.{pick, bytes_of, wrap_of, sign_of, even_of}
use Rattle.sheet.specs.Psw.{settled}
use Rattle.sheet.specs.Registers.{in_ds0, read_reg}
use Rattle.sheet.specs.Memory.{byte_at, read_mem, write_mem, bus_cycles, lost, lost_bytes}
use Rattle.sheet.specs.Act as act
use Rattle.sheet.specs.Handler.{run_by, run, tally}
use Rattle.sheet.specs.Operand.{reg_value}
use Rattle.sheet.specs.Arithmetic.{resulting, difference}
use Rattle.sheet.specs.Block.{stepped_of, step_index, source_element, target_element, set_target, primitive}
use Rattle.sheet.specs.Step.{code_at}
use Rattle.mach_tally.specs.Sums.{cycles_only}
use Rattle.theorems.specs.StandIns.{machine}
use Rattle.theorems.specs.Repeat.{Block, single, singles, first_or, elements, walk, InElement, low, high, shown}
use Rattle.theorems.specs.RepeatCode.{code}

-- AW, CW, IX, IY and PSW; the other registers are 0
abbrev words : (aw cw ix iy psw : ℕ) → List ℕ
words aw cw ix iy psw = aw ∷ cw ∷ 0 ∷ 0 ∷ 0 ∷ 0 ∷ ix ∷ iy ∷ 0 ∷ 0 ∷ 0 ∷ 0 ∷ 0 ∷ psw ∷ []

abbrev repeating : Primitive → Bool → Block
repeating k b = record { kind = k; word = b; seg = in_ds0; repeat = WhileNotZ; size = 2 }

-- three bytes moved up by one with DIR 0: the blocks overlap, and the first byte is copied on and on
overlap_up : (singles (repeating Movbk false) (machine (words 0 3 0 1 0xf002) false 0 (7 ∷ 8 ∷ 9 ∷ 0 ∷ [])) 3).ram ≡ 7 ∷ 7 ∷ 7 ∷ 7 ∷ []
unfolding singles single run run_by act.◌>>=◌ primitive stepped_of step_index source_element set_target read_mem write_mem byte_at
overlap_up = refl

-- with DIR 1, from the top, they are moved as they are
overlap_down : (singles (repeating Movbk false) (machine (words 0 3 2 3 0xf402) false 0 (7 ∷ 8 ∷ 9 ∷ 0 ∷ [])) 3).ram ≡ 7 ∷ 7 ∷ 8 ∷ 9 ∷ []
unfolding singles single run run_by act.◌>>=◌ primitive stepped_of step_index source_element set_target read_mem write_mem byte_at
overlap_down = refl

-- two words moved from an odd address to an even one: 3 cycles each
odd_words : shown code (repeating Movbk true) (machine (words 0 2 1 6 0xf002) false 0 (replicate 12 5)) 2 ≡ cycles_only 3 ∷ cycles_only 3 ∷ []
unfolding shown singles single run run_by act.◌>>=◌ primitive stepped_of step_index source_element set_target read_mem write_mem byte_at tally bus_cycles lost lost_bytes
odd_words = refl

-- F2 AE, a search for 9 among 7 8 9 9 with CW = 4, ends at the third element; among 7 8 7 8 not before the fourth; with CW = 0
-- there is none
abbrev found : ℕ → List ℕ → ℕ
found n l = elements (repeating Cmpm false) (machine (words 9 n 0 0 0xf002) false 0 l)

searches : (found 4 (7 ∷ 8 ∷ 9 ∷ 9 ∷ []) ≡ 3) × (found 4 (7 ∷ 8 ∷ 7 ∷ 8 ∷ []) ≡ 4) × (found 0 (9 ∷ []) ≡ 0)
unfolding elements first_or singles single run run_by act.◌>>=◌ primitive stepped_of step_index target_element reg_value read_reg read_mem byte_at difference resulting settled wrap_of sign_of even_of ones
searches = (refl, refl, refl)

-- a word at 1000:FFFF has its bytes at 1FFFFh and 10000h; the next one up is at offset 1, the next byte down from 0 at FFFFh; the
-- second byte of an instruction at 0:FFFF is at 0
wraps : InElement 0x1000 0xffff 0x1ffff true × InElement 0x1000 0xffff 0x10000 true × (walk false true 0xffff 1 ≡ 1) × (walk true false 0 1 ≡ 0xffff) × (code_at 0 0xffff 1 ≡ 0)
unfolding walk stepped_of
wraps = (low refl, high refl, refl, refl, refl)

-- element j of a block: the index plus j elements, or with DIR 1 minus j elements, modulo 65,536
pub block_at : (down b : Bool) (o j : ℕ) → o < 65536 → walk down b o j ≡ (o + j * pick down (65536 - bytes_of b) (bytes_of b)) % 65536
unfolding walk stepped_of
block_at down b o zero h = rw (zero-mul (pick down (65536 - bytes_of b) (bytes_of b)), add-zero o) (sym (mod-eq_of_lt h))
block_at down b o (suc j) h = one down b (walk down b o j) ∙ rw (block_at down b o j h, mod-add-mod, suc-mul, add_assoc)
  where
    one : (down b : Bool) (x : ℕ) → pick down ((x + 65536 - bytes_of b) % 65536) ((x + bytes_of b) % 65536) ≡ (x + pick down (65536 - bytes_of b) (bytes_of b)) % 65536
    one true true x = ap (λ n. n % 65536) (omega arith)
    one true false x = ap (λ n. n % 65536) (omega arith)
    one false b x = refl
