-- Numbers within their widths: in lists, in registers, in memory, on the tape.
use Prim.Native.Nat.{ℕ, zero, suc, ◌+◌, ◌*◌, ◌/◌, ◌%◌, ◌-◌, ◌≤◌, ◌<◌}
use mathlib.Core.Path.{◌≡◌}
use mathlib.Core.Bool.{Bool, true, false, and-eq-true_iff}
use mathlib.Core.List.{List, [], ◌∷◌}
use native.Mathlib.Decide.{dec_lt, ℕ_discrete}
use native.Mathlib.Omega.{arith}
use lib.ListN.{length, get_or, set}
use lib.Seq.{get_or-set_same, get_or-set_other, set_out}
use lib.Dec.{eqb, leb, ltb, lit≤}
use borrow.Author.Tests.{leb-true}
use Rattle.sheet.specs.Width.{pick}
use Rattle.sheet.specs.Registers.{PSW, File, file_of, written, read_reg, reg_index}
use Rattle.sheet.specs.Memory.{physical, next, byte_at, read_mem}
use Rattle.sheet.specs.World.{World}
use Rattle.sheet.specs.Handler.{taped}
use Rattle.log_record.proofs.Picked.{picked}
use Rattle.theorems.specs.Bounds.{Bytes}
use Rattle.sheet.specs.Lendable.{every, lendable}

-- no number of a list exceeds a top
abbrev pub Under : ℕ → List ℕ → Type 0
Under top l = (i : ℕ) → get_or l i 0 ≤ top

pub set_under : (top : ℕ) (l : List ℕ) (i v : ℕ) → v ≤ top → Under top l → Under top (set l i v)
set_under top l i v h b n = go (ℕ_discrete n i) (dec_lt i (length l))
  where
    go : Dec (n ≡ i) → Dec (i < length l) → get_or (set l i v) n 0 ≤ top
    go (yes e) (yes k) = rw (e, get_or-set_same l i v 0 k) h
    go (yes e) (no k) = rw (set_out l i v (omega arith)) (b n)
    go (no e) k = rw (get_or-set_other l i n v 0 e) (b n)

every_under : (top : ℕ) (l : List ℕ) → every top l ≡ true → Under top l
every_under top [] e i = omega arith
every_under top (x ∷ l) e zero = leb-true x top ((and-eq-true_iff (leb x top) (every top l)).0 e).0
every_under top (x ∷ l) e (suc i) = every_under top l ((and-eq-true_iff (leb x top) (every top l)).0 e).1 i

-- ---- what code can be lent

pub record Holds (w : World) : Type 0 where
  pub words : Under 65535 w.state.file
  pub ram : Bytes w.ram
  pub rom : Bytes w.rom
  pub tape : Bytes w.tape

pub holds_lent : (w : World) → lendable w ≡ true → Holds w
holds_lent w e =
    let (_, e₁) = (and-eq-true_iff (eqb (length w.state.file) 14) _).0 e in
    let (file, e₂) = (and-eq-true_iff (every 65535 w.state.file) _).0 e₁ in
    let (_, e₃) = (and-eq-true_iff (leb w.state.progress.count 4294967295) _).0 e₂ in
    let (_, e₄) = (and-eq-true_iff (leb w.state.progress.tape 18446744073709551615) _).0 e₃ in
    let (_, e₅) = (and-eq-true_iff (leb w.state.progress.log 18446744073709551615) _).0 e₄ in
    let (ram, e₆) = (and-eq-true_iff (every 255 w.ram) _).0 e₅ in
    let (rom, e₇) = (and-eq-true_iff (every 255 w.rom) _).0 e₆ in
    let (tape, _) = (and-eq-true_iff (every 255 w.tape) _).0 e₇ in
    record {
      words = every_under 65535 w.state.file file;
      ram = every_under 255 w.ram ram;
      rom = every_under 255 w.rom rom;
      tape = every_under 255 w.tape tape;
    }

-- ---- what is read

-- the largest number of a width
abbrev pub top_of : Bool → ℕ
top_of b = pick b 65535 255

abbrev pub Words : File → Type 0
Words r = (n : ℕ) → r n ≤ 65535

pub file_words : (l : List ℕ) → Under 65535 l → Words (file_of l)
file_words l h n = picked (λ (x : ℕ). x ≤ 65535) (ltb n PSW) (h n) (lit≤ tt)

pub written_under : (l : List ℕ) (n v : ℕ) → v ≤ 65535 → Under 65535 l → Under 65535 (written l n v)
written_under l n v h b = picked (Under 65535) (ltb n PSW) (set_under 65535 l n v h b) b

low_byte : (x : ℕ) → x % 256 ≤ 255
low_byte x = omega arith

high_byte : (x : ℕ) → x ≤ 65535 → x / 256 ≤ 255
high_byte x h = omega arith

pub register_top : (b : Bool) (r : File) (n : ℕ) → Words r → read_reg b r n ≤ top_of b
unfolding read_reg
register_top true r n h = h (reg_index true n)
register_top false r n h = picked (λ (x : ℕ). x ≤ 255) (ltb (n % 8) 4) (low_byte (r (reg_index false n))) (high_byte (r (reg_index false n)) (h (reg_index false n)))

pub byte_top : (ram rom : List ℕ) → Bytes ram → Bytes rom → (a : ℕ) → byte_at ram rom a ≤ 255
unfolding byte_at
byte_top ram rom h g a = picked (λ (n : ℕ). n ≤ 255) (ltb a (length ram)) (h a) (picked (λ (n : ℕ). n ≤ 255) (leb 1048576 (a + length rom)) (g (a + length rom - 1048576)) (lit≤ tt))

two_bytes : (x y : ℕ) → x ≤ 255 → y ≤ 255 → x + 256 * y ≤ 65535
two_bytes x y h g = omega arith

pub memory_top : (b : Bool) (ram rom : List ℕ) (g o : ℕ) → Bytes ram → Bytes rom → read_mem b ram rom g o ≤ top_of b
unfolding read_mem
memory_top false ram rom g o h k = byte_top ram rom h k (physical g o)
memory_top true ram rom g o h k = two_bytes _ _ (byte_top ram rom h k (physical g o)) (byte_top ram rom h k (physical g (next o)))

pub taped_top : (b : Bool) (tape : List ℕ) (i : ℕ) → Bytes tape → taped b tape i ≤ top_of b
unfolding taped
taped_top true tape i h = two_bytes _ _ (h i) (h (i + 1))
taped_top false tape i h = h i
