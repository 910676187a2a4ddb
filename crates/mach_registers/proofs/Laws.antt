-- What each return of the code comes to, over plain values.
use Prim.Native.Nat.{ℕ, ◌+◌, ◌*◌, ◌/◌, ◌%◌, ◌≤◌, ◌<◌}
use mathlib.Core.Path.{◌≡◌}
use mathlib.Core.Bool.{Bool, true, false}
use mathlib.Core.List.{List}
use native.Mathlib.Omega.{arith}
use lib.ListN.{get_or, set}
use borrow.Author.Tests.{lt-ltb, le-ltb}
use Rattle.sheet.specs.Registers.{PSW, file_of, written, segment, read_reg, reg_index, reg_word}
use Rattle.sheet.specs.Act.{◌≔◌}
use Rattle.sheet.specs.Operand.{reg_value, set_reg}
use Rattle.sheet.specs.Contract.{OnFile}
use Rattle.sheet.proofs.Lifted.{file_seq, file_pure, file_registers, file_set}

-- a register below PSW is a word of the file
pub file_word : (f : List ℕ) (n : ℕ) → n < PSW → file_of f n ≡ get_or f n 0
file_word f n h = rw (lt-ltb n PSW h)

pub file_written : (f : List ℕ) (n v : ℕ) → n < PSW → written f n v ≡ set f n v
file_written f n v h = rw (lt-ltb n PSW h)

eighth : (n : ℕ) → n % 8 < PSW
eighth n = omega arith

fourth : (n : ℕ) → n % 4 < PSW
fourth n = omega arith

module _ (w : Bool) (f : List ℕ) (n x : ℕ) where
  pub read_word : w ≡ true → x ≡ get_or f (n % 8) 0 → x ≡ read_reg w (file_of f) n
  unfolding read_reg
  read_word p q = rw (p, file_word f (n % 8) (eighth n)) q

  pub read_low : w ≡ false → n % 8 < 4 → x ≡ get_or f (n % 4) 0 → x % 256 ≡ read_reg w (file_of f) n
  unfolding read_reg
  read_low p h q = rw (p, lt-ltb (n % 8) 4 h, file_word f (n % 4) (fourth n), q)

  pub read_high : w ≡ false → 4 ≤ n % 8 → x ≡ get_or f (n % 4) 0 → x / 256 ≡ read_reg w (file_of f) n
  unfolding read_reg
  read_high p h q = rw (p, le-ltb (n % 8) 4 h, file_word f (n % 4) (fourth n), q)

pub file_reg : (w : Bool) (n : ℕ) {f : List ℕ} {x : ℕ} → x ≡ read_reg w (file_of f) n → OnFile ℕ (reg_value w n) f x f
unfolding reg_value
file_reg w n e = rw e (file_seq _ file_registers file_pure)

-- a register is set once its word and that word's number are known
set_is : (w : Bool) (f g : List ℕ) (n v i x : ℕ) → i < PSW → reg_index w n ≡ i → reg_word w (file_of f) n v ≡ x → g ≡ set f i x → OnFile Unit (set_reg w n v) f tt g
unfolding set_reg
set_is w f g n v i x h e q z = file_seq _ file_registers (rw (e, q, z, ← file_written f i x h) (file_set i x))

module _ (w : Bool) (f g : List ℕ) (n v x : ℕ) where
  pub set_word : w ≡ true → g ≡ set f (n % 8) v → OnFile Unit (set_reg w n v) f tt g
  unfolding reg_word
  set_word p z = set_is w f g n v (n % 8) v (eighth n) (rw p) (rw p) z

  pub set_low : w ≡ false → n % 8 < 4 → x ≡ get_or f (n % 4) 0 → g ≡ set f (n % 4) (x / 256 * 256 + v % 256) → OnFile Unit (set_reg w n v) f tt g
  unfolding reg_word
  set_low p h q z =
      set_is w f g n v (n % 4) (x / 256 * 256 + v % 256) (fourth n) (rw p) (rw (p, lt-ltb (n % 8) 4 h, file_word f (n % 4) (fourth n), q)) z

  pub set_high : w ≡ false → 4 ≤ n % 8 → x ≡ get_or f (n % 4) 0 → g ≡ set f (n % 4) (v % 256 * 256 + x % 256) → OnFile Unit (set_reg w n v) f tt g
  unfolding reg_word
  set_high p h q z =
      set_is w f g n v (n % 4) (v % 256 * 256 + x % 256) (fourth n) (rw p) (rw (p, le-ltb (n % 8) 4 h, file_word f (n % 4) (fourth n), q)) z

pub base_is : (f : List ℕ) (seg x : ℕ) → x ≡ get_or f (8 + seg % 4) 0 → x ≡ file_of f (segment seg)
base_is f seg x q = rw (file_word f (8 + seg % 4) (omega arith)) q

pub set_base_is : (f g : List ℕ) (seg v : ℕ) → g ≡ set f (8 + seg % 4) v → OnFile Unit (segment seg ≔ v) f tt g
set_base_is f g seg v e = rw (e, ← file_written f (8 + seg % 4) v (omega arith)) (file_set (segment seg) v)
