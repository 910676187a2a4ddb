-- What each part and each instruction comes to, from what its parts come to.
use Prim.Native.Nat.{ℕ, ◌+◌, ◌-◌, ◌*◌, ◌/◌, ◌%◌, ◌^◌, ◌≤◌, ◌<◌, min}
use mathlib.Core.Path.{◌≡◌}
use mathlib.Core.Bool.{Bool, true, false}
use mathlib.Core.List.{List}
use borrow.Author.Tests.{le-leb, lt-leb, lt-ltb, le-ltb}
use lib.Dec.{lit≤, leb, ltb}
use lib.ListN.{get_or, set}
use Rattle.sheet.specs.declared.Bus.{Bus}
use Rattle.sheet.specs.declared.Length.{Length}
use Rattle.sheet.specs.declared.Length.TheVariants.{InRegister, Given}
use Rattle.sheet.specs.Width.{pick, add16}
use Rattle.sheet.specs.Registers.{AW, IX, IY, DS1, file_of, segment, read_reg}
use Rattle.sheet.specs.Act.{◌≔◌}
use Rattle.sheet.specs.Operand.{set_reg}
use Rattle.sheet.specs.Handler.{nothing, ◌⊕◌}
use Rattle.sheet.specs.Fields.{replaced, field_of, length_of, advance, insert_into, first_part, second_part, ins, window, ext}
use Rattle.sheet.specs.Contract.{OnFile, OnMemory}
use Rattle.sheet.proofs.Lifted.{file_seq, file_pure, file_registers, file_set, memory_seq, memory_free, memory_last, memory_at_most, memory_true, memory_false, on_memory}
use Rattle.mach_memory.specs.Accesses.{Loads, Stores}
use Rattle.mach_registers.proofs.Laws.{file_reg}

module _ (f : List ℕ) (l : Length) where
  pub code_in_register : (n v : ℕ) → l ≡ InRegister n → v ≡ read_reg false (file_of f) n → OnFile ℕ (length_of l) f (v % 16 + 1) f
  unfolding length_of
  code_in_register n v e q = rw e (file_seq _ (file_reg false n q) file_pure)

  pub code_given : (n : ℕ) → l ≡ Given n → OnFile ℕ (length_of l) f (n % 16 + 1) f
  unfolding length_of
  code_given n e = rw e file_pure

pub next_is : (x y sum : ℕ) → 16 ≤ sum → y ≡ add16 x 2 → y ≡ pick (leb 16 sum) (add16 x 2) x
next_is x y sum h e = rw (le-leb 16 sum h) e

pub same_word : (x sum : ℕ) → sum < 16 → x ≡ pick (leb 16 sum) (add16 x 2) x
same_word x sum h = rw (lt-leb 16 sum h)

pub advance_is : (f g : List ℕ) (offset index sum y : ℕ) → index < 13 → OnFile Unit (set_reg false offset (sum % 16)) f tt g → y ≡ pick (leb 16 sum) (add16 (get_or g index 0) 2) (get_or g index 0)
    → OnFile Unit (advance offset index sum) f tt (set g index y)
unfolding advance
advance_is f g offset index sum y l p q = file_seq _ p (file_seq _ file_registers (go (lt-ltb index 13 l)))
  where
    go : ltb index 13 ≡ true → OnFile Unit (index ≔ pick (leb 16 sum) (add16 (file_of g index) 2) (file_of g index)) g tt (set g index y)
    go e = rw (e, ← q) (rw e at (file_set index y {f = g}))

module _ (f ram ram' rom : List ℕ) (base at o code x y : ℕ) (n m : Bus) where
  pub first_is : base ≡ get_or f DS1 0 → at ≡ get_or f IY 0 → Loads true ram rom base at x n
      → y ≡ replaced x (o % 16) (min (code % 16 + 1) (16 - o % 16)) (get_or f AW 0) → Stores true ram base at y ram' m
      → OnMemory Unit (first_part (file_of f) (o % 16) (code % 16 + 1)) f ram rom tt f ram' (n ⊕ m) 4
  unfolding first_part insert_into
  first_is e q h z k = rw (← e, ← q) (memory_seq _ {t = 2} {u = 2} (h.at f) (rw (← z) (k.at f rom)))

  pub second_is : (sum : ℕ) → sum ≡ o % 16 + (code % 16 + 1) → 16 < sum → base ≡ get_or f DS1 0 → at ≡ add16 (get_or f IY 0) 2 → Loads true ram rom base at x n
      → y ≡ replaced x 0 (o % 16 + (code % 16 + 1) - 16) (get_or f AW 0 / 2 ^ (16 - o % 16)) → Stores true ram base at y ram' m
      → OnMemory Unit (second_part (file_of f) (o % 16) (code % 16 + 1)) f ram rom tt f ram' (n ⊕ m) 4
  unfolding second_part insert_into
  second_is sum s t e q h z k = memory_true _ _ (rw s at (lt-ltb 16 sum t)) (rw (← e, ← q) (memory_seq _ {t = 2} {u = 2} (h.at f) (rw (← z) (k.at f rom))))

pub no_second : (f ram rom : List ℕ) (o code sum : ℕ) → sum ≡ o % 16 + (code % 16 + 1) → sum ≤ 16
    → OnMemory Unit (second_part (file_of f) (o % 16) (code % 16 + 1)) f ram rom tt f ram nothing 4
unfolding second_part
no_second f ram rom o code sum s t = memory_false _ _ (rw s at (le-ltb 16 sum t)) (on_memory ram rom 4 file_pure)

pub ins_is : (f g ram ram₁ ram₂ rom : List ℕ) (offset o code sum : ℕ) (l : Length) (n m : Bus) → o ≡ read_reg false (file_of f) offset → OnFile ℕ (length_of l) f (code % 16 + 1) f
    → OnMemory Unit (first_part (file_of f) (o % 16) (code % 16 + 1)) f ram rom tt f ram₁ n 4 → OnMemory Unit (second_part (file_of f) (o % 16) (code % 16 + 1)) f ram₁ rom tt f ram₂ m 4
    → sum ≡ o % 16 + (code % 16 + 1) → OnFile Unit (advance offset IY sum) f tt g → OnMemory Unit (ins offset l) f ram rom tt g ram₂ (n ⊕ m) 8
unfolding ins
ins_is f g ram ram₁ ram₂ rom offset o code sum l n m e h p q s k =
    memory_free _ (file_reg false offset e) (memory_free _ h (memory_free _ file_registers (memory_seq _ {t = 4} {u = 4} p (memory_last _ q (rw s at k)))))

module _ (f ram rom : List ℕ) (base offset : ℕ) (both : Bool) (x : ℕ) (n : Bus) where
  pub window_two : (next y : ℕ) (m : Bus) → both ≡ true → Loads true ram rom base offset x n → next ≡ add16 offset 2 → Loads true ram rom base next y m
      → OnMemory ℕ (window base offset both) f ram rom (x + 65536 * y) f ram (n ⊕ m) 4
  unfolding window
  window_two next y m e h q k = rw e (memory_seq _ {t = 2} {u = 2} (h.at f) (memory_last _ (rw q at (k.at f)) file_pure))

  pub window_one : both ≡ false → Loads true ram rom base offset x n → OnMemory ℕ (window base offset both) f ram rom x f ram n 4
  unfolding window
  window_one e h = rw e (memory_at_most {t = 2} 4 (lit≤ tt) (h.at f))

pub ext_is : (f g ram rom : List ℕ) (seg offset o code sum base at x y : ℕ) (l : Length) (n : Bus) → o ≡ read_reg false (file_of f) offset → OnFile ℕ (length_of l) f (code % 16 + 1) f
    → sum ≡ o % 16 + (code % 16 + 1) → base ≡ file_of f (segment seg) → at ≡ get_or f IX 0 → OnMemory ℕ (window base at (ltb 16 sum)) f ram rom x f ram n 4
    → y ≡ field_of x (o % 16) (code % 16 + 1) → OnFile Unit (advance offset IX sum) (set f AW y) tt g → OnMemory Unit (ext seg offset l) f ram rom tt g ram n 8
unfolding ext
ext_is f g ram rom seg offset o code sum base at x y l n e h s b i w z k =
    memory_at_most {t = 4} 8 (lit≤ tt)
    (memory_free _ (file_reg false offset e) (memory_free _ h (memory_free _ file_registers (rw (← s, ← b, ← i) (memory_last _ w (rw (← z) (file_seq _ (file_set AW y) k)))))))
