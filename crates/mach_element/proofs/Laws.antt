-- What each return of the code comes to, over plain values.
use Prim.Native.Nat.{ℕ, ◌<◌, ◌≤◌}
use mathlib.Core.Path.{◌≡◌, refl}
use mathlib.Core.Bool.{Bool, true, false, not, ◌&&◌}
use mathlib.Core.List.{List}
use lib.Dec.{eqb, ltb}
use lib.ListN.{get_or, set}
use borrow.Author.Tests.{eq-eqb, lt-ltb, le-ltb, ne_eqb}
use Rattle.sheet.specs.declared.Bus.{Bus}
use Rattle.sheet.specs.declared.Primitive.{Primitive}
use Rattle.sheet.specs.declared.Repeat.{Repeat}
use Rattle.sheet.specs.Width.{bytes_of, add16, sub16}
use Rattle.sheet.specs.Psw.{Flag, DIR, flag_of}
use Rattle.sheet.specs.Registers.{CW, IX, IY, DS1, PC, PSW, file_of, written, segment}
use Rattle.sheet.specs.Act.{pure, ◌>>=◌, ◌≔◌, flag}
use Rattle.sheet.specs.Branch.{count_down}
use Rattle.sheet.specs.Block.{stepped_of, step_index, source_element, target_element, set_target, goes_on_after, after_element}
use Rattle.sheet.specs.Contract.{OnFile, OnMemory}
use Rattle.sheet.proofs.Lifted.{file_seq, file_pure, file_registers, file_set, file_flag, file_true, file_false, memory_free}
use Rattle.mach_memory.specs.Accesses.{Loads, Stores}
use Rattle.mach_element.specs.declared.Due.TheVariants.{Nothing, Element}
use Rattle.mach_element.specs.Due.{counted_due}

-- ---- the index registers

module _ (w down : Bool) (x n y : ℕ) where
  pub stepped_down : down ≡ true → n ≡ bytes_of w → y ≡ sub16 x n → y ≡ stepped_of w down x
  unfolding stepped_of
  stepped_down d e q = rw (d, ← e) q

  pub stepped_up : down ≡ false → n ≡ bytes_of w → y ≡ add16 x n → y ≡ stepped_of w down x
  unfolding stepped_of
  stepped_up d e q = rw (d, ← e) q

pub step_is : (n : ℕ) (f : List ℕ) (w down : Bool) (x : ℕ) → down ≡ flag_of (get_or f PSW 0) DIR → x ≡ stepped_of w down (file_of f n) → OnFile Unit (step_index w n) f tt (written f n x)
unfolding step_index stepped_of
step_is n f w down x e q = file_seq _ (file_flag DIR e) (file_seq _ file_registers (rw (← q) (file_set n x)))

-- a word that is no register
pub step_beyond : (n : ℕ) (f : List ℕ) (w : Bool) → 13 ≤ n → OnFile Unit (step_index w n) f tt f
step_beyond n f w l = rw (le-ltb n 13 l) at (step_is n f w (flag_of (get_or f PSW 0) DIR) (stepped_of w (flag_of (get_or f PSW 0) DIR) (file_of f n)) refl refl)

-- a register
pub step_below : (n : ℕ) (f : List ℕ) (w down : Bool) (x : ℕ) → n < 13 → down ≡ flag_of (get_or f PSW 0) DIR → x ≡ stepped_of w down (get_or f n 0) → OnFile Unit (step_index w n) f tt (set f n x)
unfolding step_index
step_below n f w down x l e q = file_seq _ (file_flag DIR e) (file_seq _ file_registers (go (lt-ltb n 13 l)))
  where
    go : ltb n 13 ≡ true → OnFile Unit (n ≔ stepped_of w down (file_of f n)) f tt (set f n x)
    go t = rw (t, ← q) (rw t at (file_set n x {f = f}))

-- ---- the elements due

module _ (f ram rom : List ℕ) (w : Bool) (b o v : ℕ) (n : Bus) where
  pub source_is : (seg : ℕ) → b ≡ file_of f (segment seg) → o ≡ get_or f IX 0 → Loads w ram rom b o v n → OnMemory ℕ (source_element w seg) f ram rom v f ram n 2
  unfolding source_element
  source_is seg e q h = memory_free _ file_registers (rw (← e, ← q) (h.at f))

  pub target_is : b ≡ get_or f DS1 0 → o ≡ get_or f IY 0 → Loads w ram rom b o v n → OnMemory ℕ (target_element w) f ram rom v f ram n 2
  unfolding target_element
  target_is e q h = memory_free _ file_registers (rw (← e, ← q) (h.at f))

  pub set_target_is : (ram' : List ℕ) → b ≡ get_or f DS1 0 → o ≡ get_or f IY 0 → Stores w ram b o v ram' n → OnMemory Unit (set_target w v) f ram rom tt f ram' n 2
  unfolding set_target
  set_target_is ram' e q h = memory_free _ file_registers (rw (← e, ← q) (h.at f rom))

-- ---- repeats

module _ (n : ℕ) where
  pub due_none : n ≡ 0 → Nothing ≡ counted_due n
  unfolding counted_due
  due_none e = rw (eq-eqb n 0 e)

  pub due_one : (n ≡ 0 → ⊥) → Element ≡ counted_due n
  unfolding counted_due
  due_one h = rw (ne_eqb n 0 h)

pub denied : (q : Flag) {f : List ℕ} {b : Bool} → b ≡ flag_of (get_or f PSW 0) q → OnFile Bool (flag q >>= (λ c. pure (not c))) f (not b) f
denied q e = file_seq _ (file_flag q e) file_pure

module _ (f : List ℕ) (k : Primitive) (q : Repeat) (start cw : ℕ) (on : Bool) where
  counts : cw ≡ sub16 (get_or f CW 0) 1 → OnFile Bool count_down f (not (eqb cw 0)) (set f CW cw)
  unfolding count_down
  counts e = file_seq _ file_registers (rw (← e) (file_seq _ (file_set CW cw) file_pure))

  pub goes_back : cw ≡ sub16 (get_or f CW 0) 1 → OnFile Bool (goes_on_after k q) (set f CW cw) on (set f CW cw) → (on && not (eqb cw 0)) ≡ true
      → OnFile Unit (after_element k q start) f tt (set (set f CW cw) PC start)
  unfolding after_element
  goes_back e h z = file_seq _ (counts e) (file_seq _ h (file_true (PC ≔ start) (pure tt) z (file_set PC start)))

  pub stays : cw ≡ sub16 (get_or f CW 0) 1 → OnFile Bool (goes_on_after k q) (set f CW cw) on (set f CW cw) → (on && not (eqb cw 0)) ≡ false → OnFile Unit (after_element k q start) f tt (set f CW cw)
  unfolding after_element
  stays e h z = file_seq _ (counts e) (file_seq _ h (file_false (PC ≔ start) (pure tt) z file_pure))
