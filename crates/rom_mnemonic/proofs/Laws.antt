-- What the pieces of an operand come to.
use Prim.Native.Nat.{ℕ, zero, suc, ◌+◌, ◌-◌, ◌*◌, ◌%◌, ◌<◌, ◌≤◌}
use mathlib.Core.Path.{◌≡◌, refl}
use mathlib.Core.Bool.{Bool, true, false}
use mathlib.Core.List.{List, [], ◌∷◌}
use native.Mathlib.Omega.{arith}
use native.Mathlib.Nat.{add-zero}
use lib.ListN.{length, get_or, take, drop}
use lib.Seq.{drop-cons}
use native.Mathlib.Numerals.{add-one}
use Rattle.sheet.specs.Width.{pick}
use borrow.Author.Tests.{ne_eqb, lt-ltb, le-ltb}
use Rattle.sheet.specs.declared.Address.{Address}
use Rattle.sheet.specs.declared.Address.TheVariants.{Formed, Direct}
use Rattle.sheet.specs.declared.Form.{Form}
use Rattle.std.specs.Prelude.{Option, Some, None}
use Rattle.sheet.specs.Operand.{form_at}
use Rattle.base_text.specs.Text.{text, hex}
use Rattle.base_line.specs.Adds.{Adds}
use Rattle.base_line.proofs.Laws.{nothing, then}
use Rattle.rom_mnemonic.specs.Operands.{byte_registers, word_registers, letter, register_text, segment_text, index_text, form_text, disp_text, opening, within, formed_text, address_text, size_text, size_of, operand_text}
use Rattle.rom_mnemonic.specs.Mnemonics.{after, after_two, after_three, one, two, three, target}
use Rattle.rom_mnemonic.specs.declared.Size.{Size}
use Rattle.rom_mnemonic.specs.declared.Operand.{Operand}
use Rattle.rom_mnemonic.specs.declared.Operand.TheVariants.{Mem, Block, Value, Target, Far}

-- the two letters that stand at i
two_letters : (l : List ℕ) (i : ℕ) → i + 1 < length l → take (i + 2 - i) (drop i l) ≡ get_or l i 0 ∷ get_or l (i + 1) 0 ∷ []
two_letters l i h =
    let n : i + 2 - i ≡ 2 = omega arith in
    let m : suc i < length l = omega arith in
    rw (n, drop-cons l i 0 (omega arith), drop-cons l (suc i) 0 m, add-one i)

pub register_added : (w : Bool) (n : ℕ) (l : List ℕ) {line line' : List ℕ} → l ≡ pick w word_registers byte_registers
    → Adds (take (2 * (n % 8) + 2 - 2 * (n % 8)) (drop (2 * (n % 8)) l)) line line' → Adds (register_text w n) line line'
unfolding register_text letter
register_added w n l e x = rw (← e) (rw (two_letters l (2 * (n % 8)) (room w e)) at x)
  where
    room : (w : Bool) → l ≡ pick w word_registers byte_registers → 2 * (n % 8) + 1 < length l
    room true e = rw e (omega arith)
    room false e = rw e (omega arith)

module _ {line line' line'' : List ℕ} where
  pub index_added : (i : Option ℕ) (n : ℕ) → i ≡ Some n → Adds (text "+") line line' → Adds (register_text true n) line' line'' → Adds (index_text i) line line''
  unfolding index_text
  index_added i n e x y = rw e (then x y)

  pub form_added : (n : ℕ) (f : Form) → f ≡ form_at n → Adds (register_text true f.base) line line' → Adds (index_text f.index) line' line''
      → Adds (form_text (form_at n)) line line''
  unfolding form_text
  form_added n f e x y = rw (← e) (then x y)

  pub disp_added : (d : ℕ) → (d ≡ 0 → ⊥) → Adds (text "+") line line' → Adds (hex 4 d) line' line'' → Adds (disp_text d) line line''
  unfolding disp_text
  disp_added d e x y = rw (ne_eqb d 0 e) (then x y)

  pub opening_added : (seg : ℕ) (name : List ℕ) → name ≡ segment_text seg → Adds name line line' → Adds (text ":[") line' line'' → Adds (opening seg) line line''
  unfolding opening
  opening_added seg name e x y = rw (← e) (then x y)

  pub formed_added : (form disp : ℕ) → Adds (form_text (form_at form)) line line' → Adds (disp_text disp) line' line'' → Adds (formed_text form disp) line line''
  unfolding formed_text
  formed_added form disp x y = then x y

  module _ {line''' : List ℕ} where
    pub within_added : (seg : ℕ) (offset : List ℕ) → Adds (opening seg) line line' → Adds offset line' line'' → Adds (text "]") line'' line'''
        → Adds (within seg offset) line line'''
    unfolding within
    within_added seg offset x y z = then x (then y z)

    pub formed_address : (a : Address) (seg form disp : ℕ) → a ≡ Formed seg form disp → Adds (opening seg) line line' → Adds (formed_text form disp) line' line''
        → Adds (text "]") line'' line''' → Adds (address_text a) line line'''
    unfolding address_text
    formed_address a seg form disp e x y z = rw e (within_added seg _ x y z)

    pub direct_address : (a : Address) (seg offset : ℕ) → a ≡ Direct seg offset → Adds (opening seg) line line' → Adds (hex 4 offset) line' line''
        → Adds (text "]") line'' line''' → Adds (address_text a) line line'''
    unfolding address_text
    direct_address a seg offset e x y z = rw e (within_added seg _ x y z)

module _ {line line' line'' : List ℕ} where
  pub memory_added : (o : Operand) (s : Size) (a : Address) (name : List ℕ) → o ≡ Mem s a → name ≡ size_text s → Adds name line line' → Adds (address_text a) line' line'' → Adds (operand_text o) line line''
  unfolding operand_text
  memory_added o s a name e f x y = rw (e, ← f) (then x y)

  pub after_added : (a : Operand) → Adds (text " ") line line' → Adds (operand_text a) line' line'' → Adds (after a) line line''
  unfolding after
  after_added a x y = then x y

  pub one_added : (name : List ℕ) (a : Operand) → Adds name line line' → Adds (after a) line' line'' → Adds (one name a) line line''
  unfolding one
  one_added name a x y = then x y

  pub two_added : (name : List ℕ) (a b : Operand) → Adds name line line' → Adds (after_two a b) line' line'' → Adds (two name a b) line line''
  unfolding two
  two_added name a b x y = then x y

  module _ {line''' : List ℕ} where
    pub far_added : (ps pc : ℕ) → Adds (hex 4 ps) line line' → Adds (text ":") line' line'' → Adds (hex 4 pc) line'' line''' → Adds (operand_text (Far ps pc)) line line'''
    unfolding operand_text
    far_added ps pc x y z = then x (then y z)

    pub after_two_added : (a b : Operand) → Adds (after a) line line' → Adds (text ",") line' line'' → Adds (operand_text b) line'' line''' → Adds (after_two a b) line line'''
    unfolding after_two
    after_two_added a b x y z = then x (then y z)

    pub three_added : (name : List ℕ) (a b c : Operand) {line'''' : List ℕ} → Adds name line line' → Adds (after_two a b) line' line'' → Adds (text ",") line'' line'''
        → Adds (operand_text c) line''' line'''' → Adds (three name a b c) line line''''
    unfolding three after_three
    three_added name a b c x y z v = then x (then y (then z v))

    pub block_added : (w : Bool) (seg by : ℕ) (s : Size) (name : List ℕ) {line'''' : List ℕ} → s ≡ size_of w → name ≡ size_text s → Adds name line line' → Adds (opening seg) line' line''
        → Adds (register_text true by) line'' line''' → Adds (text "]") line''' line'''' → Adds (operand_text (Block w seg by)) line line''''
    unfolding operand_text
    block_added w seg by s name e f x y z v = rw (← e, ← f) (then x (within_added seg _ y z v))

module _ {line line' : List ℕ} where
  pub value_added : (w : Bool) (v k : ℕ) → k ≡ pick w 4 2 → Adds (hex k v) line line' → Adds (operand_text (Value w v)) line line'
  unfolding operand_text
  value_added w v k e h = rw (← e) h

pub target_on : (next disp : ℕ) → disp < 32768 → Target ((next + disp) % 1048576) ≡ target next disp
unfolding target
target_on next disp h = rw (lt-ltb disp 32768 h, add-zero (next + disp)) refl

pub target_back : (next disp : ℕ) → 32768 ≤ disp → Target ((next + disp + 983040) % 1048576) ≡ target next disp
unfolding target
target_back next disp h = rw (le-ltb disp 32768 h) refl

pub no_index : (i : Option ℕ) {line : List ℕ} → i ≡ None → Adds (index_text i) line line
unfolding index_text
no_index i e = rw e (nothing _)

pub no_disp : (d : ℕ) {line : List ℕ} → d ≡ 0 → Adds (disp_text d) line line
unfolding disp_text
no_disp d e = rw e (nothing _)

pub ds1 : (n : ℕ) → n % 4 ≡ 0 → text "DS1" ≡ segment_text n
unfolding segment_text
ds1 n e = rw e refl

pub ps : (n : ℕ) → n % 4 ≡ 1 → text "PS" ≡ segment_text n
unfolding segment_text
ps n e = rw e refl

pub ss : (n : ℕ) → n % 4 ≡ 2 → text "SS" ≡ segment_text n
unfolding segment_text
ss n e = rw e refl

pub ds0 : (n : ℕ) → (n % 4 ≡ 0 → ⊥) → (n % 4 ≡ 1 → ⊥) → (n % 4 ≡ 2 → ⊥) → text "DS0" ≡ segment_text n
unfolding segment_text
ds0 n a b c = let e : n % 4 ≡ 3 = last (n % 4) a b c (omega arith) in rw e refl
  where
    last : (k : ℕ) → (k ≡ 0 → ⊥) → (k ≡ 1 → ⊥) → (k ≡ 2 → ⊥) → k < 4 → k ≡ 3
    last zero a b c m = absurd (a refl)
    last (suc zero) a b c m = absurd (b refl)
    last (suc (suc zero)) a b c m = absurd (c refl)
    last (suc (suc (suc zero))) a b c m = refl
    last (suc (suc (suc (suc k)))) a b c m = omega arith

-- operands that are known to be others
module _ {line line' : List ℕ} where
  pub one_known : {name name' : List ℕ} {a a' : Operand} → name ≡ name' → a ≡ a' → Adds (one name a) line line' → Adds (one name' a') line line'
  one_known d e h = rw (← d, ← e) h

  pub two_known : {name name' : List ℕ} {a a' b b' : Operand} → name ≡ name' → a ≡ a' → b ≡ b' → Adds (two name a b) line line' → Adds (two name' a' b') line line'
  two_known d e f h = rw (← d, ← e, ← f) h

  pub three_known : (name : List ℕ) {a a' b b' c c' : Operand} → a ≡ a' → b ≡ b' → c ≡ c' → Adds (three name a b c) line line' → Adds (three name a' b' c') line line'
  three_known name e f g h = rw (← e, ← f, ← g) h

  pub after_known : {a a' : Operand} → a ≡ a' → Adds (after a) line line' → Adds (after a') line line'
  after_known e h = rw (← e) h
