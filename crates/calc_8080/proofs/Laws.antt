-- What the tree of an operation with AL hands on is the result that the code computes with the CY of PSW.
use mathlib.Core.Path.{◌≡◌, refl, ◌∙◌}
use mathlib.Core.Bool.{Bool, true, false}
use mathlib.Core.List.{List}
use Prim.Native.Nat.{ℕ, ◌+◌, ◌%◌}
use lib.Dec.{leb}
use lib.ListN.{get_or}
use native.Mathlib.Nat.{add-zero}
use Rattle.sheet.specs.declared.Flagged.{Flagged}
use Rattle.sheet.specs.declared.Operation.{Operation}
use Rattle.sheet.specs.declared.Operation.TheVariants.{Add, Or, Addc, Subc, And, Sub, Xor, Cmp}
use Rattle.sheet.specs.declared.Shift.{Shift}
use Rattle.sheet.specs.declared.Shift.TheVariants.{Rol, Ror, Rolc, Rorc, Shl, Shr, Shra}
use Rattle.sheet.specs.declared.Turn.{Turn}
use Rattle.sheet.specs.Psw.{CY, OV, flag_of, Effect, blank, becomes, column, only, keeps, settled}
use Rattle.sheet.specs.Registers.{PSW}
use Rattle.sheet.specs.Width.{wrap_of}
use Rattle.sheet.specs.declared.Way.{Way}
use Rattle.sheet.specs.declared.Way.TheVariants.{Addition, Subtraction}
use Rattle.sheet.specs.Adjust.{plain}
use Rattle.sheet.specs.Arithmetic.{Result, resulting, sum, difference, sparing_cy, added, carry}
use Rattle.sheet.specs.Shift.{turn, one_place, rotated, shifted, turned, shift_one}
use Rattle.sheet.specs.CardArithmetic.{card_operate, card_sum, card_difference, increased, decreased, sparing_v, with_ac}
use Rattle.sheet.specs.Contract.{OnFile, flagged}
use Rattle.sheet.proofs.Lifted.{file_pure, file_seq, file_flag}
use Rattle.sheet.proofs.PswLaws.{flag_settled}
use Rattle.calc_8080.specs.CardOperate.{card_operated, card_half_carry, card_counted, card_stepped}

pub operate_file : (op : Operation) (a b : ℕ) (f : List ℕ) → OnFile Result (card_operate op a b) f (card_operated op a b (flag_of (get_or f PSW 0) CY)) f
unfolding card_operate card_operated
operate_file Add a b f = file_pure
operate_file Or a b f = file_pure
operate_file Addc a b f = file_seq _ (file_flag CY refl) file_pure
operate_file Subc a b f = file_seq _ (file_flag CY refl) file_pure
operate_file And a b f = file_pure
operate_file Sub a b f = file_pure
operate_file Xor a b f = file_pure
operate_file Cmp a b f = file_pure

-- ---- a native sum or difference with AC as the uPD8080AF has it

pub counted_is : (way : Way) (a b : ℕ) (c : Bool) (psw : ℕ)
    → flagged (resulting false (plain way a b c).value (becomes (card_half_carry way (plain way a b c).ac)) (becomes (plain way a b c).cy) (becomes (flag_of psw OV))) psw
    ≡ flagged (card_counted way a b c) psw
unfolding plain card_half_carry card_counted card_sum card_difference sparing_v with_ac sum difference resulting settled flagged
counted_is Addition a b c psw = refl
counted_is Subtraction a b c psw = refl

pub stepped_is : (way : Way) (a psw : ℕ)
    → flagged (resulting false (plain way a 1 false).value (becomes (card_half_carry way (plain way a 1 false).ac)) (becomes (flag_of psw CY)) (becomes (flag_of psw OV))) psw
    ≡ flagged (card_stepped way a) psw
unfolding plain card_half_carry card_stepped increased decreased sparing_cy card_sum card_difference sparing_v with_ac sum difference resulting settled flagged
stepped_is Addition a psw = refl
stepped_is Subtraction a psw = refl

-- a sum of words without a carry so far
pub sum16_is : (x y : ℕ) → turn ((x + y) % 65536) (leb 65536 (x + y)) ≡ turn (added true x y false) (carry true x y false)
unfolding wrap_of
sum16_is x y = rw (add-zero (x + y))

-- ---- a shift by one place has the value and the CY of that place, whatever its kind

turned_value : (k : Shift) (w : Bool) (t : Turn) (v : Effect) → (turned k w t v).value ≡ t.value
unfolding turned rotated shifted resulting
turned_value Rol w t v = refl
turned_value Ror w t v = refl
turned_value Rolc w t v = refl
turned_value Rorc w t v = refl
turned_value Shl w t v = refl
turned_value Shr w t v = refl
turned_value Shra w t v = refl

turned_cy : (k : Shift) (w : Bool) (t : Turn) (v : Effect) → (turned k w t v).column.cy ≡ becomes t.cy
unfolding turned rotated shifted resulting
turned_cy Rol w t v = refl
turned_cy Ror w t v = refl
turned_cy Rolc w t v = refl
turned_cy Rorc w t v = refl
turned_cy Shl w t v = refl
turned_cy Shr w t v = refl
turned_cy Shra w t v = refl

module _ (k : Shift) (x : ℕ) (cy : Bool) (psw : ℕ) (s : Flagged) (e : s ≡ flagged (shift_one k false x cy) psw) where
  one_value : s.value ≡ (one_place k false (turn x cy)).value
  unfolding flagged shift_one
  one_value = rw e (turned_value k false (one_place k false (turn x cy)) _)

  one_cy : flag_of s.psw CY ≡ (one_place k false (turn x cy)).cy
  unfolding flagged shift_one
  one_cy = rw e (flag_settled keeps (column (shift_one k false x cy).column) psw CY ∙ rw (turned_cy k false (one_place k false (turn x cy)) _))

  pub rotate_is : (c : Bool) (p : ℕ) → c ≡ flag_of s.psw CY → p ≡ settled keeps (only CY c) psw → ◌≡◌ {A = Flagged} (record { value = s.value; psw = p }) (flagged (rotated (one_place k false (turn x cy)) blank) psw)
  unfolding flagged rotated settled
  rotate_is c p q z = rw (z, q, one_cy, one_value)
