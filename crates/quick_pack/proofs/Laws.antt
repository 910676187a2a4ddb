-- What each return of the code comes to, over plain values.
use Prim.Native.Nat.{ℕ, ◌%◌, ◌<◌}
use mathlib.Core.Path.{◌≡◌}
use mathlib.Core.Bool.{Bool, false}
use mathlib.Core.List.{[], ◌∷◌}
use lib.ListN.{get_or}
use native.Mathlib.Omega.{arith}
use Rattle.sheet.specs.declared.Address.{Address}
use Rattle.sheet.specs.declared.Amount.{Amount}
use Rattle.sheet.specs.declared.Amount.TheVariants.{InCl, Given}
use Rattle.sheet.specs.declared.Arithmetic.{Arithmetic}
use Rattle.sheet.specs.declared.Arithmetic.TheVariants.{Two, One, Test}
use Rattle.sheet.specs.declared.Branch.{Branch}
use Rattle.sheet.specs.declared.Branch.TheVariants.{CallNear, Ret, BrNear, BrShort, BrFar}
use Rattle.sheet.specs.declared.Compute.{Compute}
use Rattle.sheet.specs.declared.Compute.TheVariants as compute
use Rattle.sheet.specs.declared.Conditional.{Conditional}
use Rattle.sheet.specs.declared.Conditional.TheVariants.{If, Dbnz, Dbnzne, Dbnze, Bcwz}
use Rattle.sheet.specs.declared.Convert.{Convert}
use Rattle.sheet.specs.declared.Decimal.{Decimal}
use Rattle.sheet.specs.declared.Decimal.TheVariants.{Add4s, Sub4s, Cmp4s}
use Rattle.sheet.specs.declared.Instr.{Instr}
use Rattle.sheet.specs.declared.Instr.TheVariants.{Computes, Multiplies, Blocks, Ports}
use Rattle.sheet.specs.declared.Io.{Io}
use Rattle.sheet.specs.declared.Io.TheVariants.{In, Out}
use Rattle.sheet.specs.declared.Multiply.{Multiply}
use Rattle.sheet.specs.declared.Multiply.TheVariants.{Mulu, Mul, Divu, Div}
use Rattle.sheet.specs.declared.Operation.{Operation}
use Rattle.sheet.specs.declared.Place.{Place}
use Rattle.sheet.specs.declared.Place.TheVariants.{Register, Memory}
use Rattle.sheet.specs.declared.Places.{Places}
use Rattle.sheet.specs.declared.Places.TheVariants as places
use Rattle.sheet.specs.declared.Port.{Port}
use Rattle.sheet.specs.declared.Port.TheVariants.{InDw, Numbered}
use Rattle.sheet.specs.declared.Primitive.{Primitive}
use Rattle.sheet.specs.declared.Primitive.TheVariants.{Movbk, Cmpbk, Cmpm, Ldm, Stm, Inm, Outm}
use Rattle.sheet.specs.declared.Repeat.{Repeat}
use Rattle.sheet.specs.declared.Repeat.TheVariants.{WhileZ}
use Rattle.sheet.specs.declared.Shift.{Shift}
use Rattle.sheet.specs.declared.Source.{Source}
use Rattle.sheet.specs.declared.Source.TheVariants.{Held, Immediate}
use Rattle.sheet.specs.declared.Stack.{Stack}
use Rattle.sheet.specs.declared.Stack.TheVariants.{Push, Pop}
use Rattle.sheet.specs.declared.Transfer.{Transfer}
use Rattle.sheet.specs.declared.Transfer.TheVariants.{Mov, LoadAcc, StoreAcc, Ldea, Xch, FromSegment}
use Rattle.sheet.specs.declared.Unary.{Unary}
use Rattle.sheet.specs.Groups.{Transfers, Calculates, Converts, Shifts, Decimals, Stacks, Branches, Tests}
use Rattle.sheet.specs.FirstByte.{operation_at}
use Rattle.quick_place.specs.Packed.{unary_at, shift_at, convert_at, string_at, product_at, primitive_at, repeat_at, address_at, Fields, Joined, unjoined, joined, Located, unlocated, located, Placed, unplaced, register, memory}
use Rattle.quick_pack.specs.Readings.{amount_at, port_at, stream_at, instr_of, Packs, none, packs}
use Rattle.quick_pack.proofs.KindLaws.{is_1, is_2, is_3, is_4, is_5, is_6, is_7, is_8, is_9, is_10, is_11, is_12, is_16, is_17, is_18, is_19, is_20, is_21, is_22, is_23, is_24, is_25, is_26, is_27, is_28, is_29, is_32, is_33, is_34, is_35, is_36, is_37, is_38, is_39, is_40, is_41, is_42, is_43, is_44, is_48, is_49, is_50}

-- an instruction that is known to be another
pub known : {I : Type 0} (f : I → Instr) {i j : I} {z r : ℕ} → i ≡ j → Packs (f j) z r → Packs (f i) z r
known f e h = rw e h

-- a field's number, which needs no more than its three bits
low_is : {A : Type 0} (f : ℕ → A) (x : A) (o : ℕ) → x ≡ f o → o < 8 → x ≡ f (o % 8)
low_is f x o e h = let q : o % 8 ≡ o = omega arith in rw q e

-- ---- fields, an address or a place in an instruction

module _ (j : Instr) {k z m g o s d i r : ℕ} {b : Bool} where
  packed : Joined k z m g o s b d i r → (Fields r k z m g o s b d i → instr_of r ≡ j) → Packs j z r
  packed (unjoined e) h = none e
  packed (joined l f) h = packs l f.size_is (h f)

module _ (j : Address → Instr) {a : Address} {k z g o i r : ℕ} {b : Bool} where
  addressed : Located a k z g o b i r → ((m s d : ℕ) → Fields r k z m g o s b d i → instr_of r ≡ j (address_at m s d)) → Packs (j a) z r
  addressed (unlocated e) h = none e
  addressed (located m s d e l f) h = packs l f.size_is (rw e (h m s d f))

module _ (j : Place → Instr) {p : Place} {k k' z g o i r : ℕ} {b : Bool} where
  placed : Placed p k k' z g o b i r → ((m : ℕ) → Fields r k z m g o 0 b 0 i → instr_of r ≡ j (Register m)) → ((m s d : ℕ) → Fields r k' z m g o s b d i → instr_of r ≡ j (Memory (address_at m s d)))
      → Packs (j p) z r
  placed (unplaced e) h l = none e
  placed (register m e q f) h l = packs q f.size_is (rw e (h m f))
  placed (memory m s d e q f) h l = packs q f.size_is (rw e (l m s d f))

-- ---- operations

module _ (op : Operation) (o z r : ℕ) (w : Bool) (named : op ≡ operation_at o) (small : o < 8) where
  op_is : op ≡ operation_at (o % 8)
  op_is = low_is operation_at op o named small

  pub two_from_register : (to from : Place) (n : ℕ) → from ≡ Register n → Placed to 1 3 z n o w 0 r → Packs (Calculates (Two op w to (Held from))) z r
  two_from_register to from n e h = rw (e, op_is) (placed (λ p. Calculates (Two (operation_at (o % 8)) w p (Held (Register n)))) h (λ m f. is_1 f) (λ m s d f. is_3 f))

  pub two_from_memory : (to from : Place) (n : ℕ) (a : Address) → from ≡ Memory a → to ≡ Register n → Located a 2 z n o w 0 r → Packs (Calculates (Two op w to (Held from))) z r
  two_from_memory to from n a e q h = rw (e, q, op_is) (addressed (λ x. Calculates (Two (operation_at (o % 8)) w (Register n) (Held (Memory x)))) h (λ m s d f. is_2 f))

  pub two_immediate : (to : Place) (from : Source) (v : ℕ) → from ≡ Immediate v → Placed to 16 17 z 0 o w v r → Packs (Calculates (Two op w to from)) z r
  two_immediate to from v e h = rw (e, op_is) (placed (λ p. Calculates (Two (operation_at (o % 8)) w p (Immediate v))) h (λ m f. is_16 f) (λ m s d f. is_17 f))

pub two_held : (op : Operation) (w : Bool) (to p : Place) (from : Source) (z r : ℕ) → from ≡ Held p → Packs (Calculates (Two op w to (Held p))) z r → Packs (Calculates (Two op w to from)) z r
two_held op w to p from z r e h = rw e h

pub one_operand : (op : Unary) (o z r : ℕ) (w : Bool) (to : Place) → op ≡ unary_at o → o < 8 → Placed to 19 20 z 0 o w 0 r → Packs (Calculates (One op w to)) z r
one_operand op o z r w to e l h = rw (low_is unary_at op o e l) (placed (λ p. Calculates (One (unary_at (o % 8)) w p)) h (λ m f. is_19 f) (λ m s d f. is_20 f))

module _ (w : Bool) (left z r : ℕ) (right : Source) where
  pub test_registers : (p : Place) (n : ℕ) → right ≡ Held p → p ≡ Register n → Joined 28 z left n 0 0 w 0 0 r → Packs (Calculates (Test w (Register left) right)) z r
  test_registers p n e q h = rw (e, q) (packed (Calculates (Test w (Register left) (Held (Register n)))) h is_28)

  pub test_immediate : (v : ℕ) → right ≡ Immediate v → Joined 29 z left 0 0 0 w 0 v r → Packs (Calculates (Test w (Register left) right)) z r
  test_immediate v e h = rw e (packed (Calculates (Test w (Register left) (Immediate v))) h is_29)

pub test_register : (i : Arithmetic) (w : Bool) (left : Place) (right : Source) (n z r : ℕ) → i ≡ Test w left right → left ≡ Register n → Packs (Calculates (Test w (Register n) right)) z r
    → Packs (Calculates i) z r
test_register i w left right n z r e q h = rw (e, q) h

pub shift_one : (i : Compute) (k : Shift) (o z r : ℕ) (w : Bool) (to : Place) (n : Places) → i ≡ compute.Shifts k w to n → n ≡ places.One → k ≡ shift_at o → o < 8 → Placed to 24 25 z 0 o w 0 r
    → Packs (Computes i) z r
shift_one i k o z r w to n e q l m h = rw (e, q, low_is shift_at k o l m) (placed (λ p. Shifts (shift_at (o % 8)) w p places.One) h (λ m f. is_24 f) (λ m s d f. is_25 f))

module _ (k : Shift) (o z r : ℕ) (w : Bool) (to : Place) (a : Amount) (named : k ≡ shift_at o) (small : o < 8) where
  kind_is : k ≡ shift_at (o % 8)
  kind_is = low_is shift_at k o named small

  counted : (g i : ℕ) → a ≡ amount_at g i → Placed to 37 38 z g o w i r → Packs (Shifts k w to (places.Counted a)) z r
  counted g i e h = rw (kind_is, e) (placed (λ p. Shifts (shift_at (o % 8)) w p (places.Counted (amount_at g i))) h (λ m f. is_37 f) (λ m s d f. is_38 f))

  pub by_cl : a ≡ InCl → Placed to 37 38 z 1 o w 0 r → Packs (Shifts k w to (places.Counted a)) z r
  unfolding amount_at
  by_cl e h = counted 1 0 e h

  pub by_given : (n v : ℕ) → a ≡ Given n → n < 256 → v ≡ n → Placed to 37 38 z 0 o w v r → Packs (Shifts k w to (places.Counted a)) z r
  unfolding amount_at
  by_given n v e l q h = let m : v % 256 ≡ n = omega arith in counted 0 v (rw m e) h

pub shift_counted : (i : Compute) (k : Shift) (w : Bool) (to : Place) (n : Places) (a : Amount) (z r : ℕ) → i ≡ compute.Shifts k w to n → n ≡ places.Counted a → Packs (Shifts k w to (places.Counted a)) z r
    → Packs (Computes i) z r
shift_counted i k w to n a z r e q h = rw (e, q) h

-- ---- MOV

module _ (z r : ℕ) (w : Bool) where
  pub mov_from_register : (to from : Place) (n : ℕ) → from ≡ Register n → Placed to 4 6 z n 0 w 0 r → Packs (Transfers (Mov w to (Held from))) z r
  mov_from_register to from n e h = rw e (placed (λ p. Transfers (Mov w p (Held (Register n)))) h (λ m f. is_4 f) (λ m s d f. is_6 f))

  pub mov_from_memory : (to from : Place) (n : ℕ) (a : Address) → from ≡ Memory a → to ≡ Register n → Located a 5 z n 0 w 0 r → Packs (Transfers (Mov w to (Held from))) z r
  mov_from_memory to from n a e q h = rw (e, q) (addressed (λ x. Transfers (Mov w (Register n) (Held (Memory x)))) h (λ m s d f. is_5 f))

  pub mov_immediate : (to : Place) (from : Source) (v : ℕ) → from ≡ Immediate v → Placed to 7 18 z 0 0 w v r → Packs (Transfers (Mov w to from)) z r
  mov_immediate to from v e h = rw e (placed (λ p. Transfers (Mov w p (Immediate v))) h (λ m f. is_7 f) (λ m s d f. is_18 f))

  pub mov_held : (to p : Place) (from : Source) → from ≡ Held p → Packs (Transfers (Mov w to (Held p))) z r → Packs (Transfers (Mov w to from)) z r
  mov_held to p from e h = rw e h

  pub load_acc : (i : Transfer) (a : Address) → i ≡ LoadAcc w a → Located a 26 z 0 0 w 0 r → Packs (Transfers i) z r
  load_acc i a e h = rw e (addressed (λ x. Transfers (LoadAcc w x)) h (λ m s d f. is_26 f))

  pub store_acc : (i : Transfer) (a : Address) → i ≡ StoreAcc w a → Located a 27 z 0 0 w 0 r → Packs (Transfers i) z r
  store_acc i a e h = rw e (addressed (λ x. Transfers (StoreAcc w x)) h (λ m s d f. is_27 f))

module _ (z r : ℕ) (i : Transfer) where
  pub ldea_is : (g : ℕ) (a : Address) → i ≡ Ldea g a → Located a 39 z g 0 false 0 r → Packs (Transfers i) z r
  ldea_is g a e h = rw e (addressed (λ x. Transfers (Ldea g x)) h (λ m s d f. is_39 f))

  pub xch_is : (w : Bool) (g n : ℕ) (p : Place) → i ≡ Xch w g p → p ≡ Register n → Joined 40 z n g 0 0 w 0 0 r → Packs (Transfers i) z r
  xch_is w g n p e q h = rw (e, q) (packed (Transfers (Xch w g (Register n))) h is_40)

  pub from_segment_is : (s n : ℕ) (p : Place) → i ≡ FromSegment p s → p ≡ Register n → Joined 41 z n 0 0 s false 0 0 r → Packs (Transfers i) z r
  from_segment_is s n p e q h = rw (e, q) (packed (Transfers (FromSegment (Register n) s)) h is_41)

-- ---- the stack and branches

module _ (z r : ℕ) where
  pub push_register : (i : Stack) (p : Place) (n : ℕ) → i ≡ Push p → p ≡ Register n → Joined 8 z n 0 0 0 false 0 0 r → Packs (Stacks i) z r
  push_register i p n e q h = rw (e, q) (packed (Stacks (Push (Register n))) h is_8)

  pub pop_register : (i : Stack) (p : Place) (n : ℕ) → i ≡ Pop p → p ≡ Register n → Joined 9 z n 0 0 0 false 0 0 r → Packs (Stacks i) z r
  pop_register i p n e q h = rw (e, q) (packed (Stacks (Pop (Register n))) h is_9)

  module _ (i : Branch) where
    pub call_near : (d : ℕ) → i ≡ CallNear d → Joined 11 z 0 0 0 0 false d 0 r → Packs (Branches i) z r
    call_near d e h = rw e (packed (Branches (CallNear d)) h is_11)

    pub ret_near : i ≡ Ret → Joined 12 z 0 0 0 0 false 0 0 r → Packs (Branches i) z r
    ret_near e h = rw e (packed (Branches Ret) h is_12)

    pub br_near : (d : ℕ) → i ≡ BrNear d → Joined 21 z 0 0 0 0 false d 0 r → Packs (Branches i) z r
    br_near d e h = rw e (packed (Branches (BrNear d)) h is_21)

    pub br_short : (d : ℕ) → i ≡ BrShort d → Joined 22 z 0 0 0 0 false d 0 r → Packs (Branches i) z r
    br_short d e h = rw e (packed (Branches (BrShort d)) h is_22)

    pub br_far : (ps pc : ℕ) → i ≡ BrFar ps pc → Joined 42 z 0 0 0 0 false pc ps r → Packs (Branches i) z r
    br_far ps pc e h = rw e (packed (Branches (BrFar ps pc)) h is_42)

  module _ (i : Conditional) where
    pub dbnzne : (d : ℕ) → i ≡ Dbnzne d → Joined 43 z 0 0 0 0 false d 0 r → Packs (Tests i) z r
    dbnzne d e h = rw e (packed (Tests (Dbnzne d)) h is_43)

    pub dbnze : (d : ℕ) → i ≡ Dbnze d → Joined 44 z 0 0 0 0 false d 0 r → Packs (Tests i) z r
    dbnze d e h = rw e (packed (Tests (Dbnze d)) h is_44)

    pub bcwz : (d : ℕ) → i ≡ Bcwz d → Joined 36 z 0 0 0 0 false d 0 r → Packs (Tests i) z r
    bcwz d e h = rw e (packed (Tests (Bcwz d)) h is_36)

    pub branch_if : (n d : ℕ) → i ≡ If n d → Joined 10 z 0 0 n 0 false d 0 r → Packs (Tests i) z r
    branch_if n d e h = rw e (packed (Tests (If n d)) h is_10)

    pub dbnz : (d : ℕ) → i ≡ Dbnz d → Joined 23 z 0 0 0 0 false d 0 r → Packs (Tests i) z r
    dbnz d e h = rw e (packed (Tests (Dbnz d)) h is_23)

-- ---- blocks, decimal strings, conversions, products and quotients

module _ (z r o g : ℕ) where
  pub block_is : (w : Bool) (seg : ℕ) (q : Repeat) → q ≡ repeat_at g → Joined 32 z 0 g o seg w 0 0 r → Packs (Blocks (primitive_at (o % 8)) w seg q) z r
  block_is w seg q l h = rw l (packed (Blocks (primitive_at (o % 8)) w seg (repeat_at g)) h is_32)

  pub block_of : (p : Primitive) (w : Bool) (seg : ℕ) (q : Repeat) → p ≡ get_or (Movbk ∷ Cmpbk ∷ Cmpm ∷ Ldm ∷ Stm ∷ []) (o % 8) Movbk → Packs (Blocks (primitive_at (o % 8)) w seg q) z r → Packs (Blocks p w seg q) z r
  unfolding primitive_at
  block_of p w seg q e h = rw e h

  pub string_is : (seg : ℕ) → Joined 33 z 0 0 o seg false 0 0 r → Packs (Decimals (string_at (o % 8) seg)) z r
  string_is seg h = packed (Decimals (string_at (o % 8) seg)) h is_33

  pub string_of : (i : Decimal) (seg : ℕ) → i ≡ get_or (Add4s seg ∷ Sub4s seg ∷ Cmp4s seg ∷ []) (o % 8) (Add4s seg) → Packs (Decimals (string_at (o % 8) seg)) z r → Packs (Decimals i) z r
  unfolding string_at
  string_of i seg e h = rw e h

  pub convert_is : (i : Convert) → i ≡ convert_at o → o < 8 → Joined 34 z 0 0 o 0 false 0 0 r → Packs (Converts i) z r
  convert_is i e l h = rw (low_is convert_at i o e l) (packed (Converts (convert_at (o % 8))) h is_34)

module _ (z r o : ℕ) (w : Bool) (by : Place) where
  pub product_is : (n : ℕ) → by ≡ Register n → Joined 35 z n 0 o 0 w 0 0 r → Packs (Multiplies (product_at (o % 8) w by)) z r
  product_is n e h = rw e (packed (Multiplies (product_at (o % 8) w (Register n))) h is_35)

  pub product_of : (i : Multiply) → i ≡ get_or (Mulu w by ∷ Mul w by ∷ Divu w by ∷ Div w by ∷ []) (o % 8) (Mulu w by) → Packs (Multiplies (product_at (o % 8) w by)) z r → Packs (Multiplies i) z r
  unfolding product_at
  product_of i e h = rw e h

-- ---- ports

module _ (i : Io) (z r m d : ℕ) (w : Bool) (p : Port) (port : p ≡ port_at m d) where
  pub in_is : i ≡ In w p → Joined 48 z m 0 0 0 w d 0 r → Packs (Ports i) z r
  in_is e h = rw (e, port) (packed (Ports (In w (port_at m d))) h is_48)

  pub out_is : i ≡ Out w p → Joined 49 z m 0 0 0 w d 0 r → Packs (Ports i) z r
  out_is e h = rw (e, port) (packed (Ports (Out w (port_at m d))) h is_49)

module _ (z r seg : ℕ) (w : Bool) (q : Repeat) where
  pub stream_is : (o : ℕ) → q ≡ WhileZ → Joined 50 z 0 0 o seg w 0 0 r → Packs (Blocks (stream_at (o % 8)) w seg q) z r
  stream_is o e h = rw e (packed (Blocks (stream_at (o % 8)) w seg WhileZ) h is_50)

  pub inm_is : (p : Primitive) → p ≡ Inm → Packs (Blocks (stream_at (0 % 8)) w seg q) z r → Packs (Blocks p w seg q) z r
  unfolding stream_at
  inm_is p e h = rw e h

  pub outm_is : (p : Primitive) → p ≡ Outm → Packs (Blocks (stream_at (1 % 8)) w seg q) z r → Packs (Blocks p w seg q) z r
  unfolding stream_at
  outm_is p e h = rw e h
