-- Every code of the tables, and an instruction with its prefixes, by the rules of BoundsReading.
use Prim.Native.Nat.{ℕ, zero, suc}
use mathlib.Core.List.{List, ◌++◌}
use Rattle.std.specs.Prelude.{Option, None, Some}
use lib.Dec.{eqb, lit≤}
use Rattle.sheet.specs.declared.Place.{Place}
use Rattle.sheet.specs.declared.Length.{Length}
use Rattle.sheet.specs.declared.Operation.{Operation}
use Rattle.sheet.specs.declared.Convert.{Convert}
use Rattle.sheet.specs.declared.Bit.{Bit}
use Rattle.sheet.specs.declared.Shift.{Shift}
use Rattle.sheet.specs.declared.Places.{Places}
use Rattle.sheet.specs.declared.Prefixes.{Prefixes}
use Rattle.sheet.specs.declared.Instr.{Instr}
use Rattle.sheet.specs.Reading.{Reading}
use Rattle.sheet.specs.Encoding.{Prefix, unprefixed, with_prefix, reg_field, Row, to_register, look_up}
use Rattle.sheet.specs.SecondByte.{with_plain, bit_in_cl, bit_given, field_in_register, field_given, break_for_emulation, second_bytes}
use Rattle.sheet.specs.FirstByte.{six_codes, small_immediate, with_immediate, with_shift, shift_group, group_f6, group_fe, group_ff, from_segment, to_segment, after_ten, with_counted, bytes00, bytes40, bytes80, bytes_c0, first_bytes, after_prefix, prefixed, instruction}
use Rattle.log_record.proofs.Picked.{picked}
use Rattle.theorems.proofs.BoundsReading.{LeafTo, Leaf, bind, also_fourth, into, either, Any, some_leaf, unknown_code, of_byte, of_word, any_byte, of_immediate, of_signed_byte, of_allow, of_place, of_memory, of_plain_place, Fine, ok, of_with_place, of_with_memory, of_with_acc, of_with_byte, of_with_word, of_with_short, of_with_far, Rows, of_look_up, both, leaf, stop, none_more, ◌also◌}

-- ---- the codes after 0F

of_with_plain : (p : Prefixes) (k : Place → Instr) → ((a : Place) → Fine (k a)) → Leaf Fine (with_plain p k)
unfolding with_plain
of_with_plain p k h = bind (of_plain_place p) λ a _. leaf (h a)

of_bit_in_cl : (p : Prefixes) (op : Bit) (n : ℕ) → Leaf Fine (bit_in_cl p op n)
unfolding bit_in_cl
of_bit_in_cl p op n = of_with_plain p _ λ a. ok

of_bit_given : (p : Prefixes) (op : Bit) (n : ℕ) → Leaf Fine (bit_given p op n)
unfolding bit_given
of_bit_given p op n = bind (of_plain_place p) λ a _. into _ of_byte λ b. ok

of_field_in_register : (k : ℕ → Length → Reading Instr) → ((o : ℕ) (l : Length) → Leaf Fine (k o l)) → Leaf Fine (field_in_register k)
unfolding field_in_register
of_field_in_register k h = bind of_byte λ m _. bind (of_allow _) λ _ _. h _ _

of_field_given : (k : ℕ → Length → Reading Instr) → ((o : ℕ) (l : Length) → Leaf Fine (k o l)) → Leaf Fine (field_given k)
unfolding field_given
of_field_given k h = bind of_byte λ m _. bind (of_allow _) λ _ _. bind of_byte λ n _. h _ _

of_break_for_emulation : Leaf Fine break_for_emulation
unfolding break_for_emulation
of_break_for_emulation = into _ of_byte λ v. ok

of_second_bytes : (p : Prefixes) → Rows (second_bytes p)
of_second_bytes p =
    of_bit_in_cl p _
    also of_bit_in_cl p _
    also of_bit_in_cl p _
    also of_bit_in_cl p _
    also of_bit_given p _
    also of_bit_given p _
    also of_bit_given p _
    also of_bit_given p _
    also (λ n. leaf ok)
    also (λ n. leaf ok)
    also (λ n. leaf ok)
    also (λ n. of_with_plain p _ λ a. ok)
    also (λ n. of_with_plain p _ λ a. ok)
    also (λ n. of_field_in_register _ λ o l. leaf ok)
    also (λ n. of_field_in_register _ λ o l. leaf ok)
    also (λ n. of_field_given _ λ o l. leaf ok)
    also (λ n. of_field_given _ λ o l. leaf ok)
    also (λ n. of_break_for_emulation)
    also none_more

-- ---- groups behind a first byte

of_small_immediate : (b : ℕ) → Leaf Any (small_immediate b)
unfolding small_immediate
of_small_immediate b = either (eqb b 0x81) of_word (either (eqb b 0x83) of_signed_byte any_byte)

of_with_immediate : (p : Prefixes) (b : ℕ) → Leaf Fine (with_immediate p b)
unfolding with_immediate
of_with_immediate p b = of_with_place p _ λ reg a. into _ (of_small_immediate b) λ v. ok

of_with_shift : (o : Option Shift) (k : Shift → Reading Instr) → ((s : Shift) → Leaf Fine (k s)) → Leaf Fine (with_shift o k)
unfolding with_shift
of_with_shift None k h = unknown_code
of_with_shift (Some s) k h = h s

of_shift_group : (p : Prefixes) (count : Reading Places) → Leaf Any count → (n : ℕ) → Leaf Fine (shift_group p count n)
unfolding shift_group
of_shift_group p count h n = bind of_byte λ m _. of_with_shift _ _ λ s. bind (of_place p m) λ a _. into _ h λ c. ok

of_group_f6 : (p : Prefixes) (n : ℕ) → Leaf Fine (group_f6 p n)
unfolding group_f6
of_group_f6 p n =
    bind of_byte λ m _. of_look_up _ (
    (λ k. bind (of_place p m) λ a _. into _ (of_immediate _) λ v. ok)
    also (λ k. into _ (of_place p m) λ a. ok)
    also (λ k. into _ (of_place p m) λ a. ok)
    also (λ k. into _ (of_place p m) λ a. ok)
    also (λ k. into _ (of_place p m) λ a. ok)
    also (λ k. into _ (of_place p m) λ a. ok)
    also (λ k. into _ (of_place p m) λ a. ok)
    also none_more) (reg_field m)

of_group_fe : (p : Prefixes) → Leaf Fine (group_fe p)
unfolding group_fe
of_group_fe p = bind of_byte λ m _. of_look_up _ ((λ k. into _ (of_place p m) λ a. ok) also (λ k. into _ (of_place p m) λ a. ok) also none_more) (reg_field m)

of_group_ff : (p : Prefixes) → Leaf Fine (group_ff p)
unfolding group_ff
of_group_ff p =
    bind of_byte λ m _. of_look_up _ (
    (λ k. into _ (of_place p m) λ a. ok)
    also (λ k. into _ (of_place p m) λ a. ok)
    also (λ k. into _ (of_place p m) λ a. ok)
    also (λ k. into _ (of_memory p m) λ a. ok)
    also (λ k. into _ (of_place p m) λ a. ok)
    also (λ k. into _ (of_memory p m) λ a. ok)
    also (λ k. into _ (of_place p m) λ a. ok)
    also none_more) (reg_field m)

of_from_segment : (p : Prefixes) → Leaf Fine (from_segment p)
unfolding from_segment
of_from_segment p = bind of_byte λ m _. bind (of_allow _) λ _ _. into _ (of_place p m) λ a. ok

of_to_segment : (p : Prefixes) → Leaf Fine (to_segment p)
unfolding to_segment
of_to_segment p = bind of_byte λ m _. bind (of_allow _) λ _ _. into _ (of_place p m) λ a. ok

of_after_ten : (c : Convert) → Leaf Fine (after_ten c)
unfolding after_ten
of_after_ten c = bind of_byte λ b _. bind (of_allow _) λ _ _. leaf ok

of_with_counted : Leaf Any with_counted
unfolding with_counted
of_with_counted = bind of_byte λ n _. some_leaf

-- ---- the table of first bytes

-- an operation's six codes, and what comes after them
of_six_codes : (p : Prefixes) (from : ℕ) (op : Operation) (t : List Row) → Rows t → Rows (six_codes p from op ++ t)
of_six_codes p from op t h = (λ n. of_with_place p _ λ reg a. leaf (picked Fine (to_register n) ok ok)) also (λ n. of_with_acc _ _ λ v. ok) also h

of_bytes00 : (p : Prefixes) → Rows (bytes00 p)
of_bytes00 p =
    of_six_codes p _ _ _ ((λ n. leaf ok) also (λ n. leaf ok) also
    of_six_codes p _ _ _ ((λ n. leaf ok) also (λ n. bind of_byte λ b _. of_look_up (second_bytes p) (of_second_bytes p) b) also
    of_six_codes p _ _ _ ((λ n. leaf ok) also (λ n. leaf ok) also
    of_six_codes p _ _ _ ((λ n. leaf ok) also (λ n. leaf ok) also
    of_six_codes p _ _ _ ((λ n. leaf ok) also
    of_six_codes p _ _ _ ((λ n. leaf ok) also
    of_six_codes p _ _ _ ((λ n. leaf ok) also
    of_six_codes p _ _ _ ((λ n. leaf ok) also none_more))))))))

of_bytes40 : (p : Prefixes) → Rows (bytes40 p)
of_bytes40 p =
    (λ n. leaf ok)
    also (λ n. leaf ok)
    also (λ n. leaf ok)
    also (λ n. leaf ok)
    also (λ n. leaf ok)
    also (λ n. leaf ok)
    also (λ n. of_with_memory p _ λ reg a. ok)
    also (λ n. of_with_word _ λ v. ok)
    also (λ n. of_with_place p _ λ reg a. of_with_word _ λ v. ok)
    also (λ n. of_with_short _ λ v. ok)
    also (λ n. of_with_place p _ λ reg a. of_with_short _ λ v. ok)
    also (λ n. leaf ok)
    also (λ n. leaf ok)
    also (λ n. of_with_short _ λ v. ok)
    also none_more

of_bytes80 : (p : Prefixes) → Rows (bytes80 p)
of_bytes80 p =
    of_with_immediate p
    also (λ n. of_with_place p _ λ reg a. leaf ok)
    also (λ n. of_with_place p _ λ reg a. leaf ok)
    also (λ n. of_with_place p _ λ reg a. leaf ok)
    also (λ n. of_with_place p _ λ reg a. leaf ok)
    also (λ n. of_from_segment p)
    also (λ n. of_with_memory p _ λ reg a. ok)
    also (λ n. of_to_segment p)
    also (λ n. of_with_plain p _ λ a. ok)
    also (λ n. leaf ok)
    also (λ n. leaf ok)
    also (λ n. leaf ok)
    also (λ n. leaf ok)
    also (λ n. of_with_far _ λ ps pc. ok)
    also (λ n. leaf ok)
    also (λ n. leaf ok)
    also (λ n. leaf ok)
    also (λ n. leaf ok)
    also (λ n. of_with_word _ λ v. ok)
    also (λ n. of_with_word _ λ v. ok)
    also (λ n. leaf ok)
    also (λ n. leaf ok)
    also (λ n. of_with_acc _ _ λ v. ok)
    also (λ n. leaf ok)
    also (λ n. leaf ok)
    also (λ n. leaf ok)
    also (λ n. of_with_byte _ λ v h. ok)
    also (λ n. of_with_word _ λ v. ok)
    also none_more

of_bytes_c0 : (p : Prefixes) → Rows (bytes_c0 p)
of_bytes_c0 p =
    of_shift_group p _ of_with_counted
    also (λ n. of_with_word _ λ v. ok)
    also (λ n. leaf ok)
    also (λ n. of_with_memory p _ λ reg a. ok)
    also (λ n. of_with_memory p _ λ reg a. ok)
    also (λ n. bind (of_plain_place p) λ a _. into _ (of_immediate _) λ v. ok)
    also (λ n. bind of_word λ size _. bind of_byte λ level h. leaf h)
    also (λ n. leaf ok)
    also (λ n. of_with_word _ λ v. ok)
    also (λ n. leaf ok)
    also (λ n. leaf ok)
    also (λ n. of_with_byte _ λ v h. ok)
    also (λ n. leaf ok)
    also (λ n. leaf ok)
    also of_shift_group p _ some_leaf
    also of_shift_group p _ some_leaf
    also (λ n. of_after_ten _)
    also (λ n. of_after_ten _)
    also (λ n. leaf ok)
    also (λ n. of_with_short _ λ v. ok)
    also (λ n. of_with_short _ λ v. ok)
    also (λ n. of_with_short _ λ v. ok)
    also (λ n. of_with_short _ λ v. ok)
    also (λ n. of_with_byte _ λ v h. h)
    also (λ n. of_with_byte _ λ v h. h)
    also (λ n. of_with_word _ λ v. ok)
    also (λ n. of_with_word _ λ v. ok)
    also (λ n. of_with_far _ λ ps pc. ok)
    also (λ n. of_with_short _ λ v. ok)
    also (λ n. leaf ok)
    also (λ n. leaf ok)
    also (λ n. leaf ok)
    also (λ n. leaf ok)
    also of_group_f6 p
    also (λ n. leaf ok)
    also (λ n. leaf ok)
    also (λ n. leaf ok)
    also (λ n. leaf ok)
    also (λ n. leaf ok)
    also (λ n. leaf ok)
    also (λ n. of_group_fe p)
    also (λ n. of_group_ff p)
    also none_more

of_first_bytes : (p : Prefixes) → Rows (first_bytes p)
of_first_bytes p = both (of_bytes00 p) (both (of_bytes40 p) (both (of_bytes80 p) (of_bytes_c0 p)))

-- ---- an instruction with its prefixes

of_after_prefix : (o : Option Prefix) (k : Prefix → Reading Instr) (other : Reading Instr) → ((q : Prefix) → LeafTo 4 Fine (k q)) → LeafTo 4 Fine other → LeafTo 4 Fine (after_prefix o k other)
unfolding after_prefix
of_after_prefix None k other h g = g
of_after_prefix (Some q) k other h g = h q

-- the bytes behind the prefixes
pub of_code : (p : Prefixes) (b : ℕ) → Leaf Fine (look_up (first_bytes p) b)
of_code p b = of_look_up (first_bytes p) (of_first_bytes p) b

of_prefixed : (room : ℕ) (p : Prefixes) → LeafTo 4 Fine (prefixed room p)
unfolding prefixed
of_prefixed zero p = bind of_byte λ b _. of_after_prefix _ _ _ (λ q. stop (lit≤ tt) (lit≤ tt)) (also_fourth _ (of_code p b))
of_prefixed (suc room) p = bind of_byte λ b _. of_after_prefix _ _ _ (λ q. of_prefixed room (with_prefix p q)) (also_fourth _ (of_code p b))

pub of_instruction : LeafTo 4 Fine instruction
unfolding instruction
of_instruction = of_prefixed 3 unprefixed
