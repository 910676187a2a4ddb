-- No instruction has more than nine bytes: three prefixes, a first byte, and at most five behind it in every row of the tables.
use Prim.Native.Nat.{ℕ, zero, suc, ◌≤◌}
use mathlib.Core.Path.{◌≡◌, refl}
use mathlib.Core.Bool.{true}
use mathlib.Core.List.{List, [], ◌∷◌, ◌++◌}
use Rattle.std.specs.Prelude.{Option, None, Some}
use lib.ListN.{get_or}
use lib.Dec.{eqb}
use Rattle.sheet.specs.declared.Place.{Place}
use Rattle.sheet.specs.declared.Place.TheVariants.{Memory}
use Rattle.sheet.specs.declared.Address.TheVariants.{Formed}
use Rattle.sheet.specs.declared.Source.TheVariants.{Immediate}
use Rattle.sheet.specs.declared.Length.{Length}
use Rattle.sheet.specs.declared.Operation.{Operation}
use Rattle.sheet.specs.declared.Operation.TheVariants.{Add}
use Rattle.sheet.specs.declared.Arithmetic.TheVariants.{Two}
use Rattle.sheet.specs.declared.Convert.{Convert}
use Rattle.sheet.specs.declared.Bit.{Bit}
use Rattle.sheet.specs.declared.Shift.{Shift}
use Rattle.sheet.specs.declared.Places.{Places}
use Rattle.sheet.specs.declared.Prefixes.{Prefixes}
use Rattle.sheet.specs.declared.Instr.{Instr}
use Rattle.sheet.specs.Groups.{Calculates}
use Rattle.sheet.specs.Registers.{in_ds1}
use Rattle.sheet.specs.Reading.{Reading, known, scan, length_of, word, ◌>>=◌}
use Rattle.sheet.specs.Encoding.{Prefix, prefix_of, unprefixed, with_prefix, reg_field, place, in_memory, address, with_displacement, displacement, formed, Row, look_up}
use Rattle.sheet.specs.SecondByte.{with_plain, bit_in_cl, bit_given, field_in_register, field_given, break_for_emulation, second_bytes}
use Rattle.sheet.specs.FirstByte.{operation_at, six_codes, small_immediate, with_place, with_immediate, with_shift, shift_group, group_f6, group_fe, group_ff, from_segment, to_segment, after_ten, with_counted, bytes00, bytes40, bytes80, bytes_c0, first_bytes, after_prefix, prefixed, instruction}
use Rattle.rom_form.proofs.Room.{Room, stop, scan_room, bind, either, spare, nothing, of_byte, of_word, of_immediate, of_signed_byte, of_allow, of_place, of_memory, of_plain_place, Short, ready, into, of_with_place, of_with_memory, of_with_acc, of_with_byte, of_with_word, of_with_short, of_with_far, Rows, none_more, ◌also◌, of_look_up, both}

-- ---- at most four bytes behind 0F

of_with_plain : {n : ℕ} (p : Prefixes) (k : Place → Instr) → Short (suc (suc (suc n))) (with_plain p k)
unfolding with_plain
of_with_plain {n} p k = into {n = n} k (of_plain_place p)

of_bit_in_cl : (p : Prefixes) (op : Bit) (w : ℕ) → Short 4 (bit_in_cl p op w)
unfolding bit_in_cl
of_bit_in_cl p op w = of_with_plain p _

of_bit_given : (p : Prefixes) (op : Bit) (w : ℕ) → Short 4 (bit_given p op w)
unfolding bit_given
of_bit_given p op w = bind (of_plain_place p) λ a. into _ of_byte

of_field_in_register : (k : ℕ → Length → Reading Instr) → ((o : ℕ) (l : Length) → Short 3 (k o l)) → Short 4 (field_in_register k)
unfolding field_in_register
of_field_in_register k h = bind of_byte λ m. bind (of_allow _) λ _. h _ _

of_field_given : (k : ℕ → Length → Reading Instr) → ((o : ℕ) (l : Length) → Short 2 (k o l)) → Short 4 (field_given k)
unfolding field_given
of_field_given k h = bind of_byte λ m. bind (of_allow _) λ _. bind of_byte λ n. h _ _

of_break_for_emulation : Short 4 break_for_emulation
unfolding break_for_emulation
of_break_for_emulation = into _ of_byte

of_second_bytes : (p : Prefixes) → Rows 4 (second_bytes p)
of_second_bytes p =
    of_bit_in_cl p _
    also of_bit_in_cl p _
    also of_bit_in_cl p _
    also of_bit_in_cl p _
    also of_bit_given p _
    also of_bit_given p _
    also of_bit_given p _
    also of_bit_given p _
    also (λ n. ready)
    also (λ n. ready)
    also (λ n. ready)
    also (λ n. of_with_plain p _)
    also (λ n. of_with_plain p _)
    also (λ n. of_field_in_register _ λ o l. ready)
    also (λ n. of_field_in_register _ λ o l. ready)
    also (λ n. of_field_given _ λ o l. ready)
    also (λ n. of_field_given _ λ o l. ready)
    also (λ n. of_break_for_emulation)
    also none_more

-- ---- at most five bytes behind a first byte

of_small_immediate : {m : ℕ} (b : ℕ) → Room (suc (suc m)) m (small_immediate b)
unfolding small_immediate
of_small_immediate b = either (eqb b 0x81) of_word (either (eqb b 0x83) (spare of_signed_byte) (spare of_byte))

of_with_immediate : (p : Prefixes) (b : ℕ) → Short 5 (with_immediate p b)
unfolding with_immediate
of_with_immediate p b = of_with_place p _ λ reg a. into _ (of_small_immediate b)

of_with_shift : {n : ℕ} (o : Option Shift) (k : Shift → Reading Instr) → ((s : Shift) → Short n (k s)) → Short n (with_shift o k)
unfolding with_shift
of_with_shift None k h = stop
of_with_shift (Some s) k h = h s

of_shift_group : (p : Prefixes) (count : Reading Places) → Room 2 1 count → (n : ℕ) → Short 5 (shift_group p count n)
unfolding shift_group
of_shift_group p count h n = bind of_byte λ m. of_with_shift _ _ λ s. bind (of_place p m) λ a. into _ h

of_group_f6 : (p : Prefixes) (n : ℕ) → Short 5 (group_f6 p n)
unfolding group_f6
of_group_f6 p n =
    bind of_byte λ m. of_look_up _ (
    (λ k. bind (of_place p m) λ a. into _ (of_immediate _))
    also (λ k. into _ (of_place p m))
    also (λ k. into _ (of_place p m))
    also (λ k. into _ (of_place p m))
    also (λ k. into _ (of_place p m))
    also (λ k. into _ (of_place p m))
    also (λ k. into _ (of_place p m))
    also none_more) (reg_field m)

of_group_fe : (p : Prefixes) → Short 5 (group_fe p)
unfolding group_fe
of_group_fe p = bind of_byte λ m. of_look_up _ ((λ k. into _ (of_place p m)) also (λ k. into _ (of_place p m)) also none_more) (reg_field m)

of_group_ff : (p : Prefixes) → Short 5 (group_ff p)
unfolding group_ff
of_group_ff p =
    bind of_byte λ m. of_look_up _ (
    (λ k. into _ (of_place p m))
    also (λ k. into _ (of_place p m))
    also (λ k. into _ (of_place p m))
    also (λ k. into _ (of_memory p m))
    also (λ k. into _ (of_place p m))
    also (λ k. into _ (of_memory p m))
    also (λ k. into _ (of_place p m))
    also none_more) (reg_field m)

of_from_segment : (p : Prefixes) → Short 5 (from_segment p)
unfolding from_segment
of_from_segment p = bind of_byte λ m. bind (of_allow _) λ _. into _ (of_place p m)

of_to_segment : (p : Prefixes) → Short 5 (to_segment p)
unfolding to_segment
of_to_segment p = bind of_byte λ m. bind (of_allow _) λ _. into _ (of_place p m)

of_after_ten : (c : Convert) → Short 5 (after_ten c)
unfolding after_ten
of_after_ten c = bind of_byte λ b. bind (of_allow _) λ _. ready

of_with_counted : Room 2 1 with_counted
unfolding with_counted
of_with_counted = bind of_byte λ n. nothing

-- ---- the table of first bytes

-- an operation's six codes, and what comes after them
of_six_codes : (p : Prefixes) (from : ℕ) (op : Operation) (t : List Row) → Rows 5 t → Rows 5 (six_codes p from op ++ t)
of_six_codes p from op t h = (λ n. of_with_place p _ λ reg a. ready) also (λ n. of_with_acc _ _) also h

of_bytes00 : (p : Prefixes) → Rows 5 (bytes00 p)
of_bytes00 p =
    of_six_codes p _ _ _ ((λ n. ready) also (λ n. ready) also
    of_six_codes p _ _ _ ((λ n. ready) also (λ n. bind of_byte λ b. of_look_up (second_bytes p) (of_second_bytes p) b) also
    of_six_codes p _ _ _ ((λ n. ready) also (λ n. ready) also
    of_six_codes p _ _ _ ((λ n. ready) also (λ n. ready) also
    of_six_codes p _ _ _ ((λ n. ready) also
    of_six_codes p _ _ _ ((λ n. ready) also
    of_six_codes p _ _ _ ((λ n. ready) also
    of_six_codes p _ _ _ ((λ n. ready) also none_more))))))))

of_bytes40 : (p : Prefixes) → Rows 5 (bytes40 p)
of_bytes40 p =
    (λ n. ready)
    also (λ n. ready)
    also (λ n. ready)
    also (λ n. ready)
    also (λ n. ready)
    also (λ n. ready)
    also (λ n. of_with_memory p _)
    also (λ n. of_with_word _)
    also (λ n. of_with_place p _ λ reg a. of_with_word _)
    also (λ n. of_with_short _)
    also (λ n. of_with_place p _ λ reg a. of_with_short _)
    also (λ n. ready)
    also (λ n. ready)
    also (λ n. of_with_short _)
    also none_more

of_bytes80 : (p : Prefixes) → Rows 5 (bytes80 p)
of_bytes80 p =
    of_with_immediate p
    also (λ n. of_with_place p _ λ reg a. ready)
    also (λ n. of_with_place p _ λ reg a. ready)
    also (λ n. of_with_place p _ λ reg a. ready)
    also (λ n. of_with_place p _ λ reg a. ready)
    also (λ n. of_from_segment p)
    also (λ n. of_with_memory p _)
    also (λ n. of_to_segment p)
    also (λ n. of_with_plain p _)
    also (λ n. ready)
    also (λ n. ready)
    also (λ n. ready)
    also (λ n. ready)
    also (λ n. of_with_far _)
    also (λ n. ready)
    also (λ n. ready)
    also (λ n. ready)
    also (λ n. ready)
    also (λ n. of_with_word _)
    also (λ n. of_with_word _)
    also (λ n. ready)
    also (λ n. ready)
    also (λ n. of_with_acc _ _)
    also (λ n. ready)
    also (λ n. ready)
    also (λ n. ready)
    also (λ n. of_with_byte _)
    also (λ n. of_with_word _)
    also none_more

of_bytes_c0 : (p : Prefixes) → Rows 5 (bytes_c0 p)
of_bytes_c0 p =
    of_shift_group p _ of_with_counted
    also (λ n. of_with_word _)
    also (λ n. ready)
    also (λ n. of_with_memory p _)
    also (λ n. of_with_memory p _)
    also (λ n. bind (of_plain_place p) λ a. into _ (of_immediate _))
    also (λ n. bind of_word λ size. bind of_byte λ level. ready)
    also (λ n. ready)
    also (λ n. of_with_word _)
    also (λ n. ready)
    also (λ n. ready)
    also (λ n. of_with_byte _)
    also (λ n. ready)
    also (λ n. ready)
    also of_shift_group p _ (spare nothing)
    also of_shift_group p _ (spare nothing)
    also (λ n. of_after_ten _)
    also (λ n. of_after_ten _)
    also (λ n. ready)
    also (λ n. of_with_short _)
    also (λ n. of_with_short _)
    also (λ n. of_with_short _)
    also (λ n. of_with_short _)
    also (λ n. of_with_byte _)
    also (λ n. of_with_byte _)
    also (λ n. of_with_word _)
    also (λ n. of_with_word _)
    also (λ n. of_with_far _)
    also (λ n. of_with_short _)
    also (λ n. ready)
    also (λ n. ready)
    also (λ n. ready)
    also (λ n. ready)
    also of_group_f6 p
    also (λ n. ready)
    also (λ n. ready)
    also (λ n. ready)
    also (λ n. ready)
    also (λ n. ready)
    also (λ n. ready)
    also (λ n. of_group_fe p)
    also (λ n. of_group_ff p)
    also none_more

of_first_bytes : (p : Prefixes) → Rows 5 (first_bytes p)
of_first_bytes p = both (of_bytes00 p) (both (of_bytes40 p) (both (of_bytes80 p) (of_bytes_c0 p)))

-- ---- an instruction with its prefixes

of_after_prefix : {n : ℕ} (o : Option Prefix) (k : Prefix → Reading Instr) (other : Reading Instr) → ((q : Prefix) → Short n (k q)) → Short n other → Short n (after_prefix o k other)
unfolding after_prefix
of_after_prefix None k other h g = g
of_after_prefix (Some q) k other h g = h q

-- six bytes, and a byte for each prefix
abbrev most : ℕ → ℕ
most zero = 6
most (suc room) = suc (most room)

of_first : (room : ℕ) (p : Prefixes) (b : ℕ) → Short (most room) (look_up (first_bytes p) b)
of_first zero p b = spare (of_look_up (first_bytes p) (of_first_bytes p) b)
of_first (suc room) p b = spare (of_first room p b)

of_prefixed : (room : ℕ) (p : Prefixes) → Short (most room) (prefixed room p)
unfolding prefixed
of_prefixed zero p = bind of_byte λ b. of_after_prefix _ _ _ (λ q. stop) (of_look_up (first_bytes p) (of_first_bytes p) b)
of_prefixed (suc room) p = bind of_byte λ b. of_after_prefix _ _ _ (λ q. of_prefixed room (with_prefix p q)) (of_first room p b)

of_instruction : Short 9 instruction
unfolding instruction
of_instruction = of_prefixed 3 unprefixed

-- at most nine bytes are read, also where they are refused
pub nine_read : (src : ℕ → ℕ) → length_of (scan instruction src 0) ≤ 9
nine_read src = scan_room of_instruction src 0

pub nine_bytes : (src : ℕ → ℕ) (i : Instr) (n : ℕ) → scan instruction src 0 ≡ known i n → n ≤ 9
nine_bytes src i n e = rw e at (nine_read src)

-- nine are met: three prefixes, and ADD to memory with a displacement and an immediate of a word each
pub nine_met : scan instruction (λ j. get_or (0x26 ∷ 0x26 ∷ 0x26 ∷ 0x81 ∷ 0x80 ∷ []) j 0) 0 ≡ known (Calculates (Two Add true (Memory (Formed in_ds1 0 0)) (Immediate 0))) 9
unfolding scan instruction prefixed prefix_of after_prefix look_up with_immediate with_place small_immediate operation_at place in_memory address with_displacement displacement formed word ◌>>=◌
nine_met = refl
