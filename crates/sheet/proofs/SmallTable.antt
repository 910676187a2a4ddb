-- Document 01's small table: twelve examples, one theorem, by computation on the definitions.
use Prim.Native.Nat.{ℕ, ◌+◌, ◌*◌}
use mathlib.Core.Path.{◌≡◌, refl}
use mathlib.Core.Bool.{true, false}
use mathlib.Core.List.{List, [], ◌∷◌, ◌++◌}
use lib.ListN.{replicate}
use lib.Count.{ones}
use Rattle.sheet.specs.Width.{wrap_of, sign_of, even_of, extend, signed_of, bits32}
use Rattle.sheet.specs.Psw.{settled, in_mode}
use Rattle.sheet.specs.Registers.{read_reg, reg_word}
use Rattle.sheet.specs.Memory.{physical, byte_at, read_mem, write_mem, bus_cycles, lost, lost_bytes}
use Rattle.sheet.specs.Log.{groups_of}
use Rattle.sheet.specs.Act as act
use Rattle.sheet.specs.Act.{loop}
use Rattle.sheet.specs.World.{World, world, marks_of, crossed}
use Rattle.sheet.specs.Handler.{run_by, tally}
use Rattle.sheet.specs.Operand.{form_at, reg_value, set_reg, locate, fetch, deposit, value_at, source_value, amount_of}
use Rattle.sheet.specs.Traps.{push, push_psw, push_ps_pc, jump_far, save, vectored, entered, trap, untrapped}
use Rattle.sheet.specs.Arithmetic.{resulting, sum, finish, operate, conclude, two, calculate}
use Rattle.sheet.specs.Multiply.{stands, bits_of, quoted, signed_quotient, dividend, set_quotient, divided, div, multiply}
use Rattle.sheet.specs.Shift.{comes_in, to_left, one_place, many_places, shifted, turned, shift_many, carry_in, shift_by, shift}
use Rattle.sheet.specs.Adjust.{plain, low_adjusted, high_adjusted, adjusted, packed_result, adj4}
use Rattle.sheet.specs.Decimal.{digits, link, chained, string, decimal}
use Rattle.sheet.specs.Fields.{replaced, length_of, advance, insert_into, first_part, second_part, ins, field}
use Rattle.sheet.specs.Transfer.{mov_in}
use Rattle.sheet.specs.Stack.{push_register, push_place, stack, pop_in}
use Rattle.sheet.specs.Convert.{convert}
use Rattle.sheet.specs.Execute.{computing, moving, operation, execute}
use Rattle.sheet.specs.Reading as reading
use Rattle.sheet.specs.Reading.{scan, word, immediate, allow}
use Rattle.sheet.specs.Encoding.{prefix_of, formed, address, in_memory, place, look_up}
use Rattle.sheet.specs.SecondByte.{field_given}
use Rattle.sheet.specs.FirstByte.{with_acc, with_place, with_shift, shift_group, group_f6, after_prefix, prefixed, instruction}
use Rattle.sheet.specs.Step.{fits, sound, single_step, loads_segment, moves_in, stepping, starting, decoded, awake, step_by, step, step_report, instruction_in}
use Rattle.sheet.specs.Contract.{report}

-- AW CW DW BW SP BP IX IY DS1 PS SS DS0 PC PSW, a count of steps, and RAM; no ROM, tape or log
abbrev machine : List ℕ → ℕ → List ℕ → World
machine file count ram = world (record { file = file; marks = marks_of false false false; progress = record { tape = 0; log = 0; count = count } }) ram [] [] []

-- a step is accepted and leaves this, with so many bus cycles
abbrev Leaves : World → World → ℕ → Type 0
Leaves w v n = step_report w ≡ report 0 v (record { cycles = n; dropped = 0 })

pub record SmallTable : Type 0 where
  -- ADJ4A of FBh, AC 0, CY 0: 61h, CY 1, AC 1, P 0
  pub adj4a : Leaves
      (machine (0xfb ∷ 0 ∷ 0 ∷ 0 ∷ 0 ∷ 0 ∷ 0 ∷ 0 ∷ 0 ∷ 0 ∷ 0 ∷ 0 ∷ 0 ∷ 0xf002 ∷ []) 0 (0x27 ∷ []))
      (machine (0x61 ∷ 0 ∷ 0 ∷ 0 ∷ 0 ∷ 0 ∷ 0 ∷ 0 ∷ 0 ∷ 0 ∷ 0 ∷ 0 ∷ 1 ∷ 0xf013 ∷ []) 1 (0x27 ∷ []))
      0
  -- SUB4S of 28h from 06h, CL 2: 78h, CY 1, Z 0
  pub sub4s : Leaves
      (machine (0 ∷ 2 ∷ 0 ∷ 0 ∷ 0 ∷ 0 ∷ 2 ∷ 3 ∷ 0 ∷ 0 ∷ 0 ∷ 0 ∷ 0 ∷ 0xf042 ∷ []) 0 (0x0f ∷ 0x22 ∷ 0x28 ∷ 0x06 ∷ []))
      (machine (0 ∷ 2 ∷ 0 ∷ 0 ∷ 0 ∷ 0 ∷ 2 ∷ 3 ∷ 0 ∷ 0 ∷ 0 ∷ 0 ∷ 2 ∷ 0xf003 ∷ []) 1 (0x0f ∷ 0x22 ∷ 0x28 ∷ 0x78 ∷ []))
      3
  -- DIV CW of FFFF8000h by 1: trap 0, whose vector is 1234:5678; no other register changes
  pub least_traps : Leaves
      (machine (0x8000 ∷ 1 ∷ 0xffff ∷ 0 ∷ 12 ∷ 0 ∷ 0 ∷ 0 ∷ 0 ∷ 0 ∷ 0 ∷ 0 ∷ 4 ∷ 0xf202 ∷ []) 0 (0x78 ∷ 0x56 ∷ 0x34 ∷ 0x12 ∷ 0xf7 ∷ 0xf9 ∷ replicate 6 0))
      (machine (0x8000 ∷ 1 ∷ 0xffff ∷ 0 ∷ 6 ∷ 0 ∷ 0 ∷ 0 ∷ 0 ∷ 0x1234 ∷ 0 ∷ 0 ∷ 0x5678 ∷ 0xf002 ∷ []) 1
      (0x78 ∷ 0x56 ∷ 0x34 ∷ 0x12 ∷ 0xf7 ∷ 0xf9 ∷ 6 ∷ 0 ∷ 0 ∷ 0 ∷ 0x02 ∷ 0xf2 ∷ []))
      5
  -- DIV CW of FFFF8001h by 1: AW 8001h, DW 0
  pub least_stands : Leaves
      (machine (0x8001 ∷ 1 ∷ 0xffff ∷ 0 ∷ 0 ∷ 0 ∷ 0 ∷ 0 ∷ 0 ∷ 0 ∷ 0 ∷ 0 ∷ 0 ∷ 0xf002 ∷ []) 0 (0xf7 ∷ 0xf9 ∷ []))
      (machine (0x8001 ∷ 1 ∷ 0 ∷ 0 ∷ 0 ∷ 0 ∷ 0 ∷ 0 ∷ 0 ∷ 0 ∷ 0 ∷ 0 ∷ 2 ∷ 0xf002 ∷ []) 1 (0xf7 ∷ 0xf9 ∷ []))
      0
  -- DIV CW of FFFFFFF9h by 2: AW FFFDh, DW FFFFh
  pub toward_zero : Leaves
      (machine (0xfff9 ∷ 2 ∷ 0xffff ∷ 0 ∷ 0 ∷ 0 ∷ 0 ∷ 0 ∷ 0 ∷ 0 ∷ 0 ∷ 0 ∷ 0 ∷ 0xf002 ∷ []) 0 (0xf7 ∷ 0xf9 ∷ []))
      (machine (0xfffd ∷ 2 ∷ 0xffff ∷ 0 ∷ 0 ∷ 0 ∷ 0 ∷ 0 ∷ 0 ∷ 0 ∷ 0 ∷ 0 ∷ 2 ∷ 0xf002 ∷ []) 1 (0xf7 ∷ 0xf9 ∷ []))
      0
  -- SHL AL,CL with AL 01h, CL 33: AL 0, CY 0, Z 1
  pub whole_count : Leaves
      (machine (1 ∷ 33 ∷ 0 ∷ 0 ∷ 0 ∷ 0 ∷ 0 ∷ 0 ∷ 0 ∷ 0 ∷ 0 ∷ 0 ∷ 0 ∷ 0xf003 ∷ []) 0 (0xd2 ∷ 0xe0 ∷ []))
      (machine (0 ∷ 33 ∷ 0 ∷ 0 ∷ 0 ∷ 0 ∷ 0 ∷ 0 ∷ 0 ∷ 0 ∷ 0 ∷ 0 ∷ 2 ∷ 0xf046 ∷ []) 1 (0xd2 ∷ 0xe0 ∷ []))
      0
  -- PUSH SP with SP 0: word FFFEh at SS:FFFE, which with SS F001h is address 0000Eh
  pub push_sp : Leaves
      (machine (0 ∷ 0 ∷ 0 ∷ 0 ∷ 0 ∷ 0 ∷ 0 ∷ 0 ∷ 0 ∷ 0 ∷ 0xf001 ∷ 0 ∷ 0 ∷ 0xf002 ∷ []) 0 (0x54 ∷ replicate 15 0))
      (machine (0 ∷ 0 ∷ 0 ∷ 0 ∷ 0xfffe ∷ 0 ∷ 0 ∷ 0 ∷ 0 ∷ 0 ∷ 0xf001 ∷ 0 ∷ 1 ∷ 0xf002 ∷ []) 1 (0x54 ∷ replicate 13 0 ++ (0xfe ∷ 0xff ∷ [])))
      1
  -- ADD AL,01h with AL 7Fh: 80h, V 1, S 1, AC 1, CY 0, Z 0, P 0
  pub add : Leaves
      (machine (0x7f ∷ 0 ∷ 0 ∷ 0 ∷ 0 ∷ 0 ∷ 0 ∷ 0 ∷ 0 ∷ 0 ∷ 0 ∷ 0 ∷ 0 ∷ 0xf047 ∷ []) 0 (0x04 ∷ 0x01 ∷ []))
      (machine (0x80 ∷ 0 ∷ 0 ∷ 0 ∷ 0 ∷ 0 ∷ 0 ∷ 0 ∷ 0 ∷ 0 ∷ 0 ∷ 0 ∷ 2 ∷ 0xf892 ∷ []) 1 (0x04 ∷ 0x01 ∷ []))
      0
  -- a word at 1000:FFFF: bytes 1FFFFh and 10000h, 2 cycles
  pub word_wraps : (ram rom : List ℕ) → read_mem true ram rom 0x1000 0xffff ≡ byte_at ram rom 0x1ffff + 256 * byte_at ram rom 0x10000
  pub word_cycles : bus_cycles true 0xffff ≡ 2
  -- FFFF:0010 is address 0
  pub top_wraps : physical 0xffff 0x0010 ≡ 0
  -- INS CL,3 with CL 14, AW 000Dh, two zero words at an even IY: words 4000h, 0003h; offset 2, IY + 2, 4 cycles
  pub ins : Leaves
      (machine (0x0d ∷ 14 ∷ 0 ∷ 0 ∷ 0 ∷ 0 ∷ 0 ∷ 4 ∷ 0 ∷ 0 ∷ 0 ∷ 0 ∷ 0 ∷ 0xf002 ∷ []) 0 (0x0f ∷ 0x39 ∷ 0xc1 ∷ 0x03 ∷ 0 ∷ 0 ∷ 0 ∷ 0 ∷ []))
      (machine (0x0d ∷ 2 ∷ 0 ∷ 0 ∷ 0 ∷ 0 ∷ 0 ∷ 6 ∷ 0 ∷ 0 ∷ 0 ∷ 0 ∷ 4 ∷ 0xf002 ∷ []) 1 (0x0f ∷ 0x39 ∷ 0xc1 ∷ 0x03 ∷ 0x00 ∷ 0x40 ∷ 0x03 ∷ 0x00 ∷ []))
      4
  -- the number 300 is AC 02
  pub number : groups_of 3 300 ≡ 0xac ∷ 0x02 ∷ []

pub small_table : SmallTable
unfolding ones wrap_of sign_of even_of extend signed_of bits32 settled read_reg reg_word byte_at read_mem write_mem bus_cycles lost lost_bytes groups_of act.◌>>=◌ loop run_by tally form_at reg_value set_reg locate fetch deposit value_at source_value amount_of push push_psw push_ps_pc jump_far save vectored entered crossed in_mode trap untrapped resulting sum finish operate conclude two stands bits_of quoted signed_quotient dividend set_quotient divided div comes_in to_left one_place many_places shifted turned shift_many carry_in shift_by shift low_adjusted high_adjusted adjusted plain digits packed_result adj4 link chained string replaced length_of advance insert_into first_part second_part Rattle.sheet.specs.Fields.ins push_register push_place stack calculate multiply convert decimal field computing moving operation execute reading.◌>>=◌ scan word immediate allow prefix_of formed address in_memory place look_up field_given with_acc with_place with_shift shift_group group_f6 after_prefix prefixed instruction instruction_in fits sound single_step loads_segment moves_in mov_in pop_in stepping starting decoded awake step_by step step_report
small_table = record {
  adj4a = refl;
  sub4s = refl;
  least_traps = refl;
  least_stands = refl;
  toward_zero = refl;
  whole_count = refl;
  push_sp = refl;
  add = refl;
  word_wraps = λ ram rom. refl;
  word_cycles = refl;
  top_wraps = refl;
  ins = refl;
  number = refl;
}
