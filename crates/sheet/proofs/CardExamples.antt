-- Worked examples of the 8080 mode's instructions, by computation. Figures in them are registers, flags and bytes as a uPD8080AF shows them.
use Prim.Native.Nat.{ℕ}
use mathlib.Core.Path.{◌≡◌, refl}
use mathlib.Core.Bool.{true, false}
use mathlib.Core.List.{List, [], ◌∷◌}
use lib.Count.{ones}
use lib.ListN.{replicate, set}
use Rattle.sheet.specs.declared.Bus.{Bus}
use Rattle.sheet.specs.declared.Place.TheVariants.{Register}
use Rattle.sheet.specs.declared.Source.TheVariants.{Held, Immediate}
use Rattle.sheet.specs.declared.Operation.TheVariants.{Addc, Subc, And, Sub, Xor, Cmp}
use Rattle.sheet.specs.declared.Shift.TheVariants.{Rolc, Rorc}
use Rattle.sheet.specs.declared.cards.CardPoint.TheVariants.{Ldax}
use Rattle.sheet.specs.declared.cards.CardArithmetic.TheVariants.{Two, Inr, Dcr, Dcx, Dad, Rotate, Daa}
use Rattle.sheet.specs.declared.cards.CardBranch.TheVariants.{CallIf, Ret, Rst}
use Rattle.sheet.specs.declared.cards.CardStack.TheVariants.{Push, PushPsw, PopPsw, Xthl}
use Rattle.sheet.specs.Width.{wrap_of, sign_of, even_of}
use Rattle.sheet.specs.Psw.{settled}
use Rattle.sheet.specs.Registers.{CW, DW, AL, read_reg, reg_word}
use Rattle.sheet.specs.Memory.{byte_at, read_mem, write_mem, bus_cycles, lost, lost_bytes}
use Rattle.sheet.specs.Act as act
use Rattle.sheet.specs.Act.{Act}
use Rattle.sheet.specs.World.{World, world, state_of, marks_of, progress_of}
use Rattle.sheet.specs.Handler.{run_by, run, nothing, tally}
use Rattle.sheet.specs.Contract.{exec, ends}
use Rattle.sheet.specs.Operand.{form_at, index_of, form_offset, offset_of, base_of, reg_value, set_reg, locate, fetch, deposit, value_at, source_value}
use Rattle.sheet.specs.Arithmetic.{resulting, sum, difference, logical, sparing_cy, finish, conclude}
use Rattle.sheet.specs.Shift.{comes_in, to_left, to_right, one_place, rotated, carry_in}
use Rattle.sheet.specs.Adjust.{plain, low_adjusted, high_adjusted, adjusted, packed_result}
use Rattle.sheet.specs.Branch.{asked, condition}
use Rattle.sheet.specs.CardPlaces.{CH, BL, M, condition_at}
use Rattle.sheet.specs.CardPoint.{ldax, point}
use Rattle.sheet.specs.CardArithmetic.{sparing_v, with_ac, card_sum, card_difference, masked, bitwise, increased, decreased, daa_result, card_operate, card_two, changing, counting, dad, rotate, daa, card_calculate}
use Rattle.sheet.specs.CardStack.{card_push, card_pop, push_pair, push_al_psw, pop_al_psw, xthl, card_stack}
use Rattle.sheet.specs.CardBranch.{card_call, card_ret, provided, card_branch}

-- SP, SS and the other registers hold what no example may touch; DS0 is 1
abbrev file : (aw cw dw bw bp pc psw : ℕ) → List ℕ
file aw cw dw bw bp pc psw = aw ∷ cw ∷ dw ∷ bw ∷ 0x100 ∷ bp ∷ 3 ∷ 4 ∷ 5 ∷ 6 ∷ 0x20 ∷ 1 ∷ pc ∷ psw ∷ []

-- 32 bytes, of which those at DS0:0006 and DS0:0007 are given
abbrev bytes : ℕ → ℕ → List ℕ
bytes a b = set (set (replicate 32 0) 22 a) 23 b

abbrev at : List ℕ → List ℕ → World
at f ram = world (state_of f (marks_of false false true) (progress_of 0 0 0)) ram [] [] []

abbrev cycles : ℕ → Bus
cycles n = record { cycles = n; dropped = 0 }

abbrev Makes : Act Unit → List ℕ → List ℕ → Type 0
Makes p f f' = exec p (at f (bytes 0 0)) ≡ ends tt (at f' (bytes 0 0)) nothing

-- AW and PSW; B is 5, L is 2
abbrev alone : ℕ → ℕ → List ℕ
alone aw psw = file aw 0x0500 0 0x0702 0 0 psw

pub record CardExamples : Type 0 where
  -- 9B is adjusted to 01 with CY and AC; a low digit up to 9 leaves AC 0, though AC was 1; AH stays
  pub daa_carries : Makes (card_calculate Daa) (alone 0x129b 0x7002) (alone 0x1201 0x7013)
  pub daa_half : Makes (card_calculate Daa) (alone 0x0012 0x7012) (alone 0x0018 0x7006)
  -- 3E less itself borrows nothing: AC is 1
  pub sub_self : Makes (card_calculate (Two Sub (Held (Register AL)))) (alone 0x3e 0x7002) (alone 0 0x7056)
  pub sub_borrows : Makes (card_calculate (Two Sub (Held (Register CH)))) (alone 2 0x7002) (alone 0xfd 0x7083)
  pub cmp_keeps : Makes (card_calculate (Two Cmp (Held (Register CH)))) (alone 2 0x7002) (alone 2 0x7083)
  pub adc_adds : Makes (card_calculate (Two Addc (Held (Register CH)))) (alone 0x3d 0x7003) (alone 0x43 0x7012)
  pub sbb_takes : Makes (card_calculate (Two Subc (Held (Register BL)))) (alone 4 0x7003) (alone 1 0x7012)
  -- bit 3 of one operand is enough for AC; CY is cleared
  pub ani_half : Makes (card_calculate (Two And (Immediate 0))) (alone 8 0x7003) (alone 0 0x7056)
  pub ani_low : Makes (card_calculate (Two And (Immediate 7))) (alone 7 0x7013) (alone 7 0x7002)
  pub xra_clears : Makes (card_calculate (Two Xor (Held (Register AL)))) (alone 0xff 0x7013) (alone 0 0x7046)
  -- V and CY stay
  pub inr_keeps : Makes (card_calculate (Inr (Register AL))) (alone 0xff 0x7803) (alone 0 0x7857)
  pub inr_spares_v : Makes (card_calculate (Inr (Register AL))) (alone 0x7f 0x7002) (alone 0x80 0x7092)
  -- CY alone, whatever the sum is
  pub dad_clears : Makes (card_calculate (Dad CW)) (file 0 0x339f 0 0xa17b 0 0 0x70d7) (file 0 0x339f 0 0xd51a 0 0 0x70d6)
  pub dad_carries : Makes (card_calculate (Dad DW)) (file 0 0 1 0xffff 0 0 0x7002) (file 0 0 1 0 0 0 0x7003)
  -- no flag, and 0 is followed by FFFF
  pub dcx_wraps : Makes (card_calculate (Dcx DW)) (file 0 0 0 0 0 0 0x70d7) (file 0 0 0xffff 0 0 0 0x70d7)
  pub ral : Makes (card_calculate (Rotate Rolc)) (alone 0xb5 0x7002) (alone 0x6a 0x7003)
  pub rar : Makes (card_calculate (Rotate Rorc)) (alone 0x6a 0x7003) (alone 0xb5 0x7002)
  -- M is at DS0:BW, read and then written
  pub dcr_memory : exec (card_calculate (Dcr M)) (at (file 0 0 0 6 0 0 0x7003) (bytes 0x40 0)) ≡ ends tt (at (file 0 0 0 6 0 0 0x7007) (bytes 0x3f 0)) (cycles 2)
  pub ldax_at_ds0 : exec (point (Ldax DW)) (at (file 0x1234 0 7 0 0 0 0x7002) (bytes 0 0x99)) ≡ ends tt (at (file 0x1299 0 7 0 0 0 0x7002) (bytes 0 0x99)) (cycles 1)
  -- the stack is at DS0:BP, and SP stays
  pub push_at_bp : exec (card_stack (Push CW)) (at (file 0 0x8f9d 0 0 8 0 0x7002) (bytes 0 0)) ≡ ends tt (at (file 0 0x8f9d 0 0 6 0 0x7002) (bytes 0x9d 0x8f)) (cycles 1)
  -- below offset 0 comes FFFF; a byte outside the 32 is dropped, and a word at an odd offset takes two cycles
  pub push_wraps : exec (card_stack (Push CW)) (at (file 0 0x8f9d 0 0 1 0 0x7002) (bytes 0 0)) ≡ ends tt (at (file 0 0x8f9d 0 0 0xffff 0 0x7002) (set (bytes 0 0) 16 0x8f)) (record { cycles = 2; dropped = 1 })
  -- IE, in the upper byte, is neither stored nor taken back; bits 1, 3 and 5 are fixed
  pub push_psw : exec (card_stack PushPsw) (at (file 0x121f 0 0 0 8 0 0x72d7) (bytes 0 0)) ≡ ends tt (at (file 0x121f 0 0 0 6 0 0x72d7) (bytes 0xd7 0x1f)) (cycles 1)
  pub pop_psw : exec (card_stack PopPsw) (at (file 0x121f 0 0 0 6 0 0x72d6) (bytes 0x29 0x44)) ≡ ends tt (at (file 0x1244 0 0 0 8 0 0x7203) (bytes 0x29 0x44)) (cycles 1)
  pub xthl_swaps : exec (card_stack Xthl) (at (file 0 0 0 0x0b3c 6 0 0x7002) (bytes 0xf0 0x0d)) ≡ ends tt (at (file 0 0 0 0x0df0 6 0 0x7002) (bytes 0x3c 0x0b)) (cycles 2)
  pub xthl_odd : exec (card_stack Xthl) (at (file 0 0 0 0x0b3c 7 0 0x7002) (bytes 0 0x0d)) ≡ ends tt (at (file 0 0 0 0x000d 7 0 0x7002) (set (bytes 0 0x3c) 24 0x0b)) (cycles 4)
  pub ret : exec (card_branch Ret) (at (file 0 0 0 0 6 0x18 0x7002) (bytes 0x03 0x2c)) ≡ ends tt (at (file 0 0 0 0 8 0x2c03 0x7002) (bytes 0x03 0x2c)) (cycles 1)
  pub rst_3 : exec (card_branch (Rst 3)) (at (file 0 0 0 0 8 0x2c03 0x7002) (bytes 0 0)) ≡ ends tt (at (file 0 0 0 0 6 0x18 0x7002) (bytes 0x03 0x2c)) (cycles 1)
  -- CZ and CNZ with Z = 0
  pub call_not_taken : exec (card_branch (CallIf (condition_at 1) 0x4000)) (at (file 0 0 0 0 8 0x2c03 0x7002) (bytes 0 0)) ≡ ends tt (at (file 0 0 0 0 8 0x2c03 0x7002) (bytes 0 0)) nothing
  pub call_taken : exec (card_branch (CallIf (condition_at 0) 0x4000)) (at (file 0 0 0 0 8 0x2c03 0x7002) (bytes 0 0)) ≡ ends tt (at (file 0 0 0 0 6 0x4000 0x7002) (bytes 0x03 0x2c)) (cycles 1)

pub card_examples : CardExamples
unfolding ones exec run run_by tally act.◌>>=◌ settled wrap_of sign_of even_of read_reg reg_word byte_at read_mem write_mem bus_cycles lost lost_bytes form_at index_of form_offset offset_of base_of reg_value set_reg locate fetch deposit value_at source_value resulting sum difference logical sparing_cy finish conclude comes_in to_left to_right one_place rotated carry_in plain low_adjusted high_adjusted adjusted packed_result asked condition condition_at ldax point sparing_v with_ac card_sum card_difference masked bitwise increased decreased daa_result card_operate card_two changing counting dad rotate daa card_calculate card_push card_pop push_pair push_al_psw pop_al_psw xthl card_stack card_call card_ret provided card_branch
card_examples =
    record {
      daa_carries = refl;
      daa_half = refl;
      sub_self = refl;
      sub_borrows = refl;
      cmp_keeps = refl;
      adc_adds = refl;
      sbb_takes = refl;
      ani_half = refl;
      ani_low = refl;
      xra_clears = refl;
      inr_keeps = refl;
      inr_spares_v = refl;
      dad_clears = refl;
      dad_carries = refl;
      dcx_wraps = refl;
      ral = refl;
      rar = refl;
      dcr_memory = refl;
      ldax_at_ds0 = refl;
      push_at_bp = refl;
      push_wraps = refl;
      push_psw = refl;
      pop_psw = refl;
      xthl_swaps = refl;
      xthl_odd = refl;
      ret = refl;
      rst_3 = refl;
      call_not_taken = refl;
      call_taken = refl;
    }
