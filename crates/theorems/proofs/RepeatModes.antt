-- Demand 3 with a service that runs 8080 code: RepeatExample's move, whose handler makes BRKEM, STC, RETEM and RETI. All of it is computed.
use Prim.Native.Nat.{ℕ, zero, suc}
use mathlib.Core.Path.{◌≡◌, refl, ap, subst, ◌∙◌}
use mathlib.Core.Bool.{Bool, true, false}
use mathlib.Core.List.{List, [], ◌∷◌, ◌++◌}
use native.Mathlib.Omega.{arith}
use lib.Dec.{lit≤, lit<}
use lib.ListN.{replicate, get_or}
use Rattle.sheet.specs.declared.Primitive.TheVariants.{Movbk}
use Rattle.sheet.specs.declared.Repeat.TheVariants.{WhileZ}
use Rattle.sheet.specs.declared.Instr.TheVariants.{Blocks}
use Rattle.sheet.specs.Registers.{CW, PC, in_ps}
use Rattle.sheet.specs.Memory.{byte_at}
use Rattle.sheet.specs.World.{World, world, state_of, marks_of, progress_of}
use Rattle.sheet.specs.Handler.{done, happened}
use Rattle.sheet.specs.SecondByte.{break_for_emulation}
use Rattle.sheet.specs.CardCodes.{on_al_or_cy, cards00, after_ed, push_or_call, cards11, card_of, card, card_instruction}
use Rattle.sheet.specs.Mode.{retem, brkem, card_modes}
use Rattle.sheet.specs.Block.{stepped_of}
use Rattle.sheet.specs.Execute.{carding}
use Rattle.sheet.specs.Reading.{known}
use Rattle.sheet.specs.Step.{step, interrupt, instruction_in}
use Rattle.theorems.specs.Repeat.{elements, first_or, single, singles, reg, walk, low, Kept, own_byte, source_byte, target_byte, NeverOnItself, stepped, no_call, and_then_lem, Gap, quiet, service, begun, next_own, Taken}
use Rattle.theorems.specs.RepeatEngines.{accesses, accepts, definition}
use Rattle.theorems.proofs.Repeat.{definition_demand3}
use Rattle.theorems.proofs.RepeatFile.{placed_reads}
use Rattle.theorems.proofs.RepeatSingles.{singles_keep}
use Rattle.theorems.proofs.RepeatExample.{move3, words, opened, own_low}

-- ---- the machine

-- vectors 8 and 9 at 32, the stack from 52 to 63, the instruction at 64, the 8080 code 37 ED FD at 67, the handler 0F FF 09 CF at 72, the blocks
abbrev memory : (lower upper target : List ℕ) → List ℕ
memory lower upper target =
    replicate 32 0
    ++ (72 ∷ 0 ∷ 0 ∷ 0 ∷ 67 ∷ 0 ∷ 0 ∷ 0 ∷ replicate 12 0)
    ++ lower
    ++ upper
    ++ (0xf3 ∷ 0x2e ∷ 0xa4 ∷ 0x37 ∷ 0xed ∷ 0xfd ∷ 0 ∷ 0 ∷ 0x0f ∷ 0xff ∷ 9 ∷ 0xcf ∷ 0 ∷ 0 ∷ 0 ∷ 0 ∷ 1 ∷ 2 ∷ 3 ∷ 0 ∷ [])
    ++ target

-- with and without the permission, after so many steps
abbrev stand : Bool → ℕ → List ℕ → List ℕ → World
stand writable count file ram = world (state_of file (marks_of false false writable) (progress_of 0 0 count)) ram [] [] []

abbrev untouched : List ℕ
untouched = replicate 6 0

-- what the interrupt pushes, and what BRKEM does
abbrev by_interrupt : List ℕ
by_interrupt = 64 ∷ 0 ∷ 0 ∷ 0 ∷ 0x02 ∷ 0xf2 ∷ []

abbrev by_brkem : List ℕ
by_brkem = 75 ∷ 0 ∷ 0 ∷ 0 ∷ 0x02 ∷ 0xf0 ∷ []

abbrev one_moved : List ℕ
one_moved = 1 ∷ 0 ∷ 0 ∷ []

abbrev start : World
start = stand false 0 (words 3 64 80 84 64 0xf202) (memory untouched untouched (0 ∷ 0 ∷ 0 ∷ []))

abbrev after_one : World
after_one = stand false 1 (words 2 64 81 85 64 0xf202) (memory untouched untouched one_moved)

abbrev in_handler : World
in_handler = stand false 1 (words 2 58 81 85 72 0xf002) (memory untouched by_interrupt one_moved)

-- MD is 0, and the permission stands
abbrev in_cards : World
in_cards = stand true 2 (words 2 52 81 85 67 0x7002) (memory by_brkem by_interrupt one_moved)

abbrev with_carry : World
with_carry = stand true 3 (words 2 52 81 85 68 0x7003) (memory by_brkem by_interrupt one_moved)

abbrev native_again : World
native_again = stand false 4 (words 2 58 81 85 75 0xf002) (memory by_brkem by_interrupt one_moved)

abbrev back : World
back = stand false 5 (words 2 64 81 85 64 0xf202) (memory by_brkem by_interrupt one_moved)

-- ---- its calls

first : step start ≡ done tt after_one (happened (step start))
unfolding opened
first = refl

call : interrupt 8 true after_one ≡ done tt in_handler (happened (interrupt 8 true after_one))
unfolding opened
call = refl

breaks : step in_handler ≡ done tt in_cards (happened (step in_handler))
unfolding opened break_for_emulation brkem
breaks = refl

carries : step in_cards ≡ done tt with_carry (happened (step in_cards))
unfolding opened card_instruction card card_of cards00 on_al_or_cy carding
carries = refl

leaves : step with_carry ≡ done tt native_again (happened (step with_carry))
unfolding opened card_instruction card card_of cards11 push_or_call after_ed carding card_modes retem
leaves = refl

returns : step native_again ≡ done tt back (happened (step native_again))
unfolding opened
returns = refl

-- ---- what the service puts back

three_elements : elements move3 start ≡ 3
unfolding opened elements first_or singles single
three_elements = refl

abbrev Mine : ℕ → Type 0
Mine = Kept move3 start 3

mine : (a : ℕ) → Kept move3 start (elements move3 start) a → Mine a
mine a k = rw three_elements at k

same_bytes : (a : ℕ) → Mine a → byte_at back.ram [] a ≡ byte_at after_one.ram [] a
unfolding byte_at walk stepped_of
same_bytes a (own_byte zero h e) = rw e
same_bytes a (own_byte (suc zero) h e) = rw e
same_bytes a (own_byte (suc (suc zero)) h e) = rw e
same_bytes a (own_byte (suc (suc (suc j))) h e) = absurd (omega arith)
same_bytes a (source_byte zero h t (low e)) = rw e
same_bytes a (source_byte (suc zero) h t (low e)) = rw e
same_bytes a (source_byte (suc (suc zero)) h t (low e)) = rw e
same_bytes a (source_byte (suc (suc (suc j))) h t (low e)) = absurd (omega arith)
same_bytes a (target_byte zero h t (low e)) = rw e
same_bytes a (target_byte (suc zero) h t (low e)) = rw e
same_bytes a (target_byte (suc (suc zero)) h t (low e)) = rw e
same_bytes a (target_byte (suc (suc (suc j))) h t (low e)) = absurd (omega arith)

served : Gap definition Mine after_one back
served =
    service
    (record {
      vector = 8;
      maskable = true;
      entry = in_handler;
      shown = accesses (happened (interrupt 8 true after_one));
      in_range = lit< tt;
      taken = accepts call;
      served = and_then_lem (and_then_lem (and_then_lem (and_then_lem no_call (stepped _ (accepts breaks))) (stepped _ (accepts carries))) (stepped _ (accepts leaves))) (stepped _ (accepts returns));
      up_again = refl;
    })
    (record { registers = refl; kept = same_bytes })

-- ---- so says demand 3

apart : NeverOnItself move3 start
unfolding walk stepped_of
apart zero c a h t (low e) r l o = omega (arith, own_low a c l o)
apart (suc zero) c a h t (low e) r l o = omega (arith, own_low a c l o)
apart (suc (suc zero)) c a h t (low e) r l o = omega (arith, own_low a c l o)
apart (suc (suc (suc j))) c a h t (low e) r l o = omega arith

reads : instruction_in start ≡ known (Blocks Movbk false in_ps WhileZ) 3
unfolding opened
reads = refl

taken : Taken definition move3 start
taken = record { read = reads; blocks = refl; repeated = refl; accepted = (_, _, accepts first); untraced = refl; clean = apart; whole = refl; sixteen = lit< tt }

moved_byte : byte_at (singles move3 start 2).ram (singles move3 start 2).rom 85 ≡ 2
unfolding opened singles single
moved_byte = refl

-- whatever the second own step answers, it is accepted; PC is on the first prefix again, CW is 1, and two bytes have moved
pub second_after_cards : (n : ℕ) (v : World) (o : definition.Shown) → definition.Step back n v o → (n ≡ 0) × (reg v PC ≡ 64) × (reg v CW ≡ 1) × (byte_at v.ram v.rom 85 ≡ 2)
unfolding walk stepped_of
second_after_cards n v o s =
    let k = definition_demand3 move3 start taken Mine mine in
    let one = next_own begun (quiet refl) (accepts first) in
    let z = k.goes_on 1 n _ o after_one back v (rw three_elements (lit≤ tt)) one served s in
    let a = k.on_the_way 2 _ v (rw three_elements (lit≤ tt)) (next_own one served (subst (λ n. definition.Step back n v o) z s)) in
    let r = placed_reads 1 64 (singles move3 start 2).state.file (singles_keep move3 start refl refl 2).long in (
      z,
      ap (λ f. get_or f PC 0) a.registers ∙ r.pc,
      ap (λ f. get_or f CW 0) a.registers ∙ r.cw,
      a.kept 85 (target_byte 1 (lit< tt) tt (low refl)) ∙ moved_byte,
    )
