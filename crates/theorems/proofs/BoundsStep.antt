-- No step makes more than 1,028 bus cycles and no interrupt call more than 8; and the numbers that a refusal can have.
use Prim.Native.Nat.{ℕ, ◌+◌, ◌≤◌}
use mathlib.Core.Path.{◌≡◌, refl, ◌∙◌}
use mathlib.Core.Bool.{Bool, true, false, not, ◌&&◌, true≢false}
use mathlib.Core.List.{List, ◌∷◌}
use native.Mathlib.Omega.{arith}
use lib.Dec.{eqb, lit≤}
use borrow.Author.Tests.{eqb-true, eqb-false}
use Rattle.sheet.specs.declared.Bus.{Bus}
use Rattle.sheet.specs.declared.Instr.{Instr}
use Rattle.sheet.specs.declared.Compute.{Compute}
use Rattle.sheet.specs.declared.Compute.TheVariants.{Calculates, Converts, Shifts, Bits, Decimals, Fields}
use Rattle.sheet.specs.declared.Move.{Move}
use Rattle.sheet.specs.declared.Move.TheVariants.{Transfers, Stacks, Branches, Tests}
use Rattle.sheet.specs.declared.Instr.TheVariants.{Computes, Moves, Multiplies, Interrupts, Blocks, Ports, Controls, Modes, Cards}
use Rattle.sheet.specs.Width.{pick}
use Rattle.sheet.specs.Psw.{IE, flag_of, native_of}
use Rattle.sheet.specs.Registers.{PS, PC, file_of}
use Rattle.sheet.specs.World.{World, psw_of}
use Rattle.sheet.specs.Handler.{Event, Outcome, done, kept, run, run_by, tally}
use Rattle.sheet.specs.Contract.{Seen, stops, ends, seen, exec}
use Rattle.sheet.specs.Reading.{Reading, Read, known, unknown}
use Rattle.sheet.specs.FirstByte.{instruction}
use Rattle.sheet.specs.CardCodes.{card_instruction}
use Rattle.sheet.specs.Execute.{computing, moving, operation, execute}
use Rattle.sheet.specs.Step.{fits, sound, checked, refusal, code_at, source, interrupting, single_step, starting, stepping, decoded, awake, step_by, step, interrupt_by, interrupt, instruction_in}
use Rattle.sheet.specs.Act.{Act, ◌>>=◌}
use Rattle.sheet.specs.Traps.{push, push_psw, push_ps_pc, jump_far, save, vectored, entered, trap}
use Rattle.theorems.specs.Repeat.{of_memory}
use Rattle.theorems.specs.Bounds.{Bytes, step_top, interrupt_top, step_refusals, interrupt_refusals, Among, first, later, Comes, ends_in, stops_by}
use Rattle.log_record.proofs.Picked.{picked}
use Rattle.step_answer.proofs.CheckLaws.{awake_known}
use Rattle.step_answer.proofs.RunLaws.{step_on}
use Rattle.theorems.proofs.Widths.{byte_top}
use Rattle.theorems.proofs.BoundsRules.{Within, within, cycles, short_of, traits, Bound, Most, seq, any, up, of_pure, of_registers, of_set, of_flag, of_halted}
use Rattle.theorems.proofs.BoundsOperands.{of_trap}
use Rattle.theorems.proofs.BoundsGroups.{of_transfer, of_calculate, of_untrapped, of_multiply, of_convert, of_shift, of_bits, of_decimal, of_field}
use Rattle.theorems.proofs.BoundsFlow.{level_of, level_top_lem, of_stack, of_branch, of_conditional, of_interrupts, stays_native, of_modes, of_block, of_ports, of_control}
use Rattle.theorems.proofs.BoundsCards.{portless_card, of_carding}
use Rattle.theorems.proofs.BoundsReading.{level_among, Fine, LeafTo, also_fourth, ScannedTo, read, unread, scanned}
use Rattle.theorems.proofs.BoundsCodes.{of_instruction}
use Rattle.theorems.proofs.CardsRead.{fine_named, of_card_instruction}

-- ---- an instruction

of_computing : (i : Compute) → Most Unit (computing i) 1020
unfolding computing
of_computing (Calculates i) = up (lit≤ tt) (of_calculate i)
of_computing (Converts i) = up (lit≤ tt) (of_convert i)
of_computing (Shifts k w to places) = up (lit≤ tt) (of_shift k w to places)
of_computing (Bits op w to number) = up (lit≤ tt) (of_bits op w to number)
of_computing (Decimals i) = up (lit≤ tt) (of_decimal i)
of_computing (Fields i) = up (lit≤ tt) (of_field i)

of_moving : (i : Move) → level_among i ≤ 255 → Most Unit (moving i) 1020
unfolding moving
of_moving (Transfers i) h = up (lit≤ tt) (of_transfer i)
of_moving (Stacks i) h = up (level_top_lem (level_of i)) (of_stack i h)
of_moving (Branches i) h = up (lit≤ tt) (of_branch i)
of_moving (Tests i) h = up (lit≤ tt) (of_conditional i)

-- it uses no port
abbrev pub portless : Instr → Bool
portless (Computes i) = true
portless (Moves i) = true
portless (Multiplies i) = true
portless (Interrupts i) = true
portless (Blocks k w seg q) = of_memory k
portless (Ports i) = false
portless (Controls i) = true
portless (Modes i) = true
portless (Cards i) = portless_card i

-- it is not BRKEM
abbrev pub native_after : Instr → Bool
native_after (Computes i) = true
native_after (Moves i) = true
native_after (Multiplies i) = true
native_after (Interrupts i) = true
native_after (Blocks k w seg q) = true
native_after (Ports i) = true
native_after (Controls i) = true
native_after (Modes i) = stays_native i
native_after (Cards i) = true

abbrev pub StepsIn : Instr → (A : Type 0) → Act A → ℕ → Type 0
StepsIn i A p n = Bound cycles (traits (portless i) (native_after i)) A p n

pub of_operation : (i : Instr) → Fine i → (start : ℕ) → StepsIn i Bool (operation i start) 1020
unfolding operation
of_operation (Computes i) h start = of_untrapped (of_computing i)
of_operation (Moves i) h start = of_untrapped (of_moving i h)
of_operation (Multiplies i) h start = up (lit≤ tt) (of_multiply i)
of_operation (Interrupts i) h start = up (lit≤ tt) (of_interrupts i)
of_operation (Blocks k w seg q) h start = up (lit≤ tt) (of_untrapped (of_block k w seg q start))
of_operation (Ports i) h start = up (lit≤ tt) (of_untrapped (of_ports i))
of_operation (Controls i) h start = up (lit≤ tt) (of_untrapped (of_control i))
of_operation (Modes i) h start = up (lit≤ tt) (of_untrapped (of_modes i))
of_operation (Cards i) h start = up (lit≤ tt) (of_untrapped (of_carding i))

of_execute : (i : Instr) → Fine i → (n : ℕ) → StepsIn i Bool (execute i n) 1020
unfolding execute
of_execute i h n = seq (any of_registers) λ r. seq (any of_set) λ _. of_operation i h _

pub of_interrupting : (v : ℕ) → Most Unit (interrupting v) interrupt_top
unfolding interrupting
of_interrupting v = seq (of_trap v) λ _. of_halted

pub of_single_step : (b : Bool) → Most Unit (single_step b) 8
unfolding single_step
of_single_step false = up (lit≤ tt) of_pure
of_single_step true = of_interrupting 1

pub of_stepping : (i : Instr) → Fine i → (n : ℕ) → StepsIn i Unit (stepping i n) step_top
unfolding stepping
of_stepping i h n = seq (any of_flag) λ traced. seq (of_execute i h n) λ trapped. any (of_single_step _)

-- ---- the bytes of the instruction

pub reads_fine : (w : World) → Bytes w.ram → Bytes w.rom → ScannedTo 4 Fine (instruction_in w)
unfolding instruction_in
reads_fine w h g =
    let md : Bool = native_of (psw_of w.state) in
    let leaves : LeafTo 4 Fine (pick md instruction card_instruction) =
    picked (λ (r : Reading Instr). LeafTo 4 Fine r) md of_instruction (also_fourth card_instruction (of_card_instruction λ c n. fine_named n)) in
    scanned (pick md instruction card_instruction) leaves (source w) (λ j. byte_top w.ram w.rom h g (code_at (file_of w.state.file PS) (file_of w.state.file PC) j)) 0

-- ---- the calls

-- a step that is to be made does the instruction that it finds
pub step_is : (w : World) (i : Instr) (n : ℕ) → (fits w ≡ true) × (sound w ≡ true) → w.state.marks.halted ≡ false → instruction_in w ≡ known i n → step w ≡ run (stepping i n) (starting i w)
unfolding step run
step_is w i n good up there = step_on w good ∙ awake_known w i n up there

one_of_two : (k n : ℕ) → n ≤ k → k ≤ n + 1 → (P : ℕ → Type 0) → P n → P (n + 1) → P k
one_of_two k n h g P x y = go (eqb k n) refl
  where
    go : (c : Bool) → eqb k n ≡ c → P k
    go true e = rw (eqb-true k n e) x
    go false e = let d = eqb-false k n e in let q : k ≡ n + 1 = omega arith in rw q y

as_read : (k : ℕ) → 3 ≤ k → k ≤ 4 → Among k step_refusals
as_read k h g = one_of_two k 3 h g (λ n. Among n step_refusals) (later (later (later first))) (later (later (later (later first))))

as_ported : (k : ℕ) → 5 ≤ k → k ≤ 6 → Among k step_refusals
as_ported k h g =
    one_of_two k 5 h g (λ n. Among n step_refusals) (later (later (later (later (later first))))) (later (later (later (later (later (later first))))))

within_step : (e : Seen Unit) → Within cycles step_top e → Comes step_top step_refusals e
within_step (ends tt w m) (within h) = ends_in h
within_step (stops k) (short_of f g) = stops_by (as_ported k f g)

-- the checks that every call makes first refuse by 1 and 2
checked_comes : {n : ℕ} {l : List ℕ} (w : World) (o : Outcome Unit) → Comes n (1 ∷ 2 ∷ l) (seen o) → Comes n (1 ∷ 2 ∷ l) (seen (checked w refusal o))
checked_comes {n} {l} w o h =
    picked (λ (r : Outcome Unit). Comes n (1 ∷ 2 ∷ l) (seen r)) (fits w) (picked (λ (r : Outcome Unit). Comes n (1 ∷ 2 ∷ l) (seen r)) (sound w) h (stops_by (later first))) (stops_by first)

-- every step, of any machine over memory of bytes
pub step_comes : (w : World) → Bytes w.ram → Bytes w.rom → Comes step_top step_refusals (seen (step w))
unfolding step step_by awake decoded exec run
step_comes w h g = checked_comes w (awake kept w) (go w.state.marks.halted (instruction_in w) (reads_fine w h g))
  where
    go : (t : Bool) (r : Read Instr) → ScannedTo 4 Fine r → Comes step_top step_refusals (seen (pick t (refusal 8) (decoded kept r w)))
    go false (known i n) (read q) = within_step _ ((of_stepping i q n).at (starting i w))
    go false (unknown k n) (unread a b) = stops_by (as_read k a b)
    go true r q = stops_by (later (later first))

-- ---- an interrupt call

-- a trap from outside is never refused
interrupting_ends : (v : ℕ) (w : World) → (x : World) × (m : Bus) × (exec (interrupting v) w ≡ ends tt x m)
unfolding interrupting trap vectored entered save push_psw push_ps_pc jump_far push ◌>>=◌ exec run run_by
interrupting_ends v w = (_, _, refl)

ends_most : (n : ℕ) (x : World) (m : Bus) → Within {A = Unit {0}} cycles n (ends tt x m) → m.cycles ≤ n
ends_most n x m (within h) = h

pub interrupt_comes : (v : ℕ) (maskable : Bool) (w : World) → Comes interrupt_top interrupt_refusals (seen (interrupt v maskable w))
unfolding interrupt interrupt_by exec run
interrupt_comes v maskable w = checked_comes w _ (go w.state.marks.loaded (maskable && not (flag_of (psw_of w.state) IE)) (interrupting_ends v w))
  where
    go : (l t : Bool) → (x : World) × (m : Bus) × (exec (interrupting v) w ≡ ends tt x m)
        → Comes interrupt_top interrupt_refusals (seen (pick l (refusal 13) (pick t (refusal 7) (run (interrupting v) w))))
    go false false q = rw q.2 (ends_in (ends_most 8 _ _ (rw q.2 at ((of_interrupting v).at w))))
    go false true q = stops_by (later (later (later first)))
    go true t q = stops_by (later (later first))

-- ---- in one line each

same_bus : {n : ℕ} {refusals : List ℕ} (e : Seen Unit) → Comes n refusals e → (v : World) (m : Bus) → e ≡ ends tt v m → m.cycles ≤ n
same_bus (ends tt w b) (ends_in h) v m q = let z : b ≡ m = cc in rw (← z) h
same_bus (stops k) (stops_by h) v m q = absurd (true≢false cc)

pub at_most_1028 : (w v : World) (t : List Event) → Bytes w.ram → Bytes w.rom → step w ≡ done tt v t → (tally t).cycles ≤ step_top
at_most_1028 w v t h g e = same_bus (seen (step w)) (step_comes w h g) v (tally t) (rw e)

pub at_most_8 : (vector : ℕ) (maskable : Bool) (w v : World) (t : List Event) → interrupt vector maskable w ≡ done tt v t → (tally t).cycles ≤ interrupt_top
at_most_8 vector maskable w v t e = same_bus (seen (interrupt vector maskable w)) (interrupt_comes vector maskable w) v (tally t) (rw e)
