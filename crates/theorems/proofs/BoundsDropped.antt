-- No step drops more than 518 bytes, PREPARE's 256 words and the three of the single-step trap, and no interrupt call more than 6.
use Prim.Native.Nat.{ℕ, zero, suc, ◌+◌, ◌*◌, ◌≤◌}
use mathlib.Core.Path.{◌≡◌}
use mathlib.Core.Bool.{Bool, true, false}
use mathlib.Core.List.{List}
use native.Mathlib.Nat.{le_refl, add-zero, mul-le-mul_right}
use native.Mathlib.Omega.{arith}
use lib.Dec.{lit≤}
use Rattle.sheet.specs.declared.Bus.{Bus}
use Rattle.sheet.specs.declared.Chain.{Chain}
use Rattle.sheet.specs.declared.Decimal.{Decimal}
use Rattle.sheet.specs.declared.Decimal.TheVariants.{Add4s, Sub4s, Cmp4s, Rol4, Ror4}
use Rattle.sheet.specs.declared.Stack.{Stack}
use Rattle.sheet.specs.declared.Stack.TheVariants.{Push, PushByte, PushWord, PushSegment, PushPsw, PushR, Pop, PopSegment, PopR, Prepare, Dispose}
use Rattle.sheet.specs.declared.Instr.{Instr}
use Rattle.sheet.specs.declared.Instr.TheVariants.{Computes, Moves, Multiplies, Interrupts, Blocks, Ports, Controls, Modes, Cards}
use Rattle.sheet.specs.declared.Compute.{Compute}
use Rattle.sheet.specs.declared.Compute.TheVariants.{Calculates, Converts, Shifts, Bits, Decimals, Fields}
use Rattle.sheet.specs.declared.Move.{Move}
use Rattle.sheet.specs.declared.Move.TheVariants.{Transfers, Stacks, Branches, Tests}
use Rattle.sheet.specs.Width.{bytes_of}
use Rattle.sheet.specs.Registers.{CL}
use Rattle.sheet.specs.Registers as registers
use Rattle.sheet.specs.Memory.{lost_bytes}
use Rattle.sheet.specs.World.{World}
use Rattle.sheet.specs.Act.{Act, ◌>>=◌, peek, poke}
use Rattle.sheet.specs.Handler.{Event, Outcome, refused, done, kept, run, run_by, tally}
use Rattle.sheet.specs.Contract.{ends, seen, exec}
use Rattle.sheet.specs.Operand.{reg_value}
use Rattle.sheet.specs.declared.Way.{Way}
use Rattle.sheet.specs.declared.Way.TheVariants.{Addition, Subtraction}
use Rattle.sheet.specs.declared.Storing.{Storing}
use Rattle.sheet.specs.declared.Storing.TheVariants.{Stored, NotStored}
use Rattle.sheet.specs.Decimal.{stores, link, chained, string, decimal}
use Rattle.sheet.specs.Traps.{push, push_psw, push_ps_pc, save, vectored, trap}
use Rattle.sheet.specs.Stack.{frame, frames, prepare, stack}
use Rattle.sheet.specs.Execute.{computing, moving, operation, execute}
use Rattle.sheet.specs.Reading.{known}
use Rattle.sheet.specs.Step.{interrupting, single_step, starting, stepping, step, interrupt}
use Rattle.sheet.proofs.Lifted.{lost_bytes_lem}
use Rattle.sheet.proofs.StepLaws.{begins, enters}
use Rattle.theorems.specs.Bounds.{Bytes, drop_top, interrupt_drop_top}
use Rattle.theorems.proofs.Dropped.{Honest, honest, two_a_cycle}
use Rattle.theorems.proofs.BoundsRules.{Within, within, short_of, cycles, dropped, Traits, Bound, Drops, loud, wild, seq, up, either_way, of_pure, of_get, of_registers, of_set, of_flag, of_psw, of_flags, of_halted, of_loop}
use Rattle.theorems.proofs.BoundsOperands.{of_jump_far, of_entered}
use Rattle.theorems.proofs.BoundsGroups.{of_transfer, of_calculate, of_untrapped, of_multiply, of_convert, of_shift, of_bits, of_rol4, of_ror4, half_of_cl, of_field}
use Rattle.theorems.proofs.BoundsFlow.{level_of, of_stack, of_branch, of_conditional, of_interrupts, of_modes, of_block, of_ports, of_control}
use Rattle.theorems.proofs.BoundsCards.{of_carding}
use Rattle.theorems.proofs.BoundsReading.{level_among, Fine, ScannedTo, read}
use Rattle.theorems.proofs.BoundsStep.{reads_fine}

-- ---- a tree of few cycles drops few bytes

twice : {s : Traits} {A : Type 0} {p : Act A} {n : ℕ} → Bound cycles s A p n → Drops A p (n * 2)
unfolding exec run
twice {A = A} {p = p} {n = n} m = record { at = λ w. go (run_by kept p w) (honest p kept w) (m.at w); quiet = loud; tame = wild }
  where
    go : (o : Outcome A) → Honest A o → Within cycles n (seen o) → Within dropped (n * 2) (seen o)
    go (refused k t) h (short_of f g) = short_of f g
    go (done a w t) h (within q) =
        let x = two_a_cycle t h.is in
        let z : (tally t).dropped ≤ n * 2 = omega arith in
        within z

small : {s : Traits} {A : Type 0} {p : Act A} {n : ℕ} → n ≤ 256 → Bound cycles s A p n → Drops A p 512
small h m = up (mul-le-mul_right 2 h) (twice m)

-- ---- nodes

of_peek : {b : Bool} {g o : ℕ} → Drops ℕ (peek b g o) 0
unfolding exec run run_by tally
of_peek = record { at = λ w. within (le_refl 0); quiet = loud; tame = wild }

of_poke : {b : Bool} {g o v : ℕ} → Drops Unit (poke b g o v) (bytes_of b)
unfolding exec run run_by tally
of_poke {b} {g} {o} =
    let h : (w : World) → lost_bytes b w.ram g o + 0 ≤ bytes_of b = λ w. rw (add-zero (lost_bytes b w.ram g o)) (lost_bytes_lem b w.ram g o) in
    record { at = λ w. within (h w); quiet = loud; tame = wild }

-- ---- the stack and traps

of_push : (v : ℕ) → Drops Unit (push v) 2
unfolding push
of_push v = seq of_registers λ r. seq of_set λ _. of_poke

of_push_psw : Drops Unit push_psw 2
unfolding push_psw
of_push_psw = seq of_psw λ x. of_push x

of_push_ps_pc : Drops Unit push_ps_pc 4
unfolding push_ps_pc
of_push_ps_pc = seq of_registers λ r. seq (of_push _) λ _. of_push _

of_save : {change : Act Unit} → Drops Unit change 0 → Drops Unit (save change) 6
unfolding save
of_save h = seq of_push_psw λ _. seq h λ _. of_push_ps_pc

of_trap : (v : ℕ) → Drops Unit (trap v) 6
unfolding trap vectored
of_trap v = seq of_peek λ pc. seq of_peek λ ps. seq (of_save (twice of_entered)) λ _. twice (of_jump_far ps pc)

of_interrupting : (v : ℕ) → Drops Unit (interrupting v) interrupt_drop_top
unfolding interrupting
of_interrupting v = seq (of_trap v) λ _. of_halted

-- ---- PREPARE

of_frame : (i : ℕ) (u : Unit {0}) → Drops Unit (frame i u) 2
unfolding frame
of_frame i u = seq of_registers λ r. seq of_set λ _. seq of_peek λ v. of_push v

frames_top : (n : ℕ) → suc n ≤ 255 → n * 2 + 2 ≤ 510
frames_top n h = omega arith

of_frames : (level temp : ℕ) → level ≤ 255 → Drops Unit (frames level temp) 510
unfolding frames
of_frames zero temp h = up (lit≤ tt) of_pure
of_frames (suc n) temp h = up (frames_top n h) (seq (of_loop frame 2 of_frame n 0 tt) λ _. of_push temp)

of_prepare : (size level : ℕ) → level ≤ 255 → Drops Unit (prepare size level) 512
unfolding prepare
of_prepare size level h = seq of_registers λ r. seq (of_push _) λ _. seq (of_frames level _ h) λ _. seq of_set λ _. seq of_registers λ q. of_set

of_stacks : (i : Stack) → level_of i ≤ 255 → Drops Unit (stack i) 512
unfolding stack
of_stacks (Push from) h = small (lit≤ tt) (of_stack (Push from) h)
of_stacks (PushByte v) h = small (lit≤ tt) (of_stack (PushByte v) h)
of_stacks (PushWord v) h = small (lit≤ tt) (of_stack (PushWord v) h)
of_stacks (PushSegment seg) h = small (lit≤ tt) (of_stack (PushSegment seg) h)
of_stacks PushPsw h = small (lit≤ tt) (of_stack PushPsw h)
of_stacks PushR h = small (lit≤ tt) (of_stack PushR h)
of_stacks (Pop to) h = small (lit≤ tt) (of_stack (Pop to) h)
of_stacks (PopSegment seg) h = small (lit≤ tt) (of_stack (PopSegment seg) h)
of_stacks PopR h = small (lit≤ tt) (of_stack PopR h)
of_stacks (Prepare size level) h = of_prepare size level h
of_stacks Dispose h = small (lit≤ tt) (of_stack Dispose h)

-- ---- decimal strings: a byte of every three

of_link : (way : Way) (storing : Storing) (seg i : ℕ) (c : Chain) → Drops Chain (link way storing seg i c) 1
unfolding link
of_link way storing seg i c =
    seq of_registers λ r. seq of_peek λ a. seq of_peek λ b. seq (either_way (stores storing) of_poke (up (lit≤ tt) of_pure)) λ _. of_pure

of_string : (way : Way) (storing : Storing) (seg : ℕ) → Drops Unit (string way storing seg) 128
unfolding string chained reg_value registers.read_reg ◌>>=◌
of_string way storing seg = of_get λ r. seq (up (mul-le-mul_right 1 (half_of_cl (r CL))) (of_loop (link way storing seg) 1 (of_link way storing seg) _ 0 _)) λ c. of_flags

of_decimals : (i : Decimal) → Drops Unit (decimal i) 512
unfolding decimal
of_decimals (Add4s seg) = up (lit≤ tt) (of_string Addition Stored seg)
of_decimals (Sub4s seg) = up (lit≤ tt) (of_string Subtraction Stored seg)
of_decimals (Cmp4s seg) = up (lit≤ tt) (of_string Subtraction NotStored seg)
of_decimals (Rol4 to) = small (lit≤ tt) (of_rol4 to)
of_decimals (Ror4 to) = small (lit≤ tt) (of_ror4 to)

-- ---- an instruction

of_computing : (i : Compute) → Drops Unit (computing i) 512
unfolding computing
of_computing (Calculates i) = small (lit≤ tt) (of_calculate i)
of_computing (Converts i) = small (lit≤ tt) (of_convert i)
of_computing (Shifts k w to places) = small (lit≤ tt) (of_shift k w to places)
of_computing (Bits op w to number) = small (lit≤ tt) (of_bits op w to number)
of_computing (Decimals i) = of_decimals i
of_computing (Fields i) = small (lit≤ tt) (of_field i)

of_moving : (i : Move) → level_among i ≤ 255 → Drops Unit (moving i) 512
unfolding moving
of_moving (Transfers i) h = small (lit≤ tt) (of_transfer i)
of_moving (Stacks i) h = of_stacks i h
of_moving (Branches i) h = small (lit≤ tt) (of_branch i)
of_moving (Tests i) h = small (lit≤ tt) (of_conditional i)

of_operation : (i : Instr) → Fine i → (start : ℕ) → Drops Bool (operation i start) 512
unfolding operation
of_operation (Computes i) h start = of_untrapped (of_computing i)
of_operation (Moves i) h start = of_untrapped (of_moving i h)
of_operation (Multiplies i) h start = small (lit≤ tt) (of_multiply i)
of_operation (Interrupts i) h start = small (lit≤ tt) (of_interrupts i)
of_operation (Blocks k w seg q) h start = small (lit≤ tt) (of_untrapped (of_block k w seg q start))
of_operation (Ports i) h start = small (lit≤ tt) (of_untrapped (of_ports i))
of_operation (Controls i) h start = small (lit≤ tt) (of_untrapped (of_control i))
of_operation (Modes i) h start = small (lit≤ tt) (of_untrapped (of_modes i))
of_operation (Cards i) h start = small (lit≤ tt) (of_untrapped (of_carding i))

of_execute : (i : Instr) → Fine i → (n : ℕ) → Drops Bool (execute i n) 512
unfolding execute
of_execute i h n = seq of_registers λ r. seq of_set λ _. of_operation i h _

of_single_step : (b : Bool) → Drops Unit (single_step b) 6
unfolding single_step
of_single_step false = up (lit≤ tt) of_pure
of_single_step true = of_interrupting 1

of_stepping : (i : Instr) → Fine i → (n : ℕ) → Drops Unit (stepping i n) drop_top
unfolding stepping
of_stepping i h n = seq of_flag λ traced. seq (of_execute i h n) λ trapped. of_single_step _

-- ---- the calls

of_end : {n : ℕ} {v : World} {b : Bus} → Within {A = Unit {0}} dropped n (ends tt v b) → b.dropped ≤ n
of_end (within h) = h

fine_of : {i : Instr} {n : ℕ} → ScannedTo 4 Fine (known i n) → Fine i
fine_of (read q) = q

pub at_most_518 : (w v : World) (t : List Event) → Bytes w.ram → Bytes w.rom → step w ≡ done tt v t → (tally t).dropped ≤ drop_top
unfolding step exec run
at_most_518 w v t h g e =
    let s = begins kept w v t e in
    of_end (rw s.ran at ((of_stepping s.instr (fine_of (rw s.read at (reads_fine w h g))) s.size).at (starting s.instr w)))

pub at_most_6 : (vector : ℕ) (maskable : Bool) (w v : World) (t : List Event) → interrupt vector maskable w ≡ done tt v t → (tally t).dropped ≤ interrupt_drop_top
unfolding interrupt exec run
at_most_6 vector maskable w v t e = of_end (rw (enters kept vector maskable w v t e).ran at ((of_interrupting vector).at w))
