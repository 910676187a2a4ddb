-- Bounds on the other groups: stack, branches, interrupts, what writes MD, block primitives, ports, control.
use Prim.Native.Nat.{ℕ, zero, suc, ◌+◌, ◌*◌, ◌/◌, ◌%◌, ◌≤◌}
use mathlib.Core.Path.{refl, sym}
use mathlib.Core.Bool.{Bool, true, false, ◌&&◌, true≢false}
use mathlib.Core.List.{List, [], ◌∷◌}
use native.Mathlib.Omega.{arith}
use lib.ListN.{get_or}
use lib.Dec.{eqb, lit≤}
use Rattle.sheet.specs.declared.Place.{Place}
use Rattle.sheet.specs.declared.Place.TheVariants.{Register, Memory}
use Rattle.sheet.specs.declared.Stack.{Stack}
use Rattle.sheet.specs.declared.Stack.TheVariants.{Push, PushByte, PushWord, PushSegment, PushPsw, PushR, Pop, PopSegment, PopR, Prepare, Dispose}
use Rattle.sheet.specs.declared.Branch.{Branch}
use Rattle.sheet.specs.declared.Branch.TheVariants.{CallNear, CallTo, CallFar, CallFarAt, Ret, RetPop, RetFar, RetFarPop, BrNear, BrShort, BrTo, BrFar, BrFarAt}
use Rattle.sheet.specs.declared.Conditional.{Conditional}
use Rattle.sheet.specs.declared.Conditional.TheVariants.{If, Dbnzne, Dbnze, Dbnz, Bcwz}
use Rattle.sheet.specs.declared.Interrupt.{Interrupt}
use Rattle.sheet.specs.declared.Interrupt.TheVariants.{Brk3, Brk, Brkv, Chkind}
use Rattle.sheet.specs.declared.Mode.{Mode}
use Rattle.sheet.specs.declared.Mode.TheVariants.{PopPsw, Reti, Brkem}
use Rattle.sheet.specs.declared.Primitive.{Primitive}
use Rattle.sheet.specs.declared.Primitive.TheVariants.{Movbk, Cmpbk, Cmpm, Ldm, Stm, Inm, Outm}
use Rattle.sheet.specs.declared.Repeat.{Repeat}
use Rattle.sheet.specs.declared.Repeat.TheVariants.{Once, WhileZ, WhileNotZ, WhileCy, WhileNotCy}
use Rattle.sheet.specs.declared.Port.{Port}
use Rattle.sheet.specs.declared.Port.TheVariants.{InDw, Numbered}
use Rattle.sheet.specs.declared.Io.{Io}
use Rattle.sheet.specs.declared.Io.TheVariants.{In, Out}
use Rattle.sheet.specs.declared.Control.{Control}
use Rattle.sheet.specs.declared.Control.TheVariants.{Nop, Halt, Di, Ei, ClrCy, SetCy, NotCy, ClrDir, SetDir}
use Rattle.sheet.specs.Registers.{CW}
use Rattle.sheet.specs.Act.{Act, pure}
use Rattle.sheet.specs.Stack.{push_register, push_place, push_segment, push_r, pop_place, pop_segment, pop_r, frame, frames, prepare, dispose, stack}
use Rattle.sheet.specs.Branch.{jump, push_pc, call_near, call_to, call_far, call_far_at, release, ret, ret_pop, ret_far, ret_far_pop, br_to, br_far_at, branch, less_or_equal, conditions, asked, condition, jump_if, branch_if, count_down, dbnz_while, dbnz, bcwz, conditional}
use Rattle.sheet.specs.Interrupts.{brk, trap_if, brkv, chkind, interrupts}
use Rattle.sheet.specs.Mode.{take_back, pop_psw, pop_return, reti, brkem, modes}
use Rattle.sheet.specs.Block.{step_index, source_element, target_element, set_target, primitive, goes_on, goes_on_after, after_element, element, repeated, block}
use Rattle.sheet.specs.Ports.{port_number, ports}
use Rattle.sheet.specs.Control.{control}
use Rattle.theorems.specs.Repeat.{of_memory}
use Rattle.theorems.proofs.BoundsRules.{traits, cycles, Bound, MostOf, Most, seq, any, up, either_way, of_pure, of_registers, of_set, of_flag, of_flags, of_halted, of_crossing, of_peek, of_poke, of_inp, of_out, of_loop}
use Rattle.theorems.proofs.BoundsOperands.{of_reg_value, of_set_reg, of_locate, of_deposit, of_value_at, of_pair_at, of_push, of_pop, of_pop_into, of_push_psw, of_push_ps_pc, of_jump_far, of_vectored, of_trap}

-- ---- the stack

of_push_place : (from : Place) → Most Unit (push_place from) 4
unfolding push_place push_register
of_push_place (Register n) = up (lit≤ tt) (seq of_registers λ r. seq of_set λ _. seq of_registers λ q. of_poke)
of_push_place (Memory a) = seq (of_value_at true (Memory a)) λ v. of_push v

of_push_r : Most Unit push_r 16
unfolding push_r
of_push_r =
    seq of_registers λ r. seq (of_push _) λ _. seq (of_push _) λ _. seq (of_push _) λ _. seq (of_push _) λ _. seq (of_push _) λ _. seq (of_push _) λ _. seq (of_push _) λ _. of_push _

of_pop_r : Most Unit pop_r 16
unfolding pop_r
of_pop_r =
    seq (of_pop_into _) λ _. seq (of_pop_into _) λ _. seq (of_pop_into _) λ _. seq of_pop λ _. seq (of_pop_into _) λ _. seq (of_pop_into _) λ _. seq (of_pop_into _) λ _. of_pop_into _

of_frame : (i : ℕ) (u : Unit {0}) → Most Unit (frame i u) 4
unfolding frame
of_frame i u = seq of_registers λ r. seq of_set λ _. seq of_peek λ v. of_push v

frames_top : (n : ℕ) → suc n ≤ 255 → n * 4 + 2 ≤ 1018
frames_top n h = omega arith

of_frames : (level temp : ℕ) → level ≤ 255 → Most Unit (frames level temp) 1018
unfolding frames
of_frames zero temp h = up (lit≤ tt) of_pure
of_frames (suc n) temp h = up (frames_top n h) (seq (of_loop frame 4 of_frame n 0 tt) λ _. of_push temp)

of_prepare : (size level : ℕ) → level ≤ 255 → Most Unit (prepare size level) 1020
unfolding prepare
of_prepare size level h = seq of_registers λ r. seq (of_push _) λ _. seq (of_frames level _ h) λ _. seq of_set λ _. seq of_registers λ q. of_set

of_prepare_flat : (size : ℕ) → Most Unit (prepare size 0) 2
unfolding prepare frames
of_prepare_flat size = seq of_registers λ r. seq (of_push _) λ _. seq of_pure λ _. seq of_set λ _. seq of_registers λ q. of_set

-- PREPARE's level; others have none
abbrev pub level_of : Stack → ℕ
level_of (Push from) = 0
level_of (PushByte v) = 0
level_of (PushWord v) = 0
level_of (PushSegment seg) = 0
level_of PushPsw = 0
level_of PushR = 0
level_of (Pop to) = 0
level_of (PopSegment seg) = 0
level_of PopR = 0
level_of (Prepare size level) = level
level_of Dispose = 0

-- 16 where there is no level: PUSH R's and POP R's
abbrev pub level_top : ℕ → ℕ
level_top zero = 16
level_top (suc n) = 1020

pub level_top_lem : (n : ℕ) → level_top n ≤ 1020
level_top_lem zero = lit≤ tt
level_top_lem (suc n) = lit≤ tt

pub of_stack : (i : Stack) → level_of i ≤ 255 → Most Unit (stack i) (level_top (level_of i))
unfolding stack push_segment pop_place pop_segment dispose
of_stack (Push from) h = up (lit≤ tt) (of_push_place from)
of_stack (PushByte v) h = up (lit≤ tt) (of_push v)
of_stack (PushWord v) h = up (lit≤ tt) (of_push v)
of_stack (PushSegment seg) h = up (lit≤ tt) (seq of_registers λ r. of_push _)
of_stack PushPsw h = up (lit≤ tt) of_push_psw
of_stack PushR h = up (lit≤ tt) of_push_r
of_stack (Pop to) h = up (lit≤ tt) (seq of_pop λ v. seq (of_locate to) λ s. of_deposit true s v)
of_stack (PopSegment seg) h = up (lit≤ tt) (of_pop_into _)
of_stack PopR h = up (lit≤ tt) of_pop_r
of_stack (Prepare size zero) h = up (lit≤ tt) (of_prepare_flat size)
of_stack (Prepare size (suc n)) h = of_prepare size (suc n) h
of_stack Dispose h = up (lit≤ tt) (seq of_registers λ r. seq of_set λ _. of_pop_into _)

-- ---- CALL, RET, BR

of_jump : (disp : ℕ) → Most Unit (jump disp) 0
unfolding jump
of_jump disp = seq of_registers λ r. of_set

of_push_pc : Most Unit push_pc 2
unfolding push_pc
of_push_pc = seq of_registers λ r. of_push _

of_call_to : (to : Place) → Most Unit (call_to to) 4
unfolding call_to
of_call_to (Register n) = up (lit≤ tt) (seq of_push_pc λ _. seq (of_reg_value _ _) λ v. of_set)
of_call_to (Memory a) = seq (of_value_at true (Memory a)) λ v. seq of_push_pc λ _. of_set

of_call_far : (ps pc : ℕ) → Most Unit (call_far ps pc) 4
unfolding call_far
of_call_far ps pc = seq of_push_ps_pc λ _. of_jump_far ps pc

of_release : (size : ℕ) → Most Unit (release size) 0
unfolding release
of_release size = seq of_registers λ r. of_set

of_ret : Most Unit ret 2
unfolding ret
of_ret = of_pop_into _

of_ret_far : Most Unit ret_far 4
unfolding ret_far
of_ret_far = seq of_pop λ pc. seq of_pop λ ps. of_jump_far ps pc

pub of_branch : (i : Branch) → Most Unit (branch i) 8
unfolding branch call_near call_far_at ret_pop ret_far_pop br_to br_far_at
of_branch (CallNear disp) = up (lit≤ tt) (seq of_push_pc λ _. of_jump disp)
of_branch (CallTo to) = up (lit≤ tt) (of_call_to to)
of_branch (CallFar ps pc) = up (lit≤ tt) (of_call_far ps pc)
of_branch (CallFarAt at) = seq (of_pair_at at) λ p. of_call_far p.1 p.0
of_branch Ret = up (lit≤ tt) of_ret
of_branch (RetPop size) = up (lit≤ tt) (seq of_ret λ _. of_release size)
of_branch RetFar = up (lit≤ tt) of_ret_far
of_branch (RetFarPop size) = up (lit≤ tt) (seq of_ret_far λ _. of_release size)
of_branch (BrNear disp) = up (lit≤ tt) (of_jump disp)
of_branch (BrShort disp) = up (lit≤ tt) (of_jump disp)
of_branch (BrTo to) = up (lit≤ tt) (seq (of_value_at true to) λ v. of_set)
of_branch (BrFar ps pc) = up (lit≤ tt) (of_jump_far ps pc)
of_branch (BrFarAt at) = up (lit≤ tt) (seq of_registers λ r. seq of_peek λ ps. seq of_peek λ pc. of_jump_far ps pc)

-- ---- conditions

data AllFree : List (Act Bool) → Type 0 where
  none_there : AllFree []
  one_free : {p : Act Bool} {l : List (Act Bool)} → Most Bool p 0 → AllFree l → AllFree (p ∷ l)

of_get_d : (l : List (Act Bool)) → AllFree l → (n : ℕ) → Most Bool (get_or l n (pure false)) 0
of_get_d [] none_there n = of_pure
of_get_d (p ∷ l) (one_free h g) zero = h
of_get_d (p ∷ l) (one_free h g) (suc n) = of_get_d l g n

of_less_or_equal : Most Bool less_or_equal 0
unfolding less_or_equal
of_less_or_equal = seq (seq of_flag λ a. seq of_flag λ b. of_pure) λ a. seq of_flag λ b. of_pure

conditions_free : AllFree conditions
conditions_free =
    one_free of_flag (one_free of_flag (one_free of_flag (one_free (seq of_flag λ a. seq of_flag λ b. of_pure) (one_free of_flag (one_free of_flag (one_free (seq of_flag λ a. seq of_flag λ b. of_pure) (one_free of_less_or_equal none_there)))))))

of_jump_if : (b : Bool) (disp : ℕ) → Most Unit (jump_if b disp) 0
unfolding jump_if
of_jump_if b disp = either_way b (of_jump disp) of_pure

of_count_down : Most Bool count_down 0
unfolding count_down
of_count_down = seq of_registers λ r. seq of_set λ _. of_pure

of_dbnz_while : (wanted : Bool) (disp : ℕ) → Most Unit (dbnz_while wanted disp) 0
unfolding dbnz_while
of_dbnz_while wanted disp = seq of_count_down λ b. seq of_flag λ z. of_jump_if _ disp

pub of_condition : (n : ℕ) → Most Bool (condition n) 0
unfolding condition asked
of_condition n = seq (of_get_d conditions conditions_free (n / 2 % 8)) λ b. of_pure

pub of_conditional : (i : Conditional) → Most Unit (conditional i) 0
unfolding conditional branch_if dbnz bcwz
of_conditional (If n disp) = seq (of_condition n) λ b. of_jump_if b disp
of_conditional (Dbnzne disp) = of_dbnz_while false disp
of_conditional (Dbnze disp) = of_dbnz_while true disp
of_conditional (Dbnz disp) = seq of_count_down λ b. of_jump_if b disp
of_conditional (Bcwz disp) = seq of_registers λ r. of_jump_if _ disp

-- ---- interrupts

of_brk : (v : ℕ) → Most Bool (brk v) 8
unfolding brk
of_brk v = seq (of_trap v) λ _. of_pure

of_trap_if : (b : Bool) (v : ℕ) → Most Bool (trap_if b v) 8
unfolding trap_if
of_trap_if b v = either_way b (of_brk v) (up (lit≤ tt) of_pure)

pub of_interrupts : (i : Interrupt) → Most Bool (interrupts i) 12
unfolding interrupts brkv chkind
of_interrupts Brk3 = up (lit≤ tt) (of_brk 3)
of_interrupts (Brk v) = up (lit≤ tt) (of_brk v)
of_interrupts Brkv = up (lit≤ tt) (seq of_flag λ b. of_trap_if b 4)
of_interrupts (Chkind reg from) = seq (of_pair_at from) λ p. seq (of_reg_value _ _) λ v. of_trap_if _ 5

-- ---- what writes MD

of_take_back : (x : ℕ) → Most Unit (take_back x) 0
unfolding take_back
of_take_back x = seq of_flags λ _. of_crossing λ e. refl

pub of_pop_return : Most ℕ pop_return 6
unfolding pop_return
of_pop_return = seq of_pop λ pc. seq of_pop λ ps. seq of_pop λ x. seq of_set λ _. seq of_set λ _. of_pure

-- BRKEM alone enters the 8080 mode
abbrev pub stays_native : Mode → Bool
stays_native PopPsw = true
stays_native Reti = true
stays_native (Brkem v) = false

pub of_modes : (i : Mode) → Bound cycles (traits true (stays_native i)) Unit (modes i) 8
unfolding modes pop_psw reti brkem
of_modes PopPsw = up (lit≤ tt) (seq of_pop λ x. of_take_back x)
of_modes Reti = up (lit≤ tt) (seq of_pop_return λ x. of_take_back x)
of_modes (Brkem v) = of_vectored (of_crossing λ e. absurd (true≢false (sym e))) v

-- ---- block primitives

pub of_step_index : (w : Bool) (n : ℕ) → Most Unit (step_index w n) 0
unfolding step_index
of_step_index w n = seq of_flag λ down. seq of_registers λ r. of_set

pub of_source_element : (w : Bool) (seg : ℕ) → Most ℕ (source_element w seg) 2
unfolding source_element
of_source_element w seg = seq of_registers λ r. of_peek

of_target_element : (w : Bool) → Most ℕ (target_element w) 2
unfolding target_element
of_target_element w = seq of_registers λ r. of_peek

pub of_set_target : (w : Bool) (v : ℕ) → Most Unit (set_target w v) 2
unfolding set_target
of_set_target w v = seq of_registers λ r. of_poke

pub of_primitive_lem : (k : Primitive) (w : Bool) (seg : ℕ) → MostOf (of_memory k) Unit (primitive k w seg) 4
unfolding primitive
of_primitive_lem Movbk w seg = seq (of_source_element w seg) λ v. seq (of_set_target w v) λ _. seq (of_step_index w _) λ _. of_step_index w _
of_primitive_lem Cmpbk w seg = seq (of_source_element w seg) λ a. seq (of_target_element w) λ b. seq of_flags λ _. seq (of_step_index w _) λ _. of_step_index w _
of_primitive_lem Cmpm w seg = up (lit≤ tt) (seq (of_reg_value _ _) λ a. seq (of_target_element w) λ b. seq of_flags λ _. of_step_index w _)
of_primitive_lem Ldm w seg = up (lit≤ tt) (seq (of_source_element w seg) λ v. seq (of_set_reg _ _ _) λ _. of_step_index w _)
of_primitive_lem Stm w seg = up (lit≤ tt) (seq (of_reg_value _ _) λ v. seq (of_set_target w v) λ _. of_step_index w _)
of_primitive_lem Inm w seg = seq (any of_registers) λ r. seq of_inp λ v. any (seq (of_set_target w v) λ _. of_step_index w _)
of_primitive_lem Outm w seg = seq (any (of_source_element w seg)) λ v. seq (any of_registers) λ r. seq of_out λ _. any (of_step_index w _)

of_goes_on : (q : Repeat) → Most Bool (goes_on q) 0
unfolding goes_on
of_goes_on Once = of_pure
of_goes_on WhileZ = of_flag
of_goes_on WhileNotZ = seq of_flag λ z. of_pure
of_goes_on WhileCy = of_flag
of_goes_on WhileNotCy = seq of_flag λ c. of_pure

of_goes_on_after : (k : Primitive) (q : Repeat) → Most Bool (goes_on_after k q) 0
unfolding goes_on_after
of_goes_on_after Movbk q = of_pure
of_goes_on_after Cmpbk q = of_goes_on q
of_goes_on_after Cmpm q = of_goes_on q
of_goes_on_after Ldm q = of_pure
of_goes_on_after Stm q = of_pure
of_goes_on_after Inm q = of_pure
of_goes_on_after Outm q = of_pure

pub of_after_element : (k : Primitive) (q : Repeat) (start : ℕ) → Most Unit (after_element k q start) 0
unfolding after_element
of_after_element k q start = seq of_count_down λ left. seq (of_goes_on_after k q) λ on. either_way (on && left) of_set of_pure

of_repeated : (k : Primitive) (w : Bool) (seg : ℕ) (q : Repeat) (start : ℕ) → MostOf (of_memory k) Unit (repeated k w seg q start) 4
unfolding repeated element
of_repeated k w seg q start =
    seq (any of_registers) λ r. either_way (eqb (r CW) 0) (any (up (lit≤ tt) of_pure)) (seq (of_primitive_lem k w seg) λ _. any (of_after_element k q start))

pub of_block : (k : Primitive) (w : Bool) (seg : ℕ) (q : Repeat) (start : ℕ) → MostOf (of_memory k) Unit (block k w seg q start) 4
unfolding block
of_block k w seg Once start = of_primitive_lem k w seg
of_block k w seg WhileZ start = of_repeated k w seg WhileZ start
of_block k w seg WhileNotZ start = of_repeated k w seg WhileNotZ start
of_block k w seg WhileCy start = of_repeated k w seg WhileCy start
of_block k w seg WhileNotCy start = of_repeated k w seg WhileNotCy start

-- ---- ports and control

of_port_number : (port : Port) → Most ℕ (port_number port) 0
unfolding port_number
of_port_number InDw = seq of_registers λ r. of_pure
of_port_number (Numbered n) = of_pure

pub of_ports : (i : Io) → MostOf false Unit (ports i) 2
unfolding ports
of_ports (In w port) = seq (any (of_port_number port)) λ n. seq of_inp λ v. any (of_set_reg _ _ _)
of_ports (Out w port) = seq (any (of_port_number port)) λ n. seq (any (of_reg_value _ _)) λ v. of_out

pub of_control : (i : Control) → Most Unit (control i) 0
unfolding control
of_control Nop = of_pure
of_control Halt = of_halted
of_control Di = of_flags
of_control Ei = of_flags
of_control ClrCy = of_flags
of_control SetCy = of_flags
of_control NotCy = seq of_flag λ c. of_flags
of_control ClrDir = of_flags
of_control SetDir = of_flags
