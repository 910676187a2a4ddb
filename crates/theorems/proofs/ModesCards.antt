-- No instruction of the 8080 mode but CALLN and RETEM affects SP, IX, IY, AH or a segment register, where no single-step trap follows it.
use Prim.Native.Nat.{ℕ, ◌/◌, ◌%◌}
use mathlib.Core.Path.{◌≡◌, refl}
use mathlib.Core.Bool.{Bool, true, false, not, ◌&&◌, true≢false}
use mathlib.Core.List.{List}
use Rattle.sheet.specs.declared.Bus.{Bus}
use Rattle.sheet.specs.declared.Place.{Place}
use Rattle.sheet.specs.declared.Place.TheVariants.{Register, Memory}
use Rattle.sheet.specs.declared.Source.{Source}
use Rattle.sheet.specs.declared.Source.TheVariants.{Held, Immediate}
use Rattle.sheet.specs.declared.Spot.{Spot}
use Rattle.sheet.specs.declared.Spot.TheVariants.{InRegister, InMemory}
use Rattle.sheet.specs.declared.Operation.{Operation}
use Rattle.sheet.specs.declared.Operation.TheVariants.{Add, Or, Addc, Subc, And, Sub, Xor, Cmp}
use Rattle.sheet.specs.declared.Shift.{Shift}
use Rattle.sheet.specs.declared.Shift.TheVariants.{Rol, Ror, Rolc, Rorc, Shl, Shr, Shra}
use Rattle.sheet.specs.declared.Control.{Control}
use Rattle.sheet.specs.declared.Control.TheVariants.{Nop, Halt, Di, Ei, ClrCy, SetCy, NotCy, ClrDir, SetDir}
use Rattle.sheet.specs.declared.cards.CardPoint.{CardPoint}
use Rattle.sheet.specs.declared.cards.CardPoint.TheVariants.{Ldax, Stax}
use Rattle.sheet.specs.declared.cards.CardBranch.{CardBranch}
use Rattle.sheet.specs.declared.cards.CardBranch.TheVariants.{Jmp, JumpIf, Call, CallIf, Ret, RetIf, Rst, Pchl}
use Rattle.sheet.specs.declared.cards.Card.{Card}
use Rattle.sheet.specs.declared.Instr.{Instr}
use Rattle.sheet.specs.declared.Instr.TheVariants as instr
use Rattle.sheet.specs.declared.Instr.TheVariants.{Computes, Moves, Multiplies, Interrupts, Blocks, Ports, Controls, Cards}
use Rattle.sheet.specs.declared.Primitive.{Primitive}
use Rattle.sheet.specs.declared.Repeat.{Repeat}
use Rattle.sheet.specs.Psw.{BRK, native_of, flag_of}
use Rattle.sheet.specs.Registers.{AL, PS, PC, file_of}
use Rattle.sheet.specs.World.{World, psw_of}
use Rattle.sheet.specs.Act.{Act, pure, ◌>>=◌, flag}
use Rattle.sheet.specs.Handler.{Event, kept, nothing, run}
use Rattle.sheet.specs.Contract.{exec, ends}
use Rattle.sheet.specs.Reading.{known}
use Rattle.sheet.specs.Operand.{reg_value, set_reg, locate, fetch, deposit, value_at, source_value}
use Rattle.sheet.specs.Arithmetic.{Result, finish, conclude, one}
use Rattle.sheet.specs.Shift.{carry_in}
use Rattle.sheet.specs.Transfer.{mov, load_acc, store_acc, xch, transfer}
use Rattle.sheet.specs.Ports.{port_number, ports}
use Rattle.sheet.specs.Control.{control}
use Rattle.sheet.specs.Branch.{less_or_equal, conditions, asked, condition}
use Rattle.sheet.specs.Traps.{untrapped}
use Rattle.sheet.specs.CardPoint.{ldax, stax, point}
use Rattle.sheet.specs.CardArithmetic as arithmetic
use Rattle.sheet.specs.CardArithmetic.{card_operate, card_two, changing, counting, rotate, card_calculate}
use Rattle.sheet.specs.CardBranch.{jmp, card_call, card_ret, pchl, provided, card_branch}
use Rattle.sheet.specs.CardStack as stack
use Rattle.sheet.specs.CardStack.{card_push, card_pop, push_pair, pop_pair, push_al_psw, pop_al_psw, card_stack}
use Rattle.sheet.specs.CardCodes.{card_instruction}
use Rattle.sheet.specs.Execute.{carding, operation, execute}
use Rattle.sheet.specs.Step.{code_at, source, instruction_in, loads_segment, single_step, starting, stepping}
use Rattle.sheet.proofs.Rules.{exec_bind, ends_flag}
use Rattle.sheet.proofs.StepLaws.{Stepped}
use Rattle.theorems.specs.Bounds.{Bytes}
use Rattle.theorems.specs.Modes.{Unaffected, NotMode}
use Rattle.theorems.proofs.Widths.{byte_top}
use Rattle.theorems.proofs.BoundsReading.{ScannedTo, read, scanned}
use Rattle.theorems.proofs.CardsRead.{CardRegister, is_b, is_c, is_d, is_e, is_h, is_l, is_a, CardPair, is_bc, is_de, is_hl, is_sp, CardPlace, of_register, of_pair, of_memory, Named, no_more, ◌then◌, chosen, of_card_instruction}
use Rattle.theorems.proofs.CardsRead as named
use Rattle.theorems.proofs.ModesRules.{Left, left_so, plus_left, Spares, seq, either, of_pure, of_get, of_registers, of_set, of_al, of_flag, of_psw, of_flags, of_peek, of_poke, of_halted, of_inp, of_out}

-- ---- operands

of_reg_value : (w : Bool) (n : ℕ) → Spares ℕ (reg_value w n)
unfolding reg_value
of_reg_value w n = seq of_registers λ r. of_pure

of_fetch : (w : Bool) (s : Spot) → Spares ℕ (fetch w s)
unfolding fetch
of_fetch w (InRegister n) = of_reg_value w n
of_fetch w (InMemory g o) = of_peek

of_locate : (p : Place) → Spares Spot (locate p)
unfolding locate
of_locate (Register n) = of_pure
of_locate (Memory a) = seq of_registers λ r. of_pure

of_source_value : (w : Bool) (p : Source) → Spares ℕ (source_value w p)
unfolding source_value value_at
of_source_value w (Held p) = seq (of_locate p) λ s. of_fetch w s
of_source_value w (Immediate v) = of_pure

-- a register or a pair of the 8080 is written
set_register : {n : ℕ} (v : ℕ) → CardRegister n → Spares Unit (set_reg false n v)
unfolding set_reg
set_register v is_b = seq of_registers λ r. of_set refl
set_register v is_c = seq of_registers λ r. of_set refl
set_register v is_d = seq of_registers λ r. of_set refl
set_register v is_e = seq of_registers λ r. of_set refl
set_register v is_h = seq of_registers λ r. of_set refl
set_register v is_l = seq of_registers λ r. of_set refl
set_register v is_a = of_al v

set_pair : {n : ℕ} (v : ℕ) → CardPair n → Spares Unit (set_reg true n v)
unfolding set_reg
set_pair v is_bc = seq of_registers λ r. of_set refl
set_pair v is_de = seq of_registers λ r. of_set refl
set_pair v is_hl = seq of_registers λ r. of_set refl
set_pair v is_sp = seq of_registers λ r. of_set refl

data CardSpot : Bool → Spot → Type 0 where
  spot_register : {n : ℕ} → CardRegister n → CardSpot false (InRegister n)
  spot_pair : {n : ℕ} → CardPair n → CardSpot true (InRegister n)
  spot_memory : {w : Bool} {g o : ℕ} → CardSpot w (InMemory g o)

of_deposit : {w : Bool} {s : Spot} (v : ℕ) → CardSpot w s → Spares Unit (deposit w s v)
unfolding deposit
of_deposit v (spot_register c) = set_register v c
of_deposit v (spot_pair c) = set_pair v c
of_deposit v spot_memory = of_poke

-- what is located is such a place
located : {A : Type 0} {w : Bool} {to : Place} {f : Spot → Act A} → CardPlace w to → ((s : Spot) → CardSpot w s → Spares A (f s)) → Spares A (locate to >>= f)
unfolding locate ◌>>=◌
located (of_register c) h = h _ (spot_register c)
located (of_pair c) h = h _ (spot_pair c)
located of_memory h = of_get λ r. h _ spot_memory

of_finish : {w : Bool} {s : Spot} (r : Result) → CardSpot w s → Spares Unit (finish w s r)
unfolding finish
of_finish r c = seq of_flags λ _. of_deposit _ c

-- ---- transfers, ports, control

of_mov : {w : Bool} {to : Place} (from : Source) → CardPlace w to → Spares Unit (mov w to from)
unfolding mov
of_mov {w} from c = seq (of_source_value w from) λ v. located c λ s p. of_deposit v p

of_control : (i : Control) → Spares Unit (control i)
unfolding control
of_control Nop = of_pure
of_control Halt = of_halted
of_control Di = of_flags
of_control Ei = of_flags
of_control ClrCy = of_flags
of_control SetCy = of_flags
of_control NotCy = seq of_flag λ c. of_flags
of_control ClrDir = of_flags
of_control SetDir = of_flags

of_point : (i : CardPoint) → Spares Unit (point i)
unfolding point ldax stax
of_point (Ldax pair) = seq of_registers λ r. seq of_peek λ v. of_al v
of_point (Stax pair) = seq of_registers λ r. of_poke

-- ---- arithmetic

of_operate : (op : Operation) (a b : ℕ) → Spares Result (card_operate op a b)
unfolding card_operate
of_operate Add a b = of_pure
of_operate Or a b = of_pure
of_operate Addc a b = seq of_flag λ c. of_pure
of_operate Subc a b = seq of_flag λ c. of_pure
of_operate And a b = of_pure
of_operate Sub a b = of_pure
of_operate Xor a b = of_pure
of_operate Cmp a b = of_pure

of_conclude : (op : Operation) (v : ℕ) → Spares Unit (conclude op false (InRegister AL) v)
unfolding conclude
of_conclude Add v = of_deposit v (spot_register is_a)
of_conclude Or v = of_deposit v (spot_register is_a)
of_conclude Addc v = of_deposit v (spot_register is_a)
of_conclude Subc v = of_deposit v (spot_register is_a)
of_conclude And v = of_deposit v (spot_register is_a)
of_conclude Sub v = of_deposit v (spot_register is_a)
of_conclude Xor v = of_deposit v (spot_register is_a)
of_conclude Cmp v = of_pure

of_changing : (f : ℕ → Result) {to : Place} → CardPlace false to → Spares Unit (changing f to)
unfolding changing
of_changing f c = located c λ s p. seq (of_fetch false s) λ a. of_finish (f a) p

of_counting : (f : ℕ → ℕ) {pair : ℕ} → CardPair pair → Spares Unit (counting f pair)
unfolding counting
of_counting f c = seq (of_reg_value _ _) λ x. set_pair (f x) c

of_carry_in : (k : Shift) → Spares Bool (carry_in k)
unfolding carry_in
of_carry_in Rol = of_pure
of_carry_in Ror = of_pure
of_carry_in Rolc = of_flag
of_carry_in Rorc = of_flag
of_carry_in Shl = of_pure
of_carry_in Shr = of_pure
of_carry_in Shra = of_pure

-- ---- the stack, jumps and calls

of_card_push : (v : ℕ) → Spares Unit (card_push v)
unfolding card_push
of_card_push v = seq of_registers λ r. seq (of_set refl) λ _. of_poke

of_card_pop : Spares ℕ card_pop
unfolding card_pop
of_card_pop = seq of_registers λ r. seq of_peek λ v. seq (of_set refl) λ _. of_pure

of_less_or_equal : Spares Bool less_or_equal
unfolding less_or_equal
of_less_or_equal = seq (seq of_flag λ a. seq of_flag λ b. of_pure) λ a. seq of_flag λ b. of_pure

of_condition : (n : ℕ) → Spares Bool (condition n)
unfolding condition asked
of_condition n =
    seq
    (chosen {P = λ p. Spares Bool p} conditions (pure false)
    (of_flag then of_flag then of_flag then (seq of_flag λ a. seq of_flag λ b. of_pure) then of_flag then of_flag then (seq of_flag λ a. seq of_flag λ b. of_pure) then of_less_or_equal then no_more)
    of_pure (n / 2 % 8)) λ b. of_pure

of_card_call : (to : ℕ) → Spares Unit (card_call to)
unfolding card_call
of_card_call to = seq of_registers λ r. seq (of_card_push _) λ _. of_set refl

of_card_ret : Spares Unit card_ret
unfolding card_ret
of_card_ret = seq of_card_pop λ v. of_set refl

of_provided : (n : ℕ) {p : Act Unit} → Spares Unit p → Spares Unit (provided n p)
unfolding provided
of_provided n h = seq (of_condition n) λ b. either b h of_pure

of_card_branch : (i : CardBranch) → Spares Unit (card_branch i)
unfolding card_branch jmp pchl
of_card_branch (Jmp to) = of_set refl
of_card_branch (JumpIf n to) = of_provided n (of_set refl)
of_card_branch (Call to) = of_card_call to
of_card_branch (CallIf n to) = of_provided n (of_card_call to)
of_card_branch Ret = of_card_ret
of_card_branch (RetIf n) = of_provided n of_card_ret
of_card_branch (Rst n) = of_card_call _
of_card_branch Pchl = seq of_registers λ r. of_set refl

-- ---- every row but CALLN and RETEM

of_carding : {c : Card} → Named c → NotMode (Cards c) → Spares Unit (carding c)
unfolding carding transfer load_acc store_acc xch ports port_number card_calculate card_two arithmetic.dad rotate arithmetic.daa arithmetic.cma one card_stack push_pair pop_pair push_al_psw pop_al_psw stack.xthl
of_carding (named.moves c) h = of_mov _ c
of_carding named.loads h = of_mov _ (of_register is_a)
of_carding named.stores h = of_mov _ of_memory
of_carding named.swaps h = located (of_pair is_hl) λ s p. seq (of_fetch true s) λ x. seq (of_reg_value _ _) λ y. seq (of_deposit y p) λ _. set_pair x is_de
of_carding (named.takes l) h = seq of_pure λ n. seq of_inp λ v. of_al v
of_carding (named.gives l) h = seq of_pure λ n. seq (of_reg_value _ _) λ v. of_out
of_carding named.controls h = of_control _
of_carding named.points h = of_point _
of_carding named.two h =
    seq (of_reg_value _ _) λ a. seq (of_source_value false _) λ b. seq (of_operate _ a b) λ r. seq of_flags λ _. of_conclude _ r.value
of_carding (named.inr c) h = of_changing _ c
of_carding (named.dcr c) h = of_changing _ c
of_carding (named.inx c) h = of_counting _ c
of_carding (named.dcx c) h = of_counting _ c
of_carding named.dad h = seq (of_reg_value _ _) λ x. seq (of_reg_value _ _) λ y. seq of_flags λ _. set_pair _ is_hl
of_carding (named.rotates {k = k}) h = seq (of_reg_value _ _) λ x. seq (of_carry_in k) λ cy. of_finish _ (spot_register is_a)
of_carding named.daa h = seq (of_reg_value _ _) λ x. seq of_flag λ ac. seq of_flag λ cy. of_finish _ (spot_register is_a)
of_carding named.cma h = located (of_register is_a) λ s p. seq (of_fetch false s) λ a. of_finish _ p
of_carding named.branches h = of_card_branch _
of_carding named.pushes h = seq (of_reg_value _ _) λ x. of_card_push x
of_carding named.pushes_psw h = seq (of_reg_value _ _) λ a. seq of_psw λ x. of_card_push _
of_carding (named.pops c) h = seq of_card_pop λ v. set_pair v c
of_carding named.pops_psw h = seq of_card_pop λ v. seq of_flags λ _. of_al _
of_carding named.xthl h = seq of_registers λ r. seq of_peek λ v. seq of_poke λ _. of_set refl
of_carding (named.modes {i = i}) h = absurd (h i refl)

-- ---- the step

data IsCard : Instr → Type 0 where
  is_card : {c : Card} → Named c → IsCard (Cards c)

-- in the 8080 mode the bytes name an instruction of it
cards_read : (w : World) → Bytes w.ram → Bytes w.rom → native_of (psw_of w.state) ≡ false → ScannedTo 3 IsCard (instruction_in w)
unfolding instruction_in
cards_read w h g m =
    rw m
    (scanned card_instruction (of_card_instruction λ c n. is_card n) (source w)
    (λ j. byte_top w.ram w.rom h g (code_at (file_of w.state.file PS) (file_of w.state.file PC) j)) 0)

of_execute : {i : Instr} (n : ℕ) → IsCard i → NotMode i → Spares Bool (execute i n)
unfolding execute operation untrapped
of_execute n (is_card c) h = seq of_registers λ r. seq (of_set refl) λ _. seq (of_carding c h) λ _. of_pure

card_of : {i : Instr} {n : ℕ} → ScannedTo 3 IsCard (known i n) → IsCard i
card_of (read c) = c

-- what follows the question for BRK
after_brk : Instr → ℕ → Bool → Act Unit
after_brk i n traced = execute i n >>= λ trapped. single_step ((traced && not (loads_segment i)) && not trapped)

of_untraced : {i : Instr} (n : ℕ) → IsCard i → NotMode i → Spares Unit (after_brk i n false)
unfolding after_brk single_step
of_untraced n c h = seq (of_execute n c h) λ trapped. of_pure

of_stepping : {i : Instr} (n : ℕ) → IsCard i → NotMode i → (w : World) → flag_of (psw_of w.state) BRK ≡ false → Left w.state.file (exec (stepping i n) w)
unfolding stepping after_brk
of_stepping {i} n c h w e =
    rw (exec_bind (flag BRK) (after_brk i n) w, (ends_flag {w = w} BRK).is, e) (plus_left nothing (exec (after_brk i n false) w) ((of_untraced n c h).at w))

unaffected_by : {f : List ℕ} {v : World} {m : Bus} → Left {A = Unit {0}} f (ends tt v m) → Unaffected f v.state.file
unaffected_by (left_so u) = u

-- a finished step of the 8080 mode, neither CALLN nor RETEM, with BRK clear
pub cards_unaffected : (w v : World) (t : List Event) → Bytes w.ram → Bytes w.rom → native_of (psw_of w.state) ≡ false → flag_of (psw_of w.state) BRK ≡ false
    → (s : Stepped kept w v t) → NotMode s.instr → Unaffected w.state.file v.state.file
unfolding starting exec run
cards_unaffected w v t h g m e s n =
    let c = card_of (rw s.read at (cards_read w h g m)) in
    unaffected_by (rw s.ran at (of_stepping s.size c n (starting s.instr w) e))

-- ---- block instructions are native

is_block : Instr → Bool
is_block (Computes i) = false
is_block (Moves i) = false
is_block (Multiplies i) = false
is_block (Interrupts i) = false
is_block (Blocks k b seg q) = true
is_block (Ports i) = false
is_block (Controls i) = false
is_block (instr.Modes i) = false
is_block (Cards i) = false

no_block : {i : Instr} → IsCard i → is_block i ≡ false
unfolding is_block
no_block (is_card c) = refl

-- so demand 3 is of native mode: in the other mode no bytes name one
pub blocks_native : (w : World) (k : Primitive) (b : Bool) (seg : ℕ) (q : Repeat) (n : ℕ) → Bytes w.ram → Bytes w.rom → instruction_in w ≡ known (Blocks k b seg q) n
    → native_of (psw_of w.state) ≡ true
unfolding is_block
blocks_native w k b seg q n h g e = go (native_of (psw_of w.state)) refl
  where
    go : (t : Bool) → native_of (psw_of w.state) ≡ t → t ≡ true
    go true m = refl
    go false m = absurd (true≢false (no_block (card_of (rw e at (cards_read w h g m)))))
