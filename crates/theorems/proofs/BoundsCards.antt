-- Bounds on the instructions of the 8080 mode: at most 8 bus cycles, CALLN's.
use Prim.Native.Nat.{ℕ}
use mathlib.Core.Path.{refl}
use mathlib.Core.Bool.{Bool, true, false}
use lib.Dec.{lit≤}
use Rattle.sheet.specs.declared.Place.{Place}
use Rattle.sheet.specs.declared.Place.TheVariants.{Register}
use Rattle.sheet.specs.declared.Operation.{Operation}
use Rattle.sheet.specs.declared.Operation.TheVariants.{Add, Or, Addc, Subc, And, Sub, Xor, Cmp}
use Rattle.sheet.specs.declared.Unary.TheVariants.{Not}
use Rattle.sheet.specs.declared.Arithmetic.TheVariants.{One}
use Rattle.sheet.specs.declared.cards.CardPoint.{CardPoint}
use Rattle.sheet.specs.declared.cards.CardPoint.TheVariants.{Ldax, Stax}
use Rattle.sheet.specs.declared.cards.CardArithmetic.{CardArithmetic}
use Rattle.sheet.specs.declared.cards.CardArithmetic.TheVariants.{Two, Inr, Dcr, Inx, Dcx, Dad, Rotate, Daa, Cma}
use Rattle.sheet.specs.declared.cards.CardBranch.{CardBranch}
use Rattle.sheet.specs.declared.cards.CardBranch.TheVariants.{Jmp, JumpIf, Call, CallIf, Ret, RetIf, Rst, Pchl}
use Rattle.sheet.specs.declared.cards.CardStack.{CardStack}
use Rattle.sheet.specs.declared.cards.CardStack.TheVariants.{Push, PushPsw, Pop, PopPsw, Xthl}
use Rattle.sheet.specs.declared.cards.CardMode.{CardMode}
use Rattle.sheet.specs.declared.cards.CardMode.TheVariants.{Calln, Retem}
use Rattle.sheet.specs.declared.cards.Card.{Card}
use Rattle.sheet.specs.declared.cards.Card.TheVariants.{Transfers, Ports, Controls, Points, Calculates, Branches, Stacks, Modes}
use Rattle.sheet.specs.Registers.{AL}
use Rattle.sheet.specs.Act.{Act}
use Rattle.sheet.specs.Arithmetic.{Result, calculate}
use Rattle.sheet.specs.CardPoint.{ldax, stax, point}
use Rattle.sheet.specs.CardArithmetic.{card_operate, card_two, changing, counting, dad, rotate, daa, cma, card_calculate}
use Rattle.sheet.specs.CardBranch.{jmp, card_call, card_ret, pchl, provided, card_branch}
use Rattle.sheet.specs.CardStack.{card_push, card_pop, push_pair, pop_pair, push_al_psw, pop_al_psw, xthl, card_stack}
use Rattle.sheet.specs.Mode.{retem, calln, card_modes}
use Rattle.sheet.specs.Execute.{carding}
use Rattle.theorems.proofs.BoundsRules.{MostOf, Most, seq, up, either_way, of_pure, of_registers, of_set, of_flag, of_psw, of_flags, of_crossing, of_peek, of_poke}
use Rattle.theorems.proofs.BoundsOperands.{of_reg_value, of_set_reg, of_locate, of_fetch, of_source_value, of_vectored}
use Rattle.theorems.proofs.BoundsGroups.{of_transfer, of_conclude, of_finish, of_carry_in, of_calculate}
use Rattle.theorems.proofs.BoundsFlow.{of_condition, of_pop_return, of_ports, of_control}

of_point : (i : CardPoint) → Most Unit (point i) 2
unfolding point ldax stax
of_point (Ldax pair) = seq of_registers λ r. seq of_peek λ v. of_set_reg _ _ _
of_point (Stax pair) = seq of_registers λ r. of_poke

-- ---- arithmetic

of_operate : (op : Operation) (a b : ℕ) → Most Result (card_operate op a b) 0
unfolding card_operate
of_operate Add a b = of_pure
of_operate Or a b = of_pure
of_operate Addc a b = seq of_flag λ c. of_pure
of_operate Subc a b = seq of_flag λ c. of_pure
of_operate And a b = of_pure
of_operate Sub a b = of_pure
of_operate Xor a b = of_pure
of_operate Cmp a b = of_pure

of_changing : (f : ℕ → Result) (to : Place) → Most Unit (changing f to) 4
unfolding changing
of_changing f to = seq (of_locate to) λ s. seq (of_fetch false s) λ a. of_finish false s _

of_counting : (f : ℕ → ℕ) (pair : ℕ) → Most Unit (counting f pair) 0
unfolding counting
of_counting f pair = seq (of_reg_value _ _) λ x. of_set_reg _ _ _

of_card_calculate : (i : CardArithmetic) → Most Unit (card_calculate i) 6
unfolding card_calculate card_two dad rotate daa cma calculate
of_card_calculate (Two op from) =
    up (lit≤ tt) (seq (of_reg_value _ _) λ a. seq (of_source_value false from) λ b. seq (of_operate op a b) λ r. seq of_flags λ _. of_conclude op false _ _)
of_card_calculate (Inr to) = up (lit≤ tt) (of_changing _ to)
of_card_calculate (Dcr to) = up (lit≤ tt) (of_changing _ to)
of_card_calculate (Inx pair) = up (lit≤ tt) (of_counting _ pair)
of_card_calculate (Dcx pair) = up (lit≤ tt) (of_counting _ pair)
of_card_calculate (Dad pair) = up (lit≤ tt) (seq (of_reg_value _ _) λ x. seq (of_reg_value _ _) λ y. seq of_flags λ _. of_set_reg _ _ _)
of_card_calculate (Rotate k) = up (lit≤ tt) (seq (of_reg_value _ _) λ x. seq (of_carry_in k) λ cy. of_finish false _ _)
of_card_calculate Daa = up (lit≤ tt) (seq (of_reg_value _ _) λ x. seq of_flag λ ac. seq of_flag λ cy. of_finish false _ _)
of_card_calculate Cma = of_calculate (One Not false (Register AL))

-- ---- the stack, jumps and calls

of_card_push : (v : ℕ) → Most Unit (card_push v) 2
unfolding card_push
of_card_push v = seq of_registers λ r. seq of_set λ _. of_poke

of_card_pop : Most ℕ card_pop 2
unfolding card_pop
of_card_pop = seq of_registers λ r. seq of_peek λ v. seq of_set λ _. of_pure

of_card_stack : (i : CardStack) → Most Unit (card_stack i) 4
unfolding card_stack push_pair pop_pair push_al_psw pop_al_psw xthl
of_card_stack (Push pair) = up (lit≤ tt) (seq (of_reg_value _ _) λ x. of_card_push x)
of_card_stack PushPsw = up (lit≤ tt) (seq (of_reg_value _ _) λ a. seq of_psw λ x. of_card_push _)
of_card_stack (Pop pair) = up (lit≤ tt) (seq of_card_pop λ v. of_set_reg _ _ _)
of_card_stack PopPsw = up (lit≤ tt) (seq of_card_pop λ v. seq of_flags λ _. of_set_reg _ _ _)
of_card_stack Xthl = seq of_registers λ r. seq of_peek λ v. seq of_poke λ _. of_set

of_card_call : (to : ℕ) → Most Unit (card_call to) 2
unfolding card_call
of_card_call to = seq of_registers λ r. seq (of_card_push _) λ _. of_set

of_card_ret : Most Unit card_ret 2
unfolding card_ret
of_card_ret = seq of_card_pop λ v. of_set

of_jmp : (to : ℕ) → Most Unit (jmp to) 2
unfolding jmp
of_jmp to = up (lit≤ tt) of_set

of_provided : (n : ℕ) {p : Act Unit} → Most Unit p 2 → Most Unit (provided n p) 2
unfolding provided
of_provided n h = seq (of_condition n) λ b. either_way b h (up (lit≤ tt) of_pure)

of_card_branch : (i : CardBranch) → Most Unit (card_branch i) 2
unfolding card_branch pchl
of_card_branch (Jmp to) = of_jmp to
of_card_branch (JumpIf n to) = of_provided n (of_jmp to)
of_card_branch (Call to) = of_card_call to
of_card_branch (CallIf n to) = of_provided n (of_card_call to)
of_card_branch Ret = of_card_ret
of_card_branch (RetIf n) = of_provided n of_card_ret
of_card_branch (Rst n) = of_card_call _
of_card_branch Pchl = up (lit≤ tt) (seq of_registers λ r. of_set)

-- ---- CALLN and RETEM, which leave the mode

of_card_modes : (i : CardMode) → Most Unit (card_modes i) 8
unfolding card_modes calln retem
of_card_modes (Calln v) = of_vectored (of_crossing λ e. refl) v
of_card_modes Retem = up (lit≤ tt) (seq of_pop_return λ x. seq of_flags λ _. of_crossing λ e. refl)

-- it uses no port
abbrev pub portless_card : Card → Bool
portless_card (Transfers i) = true
portless_card (Ports i) = false
portless_card (Controls i) = true
portless_card (Points i) = true
portless_card (Calculates i) = true
portless_card (Branches i) = true
portless_card (Stacks i) = true
portless_card (Modes i) = true

pub of_carding : (i : Card) → MostOf (portless_card i) Unit (carding i) 8
unfolding carding
of_carding (Transfers i) = up (lit≤ tt) (of_transfer i)
of_carding (Ports i) = up (lit≤ tt) (of_ports i)
of_carding (Controls i) = up (lit≤ tt) (of_control i)
of_carding (Points i) = up (lit≤ tt) (of_point i)
of_carding (Calculates i) = up (lit≤ tt) (of_card_calculate i)
of_carding (Branches i) = up (lit≤ tt) (of_card_branch i)
of_carding (Stacks i) = up (lit≤ tt) (of_card_stack i)
of_carding (Modes i) = of_card_modes i
