-- Bounds on what instructions are made of: operands, the stack, traps.
use Prim.Native.Nat.{ℕ, ◌+◌, ◌*◌, ◌%◌}
use mathlib.Core.Path.{◌≡◌, refl}
use mathlib.Core.Bool.{Bool}
use native.Mathlib.Omega.{arith}
use lib.Dec.{lit≤}
use Rattle.sheet.specs.declared.Address.{Address}
use Rattle.sheet.specs.declared.Place.{Place}
use Rattle.sheet.specs.declared.Place.TheVariants.{Register, Memory}
use Rattle.sheet.specs.declared.Source.{Source}
use Rattle.sheet.specs.declared.Source.TheVariants.{Held, Immediate}
use Rattle.sheet.specs.declared.Spot.{Spot}
use Rattle.sheet.specs.declared.Spot.TheVariants.{InRegister, InMemory}
use Rattle.sheet.specs.declared.Amount.{Amount}
use Rattle.sheet.specs.declared.Amount.TheVariants.{InCl, Given}
use Rattle.sheet.specs.Act.{Act}
use Rattle.sheet.specs.Operand.{reg_value, set_reg, locate, fetch, deposit, value_at, source_value, pair_at, amount_of}
use Rattle.sheet.specs.Traps.{push, pop, pop_into, push_psw, push_ps_pc, jump_far, save, vectored, entered, trap}
use Rattle.theorems.proofs.BoundsRules.{Traits, cycles, Bound, Most, seq, any, up, of_pure, of_registers, of_set, of_psw, of_flags, of_crossing, of_peek, of_poke, of_peek_even}

-- ---- operands

pub of_reg_value : (w : Bool) (n : ℕ) → Most ℕ (reg_value w n) 0
unfolding reg_value
of_reg_value w n = seq of_registers λ r. of_pure

pub of_set_reg : (w : Bool) (n v : ℕ) → Most Unit (set_reg w n v) 0
unfolding set_reg
of_set_reg w n v = seq of_registers λ r. of_set

pub of_locate : (p : Place) → Most Spot (locate p) 0
unfolding locate
of_locate (Register n) = of_pure
of_locate (Memory a) = seq of_registers λ r. of_pure

pub of_fetch : (w : Bool) (s : Spot) → Most ℕ (fetch w s) 2
unfolding fetch
of_fetch w (InRegister n) = up (lit≤ tt) (of_reg_value w n)
of_fetch w (InMemory g o) = of_peek

pub of_deposit : (w : Bool) (s : Spot) (v : ℕ) → Most Unit (deposit w s v) 2
unfolding deposit
of_deposit w (InRegister n) v = up (lit≤ tt) (of_set_reg w n v)
of_deposit w (InMemory g o) v = of_poke

pub of_value_at : (w : Bool) (p : Place) → Most ℕ (value_at w p) 2
unfolding value_at
of_value_at w p = seq (of_locate p) λ s. of_fetch w s

pub of_source_value : (w : Bool) (p : Source) → Most ℕ (source_value w p) 2
unfolding source_value
of_source_value w (Held p) = of_value_at w p
of_source_value w (Immediate v) = up (lit≤ tt) of_pure

pub of_pair_at : (a : Address) → Most (ℕ × ℕ) (pair_at a) 4
unfolding pair_at
of_pair_at a = seq of_registers λ r. seq of_peek λ x. seq of_peek λ y. of_pure

pub of_amount_of : (a : Amount) → Most ℕ (amount_of a) 0
unfolding amount_of
of_amount_of InCl = of_reg_value _ _
of_amount_of (Given n) = of_pure

-- ---- the stack

pub of_push : (v : ℕ) → Most Unit (push v) 2
unfolding push
of_push v = seq of_registers λ r. seq of_set λ _. of_poke

pub of_pop : Most ℕ pop 2
unfolding pop
of_pop = seq of_registers λ r. seq of_peek λ v. seq of_set λ _. of_pure

pub of_pop_into : (n : ℕ) → Most Unit (pop_into n) 2
unfolding pop_into
of_pop_into n = seq of_pop λ v. of_set

pub of_push_psw : Most Unit push_psw 2
unfolding push_psw
of_push_psw = seq of_psw λ x. of_push x

pub of_push_ps_pc : Most Unit push_ps_pc 4
unfolding push_ps_pc
of_push_ps_pc = seq of_registers λ r. seq (of_push _) λ _. of_push _

pub of_jump_far : (ps pc : ℕ) → Most Unit (jump_far ps pc) 0
unfolding jump_far
of_jump_far ps pc = seq of_set λ _. of_set

-- ---- traps: both words of a vector lie at even addresses

of_save : {s : Traits} {change : Act Unit} → Bound cycles s Unit change 0 → Bound cycles s Unit (save change) 6
unfolding save
of_save h = seq (any of_push_psw) λ _. seq h λ _. any of_push_ps_pc

pub even_first : (v : ℕ) → 4 * v % 2 ≡ 0
even_first v = omega arith

pub even_second : (v : ℕ) → (4 * v + 2) % 2 ≡ 0
even_second v = omega arith

pub of_vectored : {s : Traits} {change : Act Unit} → Bound cycles s Unit change 0 → (v : ℕ) → Bound cycles s Unit (vectored change v) 8
unfolding vectored
of_vectored h v = seq (any (of_peek_even (even_first v))) λ pc. seq (any (of_peek_even (even_second v))) λ ps. seq (of_save h) λ _. any (of_jump_far ps pc)

pub of_entered : Most Unit entered 0
unfolding entered
of_entered = seq of_flags λ _. of_crossing λ e. refl

pub of_trap : (v : ℕ) → Most Unit (trap v) 8
unfolding trap
of_trap v = of_vectored of_entered v
