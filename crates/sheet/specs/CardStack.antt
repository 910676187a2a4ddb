-- The stack of the 8080 mode, at DS0:BP: PUSH, POP, XTHL.
-- 001:917, 927, 931; CARDS 52-56
use Rattle.std.specs.Prelude.{ℕ, ◌+◌, ◌*◌, ◌/◌, ◌%◌, true, false}
use Rattle.sheet.specs.declared.cards.CardStack.{CardStack}
use Rattle.sheet.specs.declared.cards.CardStack.TheVariants.{Push, PushPsw, Pop, PopPsw, Xthl}
use Rattle.sheet.specs.Width.{add16, sub16}
use Rattle.sheet.specs.Registers.{BW, BP, AL, DS0}
use Rattle.sheet.specs.Act.{Act, pure, ◌>>=◌, ◌>>◌, registers, ◌≔◌, psw, affect, peek, poke}
use Rattle.sheet.specs.Operand.{reg_value, set_reg}
use Rattle.sheet.specs.Transfer.{flags_of_byte}

-- BP <- BP - 2, word [BP] <- v
unfoldable pub card_push : ℕ → Act Unit
card_push v = do
  r ← registers
  BP ≔ sub16 (r BP) 2
  poke true (r DS0) (sub16 (r BP) 2) v

-- word [BP] is handed on, BP <- BP + 2
unfoldable pub card_pop : Act ℕ
card_pop = do
  r ← registers
  v ← peek true (r DS0) (r BP)
  BP ≔ add16 (r BP) 2
  pure v

unfoldable pub push_pair : ℕ → Act Unit
push_pair pair = do
  x ← reg_value true pair
  card_push x

unfoldable pub pop_pair : ℕ → Act Unit
pop_pair pair = do
  v ← card_pop
  set_reg true pair v

-- AL above PSW's low byte
unfoldable pub push_al_psw : Act Unit
push_al_psw = do
  a ← reg_value false AL
  x ← psw false
  card_push (a * 256 + x)

-- S, Z, AC, P and CY alone, and AL
unfoldable pub pop_al_psw : Act Unit
pop_al_psw = do
  v ← card_pop
  affect (flags_of_byte (v % 256))
  set_reg false AL (v / 256)

unfoldable pub xthl : Act Unit
xthl = do
  r ← registers
  v ← peek true (r DS0) (r BP)
  poke true (r DS0) (r BP) (r BW)
  BW ≔ v

unfoldable pub card_stack : CardStack → Act Unit
card_stack (Push pair) = push_pair pair
card_stack PushPsw = push_al_psw
card_stack (Pop pair) = pop_pair pair
card_stack PopPsw = pop_al_psw
card_stack Xthl = xthl
