-- Jumps, calls and returns of the 8080 mode. PC stands on the next instruction when these begin.
-- 001:917-918, 927, 931; CARDS 44-51
use Rattle.std.specs.Prelude.{ℕ, ◌*◌}
use Rattle.sheet.specs.declared.cards.CardBranch.{CardBranch}
use Rattle.sheet.specs.declared.cards.CardBranch.TheVariants.{Jmp, JumpIf, Call, CallIf, Ret, RetIf, Rst, Pchl}
use Rattle.sheet.specs.Width.{pick}
use Rattle.sheet.specs.Registers.{BW, PC}
use Rattle.sheet.specs.Act.{Act, pure, ◌>>=◌, ◌>>◌, registers, ◌≔◌}
use Rattle.sheet.specs.Branch.{condition}
use Rattle.sheet.specs.CardStack.{card_push, card_pop}

unfoldable pub jmp : ℕ → Act Unit
jmp to = PC ≔ to

unfoldable pub card_call : ℕ → Act Unit
card_call to = do
  r ← registers
  card_push (r PC)
  PC ≔ to

unfoldable pub card_ret : Act Unit
card_ret = do
  v ← card_pop
  PC ≔ v

unfoldable pub pchl : Act Unit
pchl = do
  r ← registers
  PC ≔ r BW

-- nothing is done where the condition does not hold
unfoldable pub provided : ℕ → Act Unit → Act Unit
provided n p = do
  b ← condition n
  pick b p (pure tt)

unfoldable pub card_branch : CardBranch → Act Unit
card_branch (Jmp to) = jmp to
card_branch (JumpIf n to) = provided n (jmp to)
card_branch (Call to) = card_call to
card_branch (CallIf n to) = provided n (card_call to)
card_branch Ret = card_ret
card_branch (RetIf n) = provided n card_ret
card_branch (Rst n) = card_call (8 * n)
card_branch Pchl = pchl
