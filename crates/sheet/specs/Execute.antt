-- Every instruction's operation. Each hands on whether it took a trap itself.
-- 001:1233-1659, a row each; CARDS 1-64
use Rattle.std.specs.Prelude.{ℕ, Bool}
use Rattle.sheet.specs.declared.Compute.{Compute}
use Rattle.sheet.specs.declared.Compute.TheVariants.{Calculates, Converts, Shifts, Bits, Decimals, Fields}
use Rattle.sheet.specs.declared.Move.{Move}
use Rattle.sheet.specs.declared.Move.TheVariants.{Transfers, Stacks, Branches, Tests}
use Rattle.sheet.specs.declared.Instr.{Instr}
use Rattle.sheet.specs.declared.Instr.TheVariants.{Computes, Moves, Multiplies, Interrupts, Blocks, Ports, Controls, Modes, Cards}
use Rattle.sheet.specs.declared.cards.Card.{Card}
use Rattle.sheet.specs.declared.cards.Card.TheVariants as cards
use Rattle.sheet.specs.Width.{add16}
use Rattle.sheet.specs.Registers.{PC}
use Rattle.sheet.specs.Act.{Act, ◌>>=◌, ◌>>◌, registers, ◌≔◌}
use Rattle.sheet.specs.Traps.{untrapped}
use Rattle.sheet.specs.Transfer.{transfer}
use Rattle.sheet.specs.Arithmetic.{calculate}
use Rattle.sheet.specs.Multiply.{multiply}
use Rattle.sheet.specs.Convert.{convert}
use Rattle.sheet.specs.Shift.{shift}
use Rattle.sheet.specs.Bits.{bits}
use Rattle.sheet.specs.Decimal.{decimal}
use Rattle.sheet.specs.Fields.{field}
use Rattle.sheet.specs.Stack.{stack}
use Rattle.sheet.specs.Branch.{branch, conditional}
use Rattle.sheet.specs.Interrupts.{interrupts}
use Rattle.sheet.specs.Block.{block}
use Rattle.sheet.specs.Ports.{ports}
use Rattle.sheet.specs.Control.{control}
use Rattle.sheet.specs.Mode.{modes, card_modes}
use Rattle.sheet.specs.CardPoint.{point}
use Rattle.sheet.specs.CardArithmetic.{card_calculate}
use Rattle.sheet.specs.CardStack.{card_stack}
use Rattle.sheet.specs.CardBranch.{card_branch}

unfoldable pub computing : Compute → Act Unit
computing (Calculates i) = calculate i
computing (Converts i) = convert i
computing (Shifts k w to places) = shift k w to places
computing (Bits op w to number) = bits op w to number
computing (Decimals i) = decimal i
computing (Fields i) = field i

unfoldable pub moving : Move → Act Unit
moving (Transfers i) = transfer i
moving (Stacks i) = stack i
moving (Branches i) = branch i
moving (Tests i) = conditional i

-- the 8080 mode's: the first three groups are native
unfoldable pub carding : Card → Act Unit
carding (cards.Transfers i) = transfer i
carding (cards.Ports i) = ports i
carding (cards.Controls i) = control i
carding (cards.Points i) = point i
carding (cards.Calculates i) = card_calculate i
carding (cards.Branches i) = card_branch i
carding (cards.Stacks i) = card_stack i
carding (cards.Modes i) = card_modes i

-- an instruction that began at offset `start`; PC stands on the next one
unfoldable pub operation : Instr → ℕ → Act Bool
operation (Computes i) start = untrapped (computing i)
operation (Moves i) start = untrapped (moving i)
operation (Multiplies i) start = multiply i
operation (Interrupts i) start = interrupts i
operation (Blocks k w seg q) start = untrapped (block k w seg q start)
operation (Ports i) start = untrapped (ports i)
operation (Controls i) start = untrapped (control i)
operation (Modes i) start = untrapped (modes i)
operation (Cards i) start = untrapped (carding i)

-- an instruction of n bytes: PC moves past it first
unfoldable pub execute : Instr → ℕ → Act Bool
execute i n = do
  r ← registers
  PC ≔ add16 (r PC) n
  operation i (r PC)
