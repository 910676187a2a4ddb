-- LDAX and STAX. All other transfers of the 8080 mode are native ones (Transfer), which CardCodes names.
-- 001:931; CARDS 7-8
use Rattle.std.specs.Prelude.{ℕ, true, false}
use Rattle.sheet.specs.declared.cards.CardPoint.{CardPoint}
use Rattle.sheet.specs.declared.cards.CardPoint.TheVariants.{Ldax, Stax}
use Rattle.sheet.specs.Registers.{AL, DS0, read_reg}
use Rattle.sheet.specs.Act.{Act, ◌>>=◌, registers, peek, poke}
use Rattle.sheet.specs.Operand.{set_reg}

unfoldable pub ldax : ℕ → Act Unit
ldax pair = do
  r ← registers
  v ← peek false (r DS0) (read_reg true r pair)
  set_reg false AL v

unfoldable pub stax : ℕ → Act Unit
stax pair = do
  r ← registers
  poke false (r DS0) (read_reg true r pair) (read_reg false r AL)

unfoldable pub point : CardPoint → Act Unit
point (Ldax pair) = ldax pair
point (Stax pair) = stax pair
