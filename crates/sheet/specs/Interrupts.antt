-- BRK, BRKV, CHKIND. Each hands on whether it took a trap.
-- 001:855-879, 1634-1639; 000:1313-1318; 01:27, 61
use Rattle.std.specs.Prelude.{ℕ, Bool, true, false, ◌||◌}
use Rattle.std.specs.Int.Signed.{lt_z}
use Rattle.sheet.specs.declared.Address.{Address}
use Rattle.sheet.specs.declared.Interrupt.{Interrupt}
use Rattle.sheet.specs.declared.Interrupt.TheVariants.{Brk3, Brk, Brkv, Chkind}
use Rattle.sheet.specs.Width.{pick, half_of, signed_of}
use Rattle.sheet.specs.Psw.{OV}
use Rattle.sheet.specs.Act.{Act, pure, ◌>>=◌, ◌>>◌, flag}
use Rattle.sheet.specs.Operand.{reg_value, pair_at}
use Rattle.sheet.specs.Traps.{trap}

unfoldable pub brk : ℕ → Act Bool
brk v = do
  trap v
  pure true

unfoldable pub trap_if : Bool → ℕ → Act Bool
trap_if b v = pick b (brk v) (pure false)

unfoldable pub brkv : Act Bool
brkv = do
  b ← flag OV
  trap_if b 4

-- the bounds are compared as signed numbers
unfoldable pub outside : (v low high : ℕ) → Bool
outside v low high =
    let h : ℕ = half_of true in
    lt_z (signed_of h v) (signed_of h low) || lt_z (signed_of h high) (signed_of h v)

unfoldable pub chkind : ℕ → Address → Act Bool
chkind reg from = do
  p ← pair_at from
  v ← reg_value true reg
  trap_if (outside v p.0 p.1) 5

unfoldable pub interrupts : Interrupt → Act Bool
interrupts Brk3 = brk 3
interrupts (Brk v) = brk v
interrupts Brkv = brkv
interrupts (Chkind reg from) = chkind reg from
