use mathlib.Core.Path.{◌≡◌}
use native.Mathlib.Omega.{arith}
use native.Mathlib.Nat.{lt_irrefl}
use Rattle.base_text.proofs.Texts.{hex_none, hex_more}
use Rattle.base_line.proofs.Laws.{nothing, then}
use Rattle.base_line.proofs.Line.+push_hex.Goals as goal

pub returns-then-w-gt0 : goal.returns-then-w-gt0
returns-then-w-gt0 t c =
    let a = c.args in
    let e = hex_more a.w a.n (λ z. absurd (lt_irrefl 0 (omega (arith, z, c.if-w-gt0.true)))) in
    rw (e, ← c.hex_digit.ensures) (then c.push_hex.ensures c.push.ensures)

pub returns-else-w-gt0 : goal.returns-else-w-gt0
returns-else-w-gt0 t c = let e : c.args.w ≡ 0 = omega (arith, c.if-w-gt0.false) in rw (e, hex_none) (nothing _)
