use mathlib.Core.Path.{◌≡◌, sym, ◌∙◌}
use Prim.Native.Nat.{◌^◌}
use native.Mathlib.Omega.{arith}
use borrow.Author.Tests.{eq-eqb, ne_eqb}
use mir.Syntax.{w64}
use mir.Val.{to_z, of_z}
use Rattle.sheet.specs.Width.{signed_of}
use Rattle.sheet.specs.Multiply.{signed_quotient}
use Rattle.calc_word.proofs.WidthLaws.{mod_half, wrap_lt}
use Rattle.calc_signed.proofs.SignedLaws.{passes, signed_lt, signed_nz, signed_fits}
use Rattle.calc_divide.proofs.signed_quotient.Goals as goal
use Rattle.calc_divide.proofs.signed_quotient.Goals.{After-signed, After-signed-d}

-- `calc_divide::signed_quotient` meets its contract.
-- the divisor and the dividend, as they are read back
d_reads : (c : After-signed-d)
    → to_z w64 (of_z w64 c.signed-d.result) ≡ signed_of c.half.result c.wrap-k.result
d_reads c =
    passes c.signed-d.ensures (signed_fits c.half.result c.wrap-k.result (omega arith) (omega arith))

n_reads : (c : After-signed)
    → to_z w64 (of_z w64 c.signed.result) ≡ signed_of c.span.result c.args.a
n_reads c =
    passes c.signed.ensures
    (signed_fits c.span.result c.args.a (omega arith) (omega arith))

pub returns-then-k-eq0 : goal.returns-then-k-eq0
unfolding signed_quotient
returns-then-k-eq0 c = rw (eq-eqb _ 0 (sym c.wrap-k.ensures ∙ c.if-k-eq0.true))

pub quoted-requires : goal.quoted-requires
quoted-requires c =
    let s = c.args in
    let h = c.half in
    let k = c.wrap-k in
    rw (n_reads c, d_reads c.before.before) (
      signed_lt c.span.result s.a (2 ^ 40) (omega arith) (omega arith),
      signed_nz h.result k.result (omega (arith, wrap_lt s.word s.b, mod_half s.word)) c.if-k-eq0.false,
    )

pub returns : goal.returns
unfolding signed_quotient
returns c =
    let w = c.wrap-k.ensures in
    rw (c.quoted.ensures, n_reads c.before, d_reads c.before.before.before, c.span.ensures.0, c.half.ensures.0, w, ne_eqb _ 0 (λ e. c.if-k-eq0.false (w ∙ e)))
