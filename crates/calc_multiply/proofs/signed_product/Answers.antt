use mathlib.Core.Path.{◌≡◌, ◌∙◌}
use native.Mathlib.Omega.{arith}
use lib.IntN.{◌*ℤ◌}
use mir.Syntax.{w64}
use mir.Val.{to_z, of_z}
use Rattle.sheet.specs.Width.{signed_of}
use Rattle.sheet.specs.Multiply.{signed_product}
use Rattle.calc_signed.proofs.SignedLaws.{passes, signed_lt, signed_fits}
use Rattle.calc_multiply.proofs.ProductLaws.{times_fits}
use Rattle.calc_multiply.proofs.signed_product.Goals as goal
use Rattle.calc_multiply.proofs.signed_product.Goals.{After-signed, After-signed-2, After-times-z}

-- `calc_multiply::signed_product` meets its contract. A signed number that goes from one call to the next is read back from its bits.
left_reads : (c : After-signed) → to_z w64 (of_z w64 c.signed.result) ≡ signed_of c.half-h.result c.args.a
left_reads c = passes c.signed.ensures (signed_fits c.half-h.result c.args.a (omega arith) (omega arith))

right_reads : (c : After-signed-2)
    → to_z w64 (of_z w64 c.signed-2.result) ≡ signed_of c.half-h.result c.args.b
right_reads c =
    passes c.signed-2.ensures (signed_fits c.half-h.result c.args.b (omega arith) (omega arith))

pub times-z-requires : goal.times-z-requires
times-z-requires c =
    let h = c.half-h.result in
    let s = c.args in
    rw (left_reads c.before, right_reads c)
    (signed_lt h s.a 65536 (omega arith) (omega arith), signed_lt h s.b 65536 (omega arith) (omega arith))

product_reads : (c : After-times-z)
    → to_z w64 (of_z w64 c.times-z.result)
    ≡ signed_of c.half-h.result c.args.a
    *ℤ signed_of c.half-h.result c.args.b
product_reads c =
    let h = c.half-h.result in
    let s = c.args in
    passes (c.times-z.ensures ∙ rw (left_reads c.before.before, right_reads c.before))
    (times_fits (signed_of h s.a) (signed_of h s.b) (signed_lt h s.a 65536 (omega arith) (omega arith)) (signed_lt h s.b 65536 (omega arith) (omega arith)))

pub returns : goal.returns
unfolding signed_product
returns c =
    rw (c.low_bits.ensures, c.fits.ensures, product_reads c.before.before, c.half-h.ensures.0)
