-- Packing and unpacking undo one another: the struct's flags come back, and so does a PSW whose fixed bits are right.
use mathlib.Core.Path.{◌≡◌}
use mathlib.Core.Bool.{Bool, true}
use Prim.Native.Nat.{ℕ}
use Rattle.sheet.specs.Psw.{CY, P, AC, Z, S, BRK, IE, DIR, OV, native_of, pack, fixed_of}
use Rattle.sheet.proofs.PswLaws.{flag_pack, pack_flags}
use Rattle.calc_flags.specs.declared.Flags.{Flags}
use Rattle.calc_flags.specs.Flags.{held, unpacked}

pub unpack_pack : (md : Bool) (f : Flags) → unpacked (pack md (held f)) ≡ f
unpack_pack md f =
    let same = flag_pack md (held f) in
    simp (same CY, same P, same AC, same Z, same S, same BRK, same IE, same DIR, same OV)

pub pack_unpack : (x : ℕ) → fixed_of x ≡ true → pack (native_of x) (held (unpacked x)) ≡ x
pack_unpack x e = pack_flags x e
