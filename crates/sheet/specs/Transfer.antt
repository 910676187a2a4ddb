-- MOV, LDEA, TRANS, XCH.
-- 001:1235-1254; 000:917-936; 01:14, 18
use Rattle.std.specs.Prelude.{ℕ, Bool, true, false}
use Rattle.sheet.specs.declared.Address.{Address}
use Rattle.sheet.specs.declared.Place.{Place}
use Rattle.sheet.specs.declared.Place.TheVariants.{Register, Memory}
use Rattle.sheet.specs.declared.Source.{Source}
use Rattle.sheet.specs.declared.Source.TheVariants.{Held}
use Rattle.sheet.specs.declared.Transfer.{Transfer}
use Rattle.sheet.specs.declared.Transfer.TheVariants.{Mov, LoadAcc, StoreAcc, ToSegment, FromSegment, LoadPointer, AhFromPsw, PswFromAh, Ldea, Trans, Xch}
use Rattle.sheet.specs.Width.{add16}
use Rattle.sheet.specs.Psw.{CY, P, AC, Z, S, flag_of, blank, becomes, Column, columns}
use Rattle.sheet.specs.Registers.{AW, BW, AL, AH, segment, read_reg}
use Rattle.sheet.specs.Act.{Act, ◌>>=◌, ◌>>◌, registers, ◌≔◌, psw, affect, peek}
use Rattle.sheet.specs.Operand.{offset_of, locate, fetch, deposit, value_at, source_value, reg_value, set_reg, pair_at}

unfoldable pub mov : Bool → Place → Source → Act Unit
mov w to from = do
  v ← source_value w from
  s ← locate to
  deposit w s v

-- MOV acc,dmem and MOV dmem,acc
unfoldable pub load_acc : Bool → Address → Act Unit
load_acc w from = mov w (Register AW) (Held (Memory from))

unfoldable pub store_acc : Bool → Address → Act Unit
store_acc w to = mov w (Memory to) (Held (Register AW))

-- MOV sreg,reg16 or mem16, and back
unfoldable pub to_segment : ℕ → Place → Act Unit
to_segment seg from = do
  v ← value_at true from
  segment seg ≔ v

unfoldable pub from_segment : Place → ℕ → Act Unit
from_segment to seg = do
  s ← locate to
  r ← registers
  deposit true s (r (segment seg))

-- MOV DS0 or DS1,reg16,mem32
unfoldable pub load_pointer : ℕ → ℕ → Address → Act Unit
load_pointer seg reg from = do
  p ← pair_at from
  set_reg true reg p.0
  segment seg ≔ p.1

-- MOV AH,PSW and MOV PSW,AH: the latter touches S, Z, AC, P and CY alone
unfoldable pub ah_from_psw : Act Unit
ah_from_psw = do
  x ← psw false
  set_reg false AH x

abbrev pub flags_of_byte : ℕ → Column
flags_of_byte x =
    columns (becomes (flag_of x AC)) (becomes (flag_of x CY)) blank (becomes (flag_of x P)) (becomes (flag_of x S)) (becomes (flag_of x Z))

unfoldable pub psw_from_ah : Act Unit
psw_from_ah = do
  x ← reg_value false AH
  affect (flags_of_byte x)

-- LDEA: the offset itself
unfoldable pub ldea : ℕ → Address → Act Unit
ldea reg from = do
  r ← registers
  set_reg true reg (offset_of r from)

-- TRANS: AL <- (BW + AL)
unfoldable pub trans : ℕ → Act Unit
trans seg = do
  r ← registers
  v ← peek false (r (segment seg)) (add16 (r BW) (read_reg false r AL))
  set_reg false AL v

unfoldable pub xch : Bool → ℕ → Place → Act Unit
xch w reg with = do
  s ← locate with
  x ← fetch w s
  y ← reg_value w reg
  deposit w s y
  set_reg w reg x

unfoldable pub transfer : Transfer → Act Unit
transfer (Mov w to from) = mov w to from
transfer (LoadAcc w from) = load_acc w from
transfer (StoreAcc w to) = store_acc w to
transfer (ToSegment seg from) = to_segment seg from
transfer (FromSegment to seg) = from_segment to seg
transfer (LoadPointer seg reg from) = load_pointer seg reg from
transfer AhFromPsw = ah_from_psw
transfer PswFromAh = psw_from_ah
transfer (Ldea reg from) = ldea reg from
transfer (Trans seg) = trans seg
transfer (Xch w reg with) = xch w reg with

-- MOV into a segment register by 8E; the 32-bit pointer loads are not named (02 f)
unfoldable pub mov_in : Transfer → Bool
mov_in (Mov w to from) = false
mov_in (LoadAcc w from) = false
mov_in (StoreAcc w to) = false
mov_in (ToSegment seg from) = true
mov_in (FromSegment to seg) = false
mov_in (LoadPointer seg reg from) = false
mov_in AhFromPsw = false
mov_in PswFromAh = false
mov_in (Ldea reg from) = false
mov_in (Trans seg) = false
mov_in (Xch w reg with) = false
