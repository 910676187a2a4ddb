-- Instruction bytes: prefixes, the mod-reg-mem byte, and how a table of codes is read.
-- 001:1045-1191; 01:18, 23
use Rattle.std.specs.Prelude.{ℕ, ◌+◌, ◌/◌, ◌%◌, Bool, ◌&&◌, List, [], ◌∷◌, eqb, leb, ltb, Option, Some, None}
use Rattle.sheet.specs.declared.Address.{Address}
use Rattle.sheet.specs.declared.Address.TheVariants.{Formed, Direct}
use Rattle.sheet.specs.declared.Place.{Place}
use Rattle.sheet.specs.declared.Place.TheVariants.{Register, Memory}
use Rattle.sheet.specs.declared.Prefixes.{Prefixes}
use Rattle.sheet.specs.declared.Repeat.{Repeat}
use Rattle.sheet.specs.declared.Repeat.TheVariants.{Once, WhileZ, WhileNotZ, WhileCy, WhileNotCy}
use Rattle.sheet.specs.declared.Instr.{Instr}
use Rattle.sheet.specs.Width.{pick, odd}
use Rattle.sheet.specs.Psw.{at}
use Rattle.sheet.specs.Registers.{in_ds1, in_ps, in_ss, in_ds0}
use Rattle.sheet.specs.Operand.{form_at}
use Rattle.sheet.specs.Reading.{Reading, got, no, ◌>>=◌, ◌>>◌, word, signed_byte, allow}

-- ---- prefixes

pub data Prefix : Type 0 where
  segment_prefix : ℕ → Prefix
  repeat_prefix : Repeat → Prefix
  lock_prefix : Prefix

-- the prefix that a byte is, if any
unfoldable pub prefix_of : ℕ → Option Prefix
prefix_of b =
    pick (eqb b 0x26) (Some (segment_prefix in_ds1))
    (pick (eqb b 0x2e) (Some (segment_prefix in_ps))
    (pick (eqb b 0x36) (Some (segment_prefix in_ss))
    (pick (eqb b 0x3e) (Some (segment_prefix in_ds0))
    (pick (eqb b 0x64) (Some (repeat_prefix WhileNotCy))
    (pick (eqb b 0x65) (Some (repeat_prefix WhileCy))
    (pick (eqb b 0xf0) (Some lock_prefix)
    (pick (eqb b 0xf2) (Some (repeat_prefix WhileNotZ))
    (pick (eqb b 0xf3) (Some (repeat_prefix WhileZ)) None))))))))

abbrev pub unprefixed : Prefixes
unprefixed = record { seg = None; repeat = Once }

-- of two alike in kind the last counts; the lock has no effect
abbrev pub with_prefix : Prefixes → Prefix → Prefixes
with_prefix p (segment_prefix n) = record { seg = Some n; repeat = p.repeat }
with_prefix p (repeat_prefix q) = record { seg = p.seg; repeat = q }
with_prefix p lock_prefix = p

-- the segment that counts, where it would be `usual`
abbrev pub seg_or : Option ℕ → ℕ → ℕ
seg_or None usual = usual
seg_or (Some n) usual = n

-- ---- mod reg mem

abbrev pub mod_field : ℕ → ℕ
mod_field m = m / 64

abbrev pub reg_field : ℕ → ℕ
reg_field m = m / 8 % 8

abbrev pub mem_field : ℕ → ℕ
mem_field m = m % 8

-- an address form with its displacement
unfoldable pub formed : Prefixes → ℕ → ℕ → Address
formed p n disp = Formed (seg_or p.seg (form_at n).seg) n disp

abbrev pub direct : Prefixes → ℕ → Address
direct p offset = Direct (seg_or p.seg in_ds0) offset

-- a displacement: none, a byte with its sign, a word
unfoldable pub displacement : ℕ → Reading ℕ
displacement mode = pick (eqb mode 0) (got 0) (pick (eqb mode 1) signed_byte word)

unfoldable pub with_displacement : Prefixes → (mode mem : ℕ) → Reading Address
with_displacement p mode mem = do
  disp ← displacement mode
  got (formed p mem disp)

unfoldable pub with_offset : Prefixes → Reading Address
with_offset p = do
  offset ← word
  got (direct p offset)

-- form 6 without displacement is a 16-bit address instead
unfoldable pub address : Prefixes → (mode mem : ℕ) → Reading Address
address p mode mem = pick (eqb mode 0 && eqb mem 6) (with_offset p) (with_displacement p mode mem)

unfoldable pub in_memory : Prefixes → ℕ → Reading Place
in_memory p m = do
  a ← address p (mod_field m) (mem_field m)
  got (Memory a)

-- the operand that the byte m names: mod 11 is a register
unfoldable pub place : Prefixes → ℕ → Reading Place
place p m = pick (eqb (mod_field m) 3) (got (Register (mem_field m))) (in_memory p m)

-- only memory will do
unfoldable pub memory : Prefixes → ℕ → Reading Address
memory p m = do
  allow (ltb (mod_field m) 3)
  address p (mod_field m) (mem_field m)

-- ---- tables

-- a row of section 8: its first code, how many codes it has, and what follows each of them
pub record Row : Type 0 where
  pub from : ℕ
  pub many : ℕ
  pub reads : ℕ → Reading Instr

abbrev pub row : ℕ → ℕ → (ℕ → Reading Instr) → Row
row from many reads = record { from = from; many = many; reads = reads }

abbrev pub covers : Row → ℕ → Bool
covers r b = leb r.from b && ltb b (r.from + r.many)

-- what a code names; a code that no row covers is unknown
unfoldable pub look_up : List Row → ℕ → Reading Instr
look_up [] b = no 3
look_up (r ∷ t) b =
    let others : Reading Instr = look_up t b in
    let here : Reading Instr = r.reads b in
    pick (covers r b) here others

-- bit 0 of a code is W; bit 1 says that the register is the destination; the low three bits name a register
abbrev pub W : ℕ → Bool
W b = odd b

abbrev pub to_register : ℕ → Bool
to_register b = at b 2

abbrev pub reg_of : ℕ → ℕ
reg_of b = b % 8
