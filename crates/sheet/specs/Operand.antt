-- Where an operand stands, and how it is read and written.
-- 01:16, 18
use Rattle.std.specs.Prelude.{ℕ, ◌+◌, ◌%◌, Bool, true, false, List, [], ◌∷◌, get_or, Option, Some, None}
use Rattle.sheet.specs.declared.Form.{Form}
use Rattle.sheet.specs.declared.Address.{Address}
use Rattle.sheet.specs.declared.Address.TheVariants.{Formed, Direct}
use Rattle.sheet.specs.declared.Place.{Place}
use Rattle.sheet.specs.declared.Place.TheVariants.{Register, Memory}
use Rattle.sheet.specs.declared.Source.{Source}
use Rattle.sheet.specs.declared.Source.TheVariants.{Held, Immediate}
use Rattle.sheet.specs.declared.Spot.{Spot}
use Rattle.sheet.specs.declared.Spot.TheVariants.{InRegister, InMemory}
use Rattle.sheet.specs.declared.Amount.{Amount}
use Rattle.sheet.specs.declared.Amount.TheVariants.{InCl, Given}
use Rattle.sheet.specs.Width.{add16}
use Rattle.sheet.specs.Registers.{BW, BP, IX, IY, CL, File, segment, in_ss, in_ds0, read_reg, reg_index, reg_word}
use Rattle.sheet.specs.Act.{Act, pure, ◌>>=◌, registers, ◌≔◌, peek, poke}

-- ---- the eight address forms

abbrev pub form : ℕ → Option ℕ → ℕ → Form
form b i s = record { base = b; index = i; seg = s }

-- base, index, default segment: forms with BP use SS, others DS0
abbrev pub forms : List Form
forms =
    form BW (Some IX) in_ds0
    ∷ form BW (Some IY) in_ds0
    ∷ form BP (Some IX) in_ss
    ∷ form BP (Some IY) in_ss
    ∷ form IX None in_ds0
    ∷ form IY None in_ds0
    ∷ form BP None in_ss
    ∷ form BW None in_ds0
    ∷ []

unfoldable pub form_at : ℕ → Form
form_at n = get_or forms (n % 8) (form BW None in_ds0)

unfoldable pub index_of : File → Option ℕ → ℕ
index_of r (Some n) = read_reg true r n
index_of r None = 0

unfoldable pub form_offset : File → Form → ℕ → ℕ
form_offset r f disp = add16 (read_reg true r f.base + index_of r f.index) disp

-- an address's offset, and the word of its segment register
unfoldable pub offset_of : File → Address → ℕ
offset_of r (Formed seg n disp) = form_offset r (form_at n) disp
offset_of r (Direct seg offset) = offset

unfoldable pub base_of : File → Address → ℕ
base_of r (Formed seg n disp) = r (segment seg)
base_of r (Direct seg offset) = r (segment seg)

-- ---- registers

unfoldable pub reg_value : Bool → ℕ → Act ℕ
reg_value w n = do
  r ← registers
  pure (read_reg w r n)

unfoldable pub set_reg : Bool → ℕ → ℕ → Act Unit
set_reg w n v = do
  r ← registers
  reg_index w n ≔ reg_word w r n v

-- ---- places

-- a place's address is computed once, with the registers as they are before the operation
unfoldable pub locate : Place → Act Spot
locate (Register n) = pure (InRegister n)
locate (Memory a) = do
  r ← registers
  pure (InMemory (base_of r a) (offset_of r a))

unfoldable pub fetch : Bool → Spot → Act ℕ
fetch w (InRegister n) = reg_value w n
fetch w (InMemory g o) = peek w g o

unfoldable pub deposit : Bool → Spot → ℕ → Act Unit
deposit w (InRegister n) v = set_reg w n v
deposit w (InMemory g o) v = poke w g o v

-- an operand that is only read
unfoldable pub value_at : Bool → Place → Act ℕ
value_at w p = do
  s ← locate p
  fetch w s

unfoldable pub source_value : Bool → Source → Act ℕ
source_value w (Held p) = value_at w p
source_value w (Immediate v) = pure v

-- the two words of a 32-bit operand: the second is 2 higher in the same segment
unfoldable pub pair_at : Address → Act (ℕ × ℕ)
pair_at a = do
  r ← registers
  low ← peek true (base_of r a) (offset_of r a)
  high ← peek true (base_of r a) (add16 (offset_of r a) 2)
  pure (low, high)

unfoldable pub amount_of : Amount → Act ℕ
amount_of InCl = reg_value false CL
amount_of (Given n) = pure n
