-- A window of code bytes as one number, and the fields of a reading as one number, an address and a place among them.
use Rattle.std.specs.Prelude.{ℕ, zero, suc, ◌/◌, ◌%◌, ◌≤◌, ◌≡◌, Bool, [], ◌∷◌, eqb, get_or}
use Rattle.sheet.specs.declared.Address.{Address}
use Rattle.sheet.specs.declared.Address.TheVariants.{Formed, Direct}
use Rattle.sheet.specs.declared.Convert.{Convert}
use Rattle.sheet.specs.declared.Convert.TheVariants.{Adjba, Adj4a, Adjbs, Adj4s, Cvtbd, Cvtdb, Cvtbw, Cvtwl}
use Rattle.sheet.specs.declared.Decimal.{Decimal}
use Rattle.sheet.specs.declared.Decimal.TheVariants.{Add4s, Sub4s, Cmp4s}
use Rattle.sheet.specs.declared.Multiply.{Multiply}
use Rattle.sheet.specs.declared.Multiply.TheVariants.{Mulu, Mul, Divu, Div}
use Rattle.sheet.specs.declared.Place.{Place}
use Rattle.sheet.specs.declared.Place.TheVariants.{Register, Memory}
use Rattle.sheet.specs.declared.Primitive.{Primitive}
use Rattle.sheet.specs.declared.Primitive.TheVariants.{Movbk, Cmpbk, Cmpm, Ldm, Stm}
use Rattle.sheet.specs.declared.Repeat.{Repeat}
use Rattle.sheet.specs.declared.Repeat.TheVariants.{Once, WhileZ, WhileNotZ, WhileCy, WhileNotCy}
use Rattle.sheet.specs.declared.Shift.{Shift}
use Rattle.sheet.specs.declared.Shift.TheVariants.{Rol, Ror, Rolc, Rorc, Shl, Shr, Shra}
use Rattle.sheet.specs.declared.Unary.{Unary}
use Rattle.sheet.specs.declared.Unary.TheVariants.{Inc, Dec, Not, Neg}
use Rattle.sheet.specs.Width.{pick, odd}

-- the bytes of a window, the lowest first
unfoldable pub byte_of : ℕ → ℕ → ℕ
byte_of w zero = w % 256
byte_of w (suc i) = byte_of (w / 256) i

-- ---- the fields of a reading

abbrev pub kind_of : ℕ → ℕ
kind_of r = r % 256

abbrev pub size_of : ℕ → ℕ
size_of r = r / 256 % 16

-- a register, or an address form: 8 is none, and the displacement is the offset
abbrev pub rm_of : ℕ → ℕ
rm_of r = r / 4096 % 16

abbrev pub reg_of : ℕ → ℕ
reg_of r = r / 65536 % 16

abbrev pub op_of : ℕ → ℕ
op_of r = r / 1048576 % 8

abbrev pub cond_of : ℕ → ℕ
cond_of r = r / 1048576 % 16

abbrev pub seg_of : ℕ → ℕ
seg_of r = r / 16777216 % 4

abbrev pub word_of : ℕ → Bool
word_of r = odd (r / 268435456)

abbrev pub disp_of : ℕ → ℕ
disp_of r = r / 4294967296 % 65536

abbrev pub imm_of : ℕ → ℕ
imm_of r = r / 281474976710656

-- what the field of the operation says by its number
unfoldable pub unary_at : ℕ → Unary
unary_at n = get_or (Inc ∷ Dec ∷ Not ∷ Neg ∷ []) n Inc

unfoldable pub shift_at : ℕ → Shift
shift_at n = get_or (Rol ∷ Ror ∷ Rolc ∷ Rorc ∷ Shl ∷ Shr ∷ Shra ∷ []) n Rol

unfoldable pub convert_at : ℕ → Convert
convert_at n = get_or (Adjba ∷ Adj4a ∷ Adjbs ∷ Adj4s ∷ Cvtbd ∷ Cvtdb ∷ Cvtbw ∷ Cvtwl ∷ []) n Adjba

unfoldable pub string_at : ℕ → ℕ → Decimal
string_at n seg = get_or (Add4s seg ∷ Sub4s seg ∷ Cmp4s seg ∷ []) n (Add4s seg)

unfoldable pub product_at : ℕ → Bool → Place → Multiply
product_at n w by = get_or (Mulu w by ∷ Mul w by ∷ Divu w by ∷ Div w by ∷ []) n (Mulu w by)

unfoldable pub primitive_at : ℕ → Primitive
primitive_at n = get_or (Movbk ∷ Cmpbk ∷ Cmpm ∷ Ldm ∷ Stm ∷ []) n Movbk

-- and the field of the register, of a block
unfoldable pub repeat_at : ℕ → Repeat
repeat_at n = get_or (Once ∷ WhileZ ∷ WhileNotZ ∷ WhileCy ∷ WhileNotCy ∷ []) n Once

-- ---- addresses

unfoldable pub address_at : ℕ → ℕ → ℕ → Address
address_at rm seg disp = pick (eqb rm 8) (Direct seg disp) (Formed seg rm disp)

abbrev pub address_of : ℕ → Address
address_of r = address_at (rm_of r) (seg_of r) (disp_of r)

-- ---- readings that are made of fields

pub record Fields (r kind size rm reg op seg : ℕ) (word : Bool) (disp imm : ℕ) : Type 0 where
  pub kind_is : kind_of r ≡ kind
  pub size_is : size_of r ≡ size
  pub rm_is : rm_of r ≡ rm
  pub reg_is : reg_of r ≡ reg
  pub op_is : op_of r ≡ op % 8
  pub cond_is : cond_of r ≡ op
  pub seg_is : seg_of r ≡ seg
  pub word_is : word_of r ≡ word
  pub disp_is : disp_of r ≡ disp
  pub imm_is : imm_of r ≡ imm

-- r is 0 where a field is too large or the window is too short
pub data Joined (kind size rm reg op seg : ℕ) (word : Bool) (disp imm r : ℕ) : Type 0 where
  unjoined : r ≡ 0 → Joined kind size rm reg op seg word disp imm r
  joined : size ≤ 8 → Fields r kind size rm reg op seg word disp imm → Joined kind size rm reg op seg word disp imm r

-- the same where an address gives three of the fields
pub data Located (a : Address) (kind size reg op : ℕ) (word : Bool) (imm r : ℕ) : Type 0 where
  unlocated : r ≡ 0 → Located a kind size reg op word imm r
  located : (rm seg disp : ℕ) → a ≡ address_at rm seg disp → size ≤ 8 → Fields r kind size rm reg op seg word disp imm → Located a kind size reg op word imm r

-- the same where a place gives them, which is a register or in memory
pub data Placed (p : Place) (held stored size reg op : ℕ) (word : Bool) (imm r : ℕ) : Type 0 where
  unplaced : r ≡ 0 → Placed p held stored size reg op word imm r
  register : (rm : ℕ) → p ≡ Register rm → size ≤ 8 → Fields r held size rm reg op 0 word 0 imm → Placed p held stored size reg op word imm r
  memory : (rm seg disp : ℕ) → p ≡ Memory (address_at rm seg disp) → size ≤ 8 → Fields r stored size rm reg op seg word disp imm
      → Placed p held stored size reg op word imm r
