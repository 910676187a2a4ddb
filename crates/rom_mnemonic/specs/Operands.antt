-- Operands as text.
use Rattle.std.specs.Prelude.{ℕ, ◌+◌, ◌*◌, ◌%◌, Bool, true, List, [], ◌∷◌, ◌++◌, get_or, eqb, Option, Some, None}
use Rattle.sheet.specs.declared.Address.{Address}
use Rattle.sheet.specs.declared.Address.TheVariants.{Formed, Direct}
use Rattle.sheet.specs.declared.Form.{Form}
use Rattle.sheet.specs.Width.{pick}
use Rattle.sheet.specs.Operand.{form_at}
use Rattle.base_text.specs.Text.{text, hex}
use Rattle.rom_mnemonic.specs.declared.Size.{Size}
use Rattle.rom_mnemonic.specs.declared.Size.TheVariants.{Unsaid, Byte, Word, Pair}
use Rattle.rom_mnemonic.specs.declared.Operand.{Operand}
use Rattle.rom_mnemonic.specs.declared.Operand.TheVariants.{Reg, Seg, Mem, Block, Value, Once, Target, Far}

-- ---- names, in the order of Tables 8-6 and 8-7

-- two letters a register
abbrev pub byte_registers : List ℕ
byte_registers = text "ALCLDLBLAHCHDHBH"

abbrev pub word_registers : List ℕ
word_registers = text "AWCWDWBWSPBPIXIY"

unfoldable pub letter : Bool → ℕ → ℕ
letter w i = get_or (pick w word_registers byte_registers) i 0

unfoldable pub register_text : Bool → ℕ → List ℕ
register_text w n = letter w (2 * (n % 8)) ∷ letter w (2 * (n % 8) + 1) ∷ []

abbrev pub segments : List (List ℕ)
segments = text "DS1" ∷ text "PS" ∷ text "SS" ∷ text "DS0" ∷ []

unfoldable pub segment_text : ℕ → List ℕ
segment_text n = get_or segments (n % 4) []

-- ---- memory

unfoldable pub size_text : Size → List ℕ
size_text Unsaid = []
size_text Byte = text "BYTE "
size_text Word = text "WORD "
size_text Pair = text "DWORD "

unfoldable pub index_text : Option ℕ → List ℕ
index_text (Some n) = text "+" ++ register_text true n
index_text None = []

unfoldable pub form_text : Form → List ℕ
form_text f = register_text true f.base ++ index_text f.index

-- a displacement of 0 is not typed
unfoldable pub disp_text : ℕ → List ℕ
disp_text disp = pick (eqb disp 0) [] (text "+" ++ hex 4 disp)

-- a segment, up to the offset in it
unfoldable pub opening : ℕ → List ℕ
opening seg = segment_text seg ++ text ":["

-- in a segment, what is given by an offset's text
unfoldable pub within : ℕ → List ℕ → List ℕ
within seg offset = opening seg ++ (offset ++ text "]")

unfoldable pub formed_text : ℕ → ℕ → List ℕ
formed_text form disp = form_text (form_at form) ++ disp_text disp

unfoldable pub address_text : Address → List ℕ
address_text (Formed seg form disp) = within seg (formed_text form disp)
address_text (Direct seg offset) = within seg (hex 4 offset)

-- ---- all operands

unfoldable pub size_of : Bool → Size
size_of w = pick w Word Byte

unfoldable pub operand_text : Operand → List ℕ
operand_text (Reg w n) = register_text w n
operand_text (Seg n) = segment_text n
operand_text (Mem size at) = size_text size ++ address_text at
operand_text (Block w seg by) = size_text (size_of w) ++ within seg (register_text true by)
operand_text (Value w v) = hex (pick w 4 2) v
operand_text Once = text "1"
operand_text (Target a) = hex 5 a
operand_text (Far ps pc) = hex 4 ps ++ (text ":" ++ hex 4 pc)
