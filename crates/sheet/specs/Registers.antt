-- The register file by number: the eight general registers as Table 8-6 numbers them, the segment registers as Table 8-7 does, PC.
-- 001:439-497, 1168-1191; 01:13
use Rattle.std.specs.Prelude.{ℕ, ◌+◌, ◌*◌, ◌/◌, ◌%◌, Bool, true, false, List, get_or, set, ltb}
use Rattle.sheet.specs.Width.{pick}

abbrev pub AW : ℕ
AW = 0

abbrev pub CW : ℕ
CW = 1

abbrev pub DW : ℕ
DW = 2

abbrev pub BW : ℕ
BW = 3

abbrev pub SP : ℕ
SP = 4

abbrev pub BP : ℕ
BP = 5

abbrev pub IX : ℕ
IX = 6

abbrev pub IY : ℕ
IY = 7

abbrev pub DS1 : ℕ
DS1 = 8

abbrev pub PS : ℕ
PS = 9

abbrev pub SS : ℕ
SS = 10

abbrev pub DS0 : ℕ
DS0 = 11

abbrev pub PC : ℕ
PC = 12

-- PSW is the fourteenth word that a state holds, and no register of the file
abbrev pub PSW : ℕ
PSW = 13

-- what an instruction may read freely: a word for each register's number
abbrev pub File : Type 0
File = ℕ → ℕ

abbrev pub file_of : List ℕ → File
file_of words n = pick (ltb n PSW) (get_or words n 0) 0

abbrev pub written : List ℕ → ℕ → ℕ → List ℕ
written words n v = pick (ltb n PSW) (set words n v) words

-- the segment register that a two-bit number names
abbrev pub segment : ℕ → ℕ
segment n = DS1 + n % 4

-- a segment's two-bit number
abbrev pub in_ds1 : ℕ
in_ds1 = 0

abbrev pub in_ps : ℕ
in_ps = 1

abbrev pub in_ss : ℕ
in_ss = 2

abbrev pub in_ds0 : ℕ
in_ds0 = 3

-- the word register in which the register of a width that n names stands
abbrev pub reg_index : Bool → ℕ → ℕ
reg_index true n = n % 8
reg_index false n = n % 4

-- what it holds: of bytes, 0 to 3 are the low and 4 to 7 the high halves of AW CW DW BW
unfoldable pub read_reg : Bool → File → ℕ → ℕ
read_reg true r n = r (reg_index true n)
read_reg false r n = pick (ltb (n % 8) 4) (r (reg_index false n) % 256) (r (reg_index false n) / 256)

-- what that word register holds once v is written
unfoldable pub reg_word : Bool → File → ℕ → ℕ → ℕ
reg_word true r n v = v
reg_word false r n v = pick (ltb (n % 8) 4) (r (reg_index false n) / 256 * 256 + v % 256) (v % 256 * 256 + r (reg_index false n) % 256)

-- the byte registers that instructions name themselves
abbrev pub AL : ℕ
AL = 0

abbrev pub CL : ℕ
CL = 1

abbrev pub AH : ℕ
AH = 4
