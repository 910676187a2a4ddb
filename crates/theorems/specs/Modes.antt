-- What is said of the two modes.
use Rattle.std.specs.Prelude.{ℕ, ◌/◌, ◌≤◌, ◌<◌, ◌≡◌, true, false, List, ◌≢◌, length, get_or}
use Rattle.sheet.specs.declared.Instr.{Instr}
use Rattle.sheet.specs.declared.Instr.TheVariants.{Modes, Cards}
use Rattle.sheet.specs.declared.cards.CardMode.{CardMode}
use Rattle.sheet.specs.declared.cards.Card.TheVariants as cards
use Rattle.sheet.specs.declared.Mode.TheVariants.{Brkem}
use Rattle.sheet.specs.Width.{add16, sub16}
use Rattle.sheet.specs.Psw.{native_of, fixed_of}
use Rattle.sheet.specs.Registers.{AW, SP, IX, IY, DS1, PS, SS, DS0, PC}
use Rattle.sheet.specs.Memory.{physical, read_mem}
use Rattle.sheet.specs.World.{World, psw_of}
use Rattle.theorems.specs.Repeat.{reg}

-- fourteen words, native mode, and no permission to write MD
pub record Locked (w : World) : Type 0 where
  pub whole : length w.state.file ≡ 14
  pub native : native_of (psw_of w.state) ≡ true
  pub locked : w.state.marks.writable ≡ false

abbrev pub NotBrkem : Instr → Type 0
NotBrkem i = (vector : ℕ) → i ≢ Modes (Brkem vector)

-- ---- from BRKEM to RETEM

-- PSW, PS and PC
abbrev pub pushed_bytes : ℕ
pushed_bytes = 6

-- the native stack has room in RAM for the three words that BRKEM pushes
abbrev pub StackInRam : World → Type 0
StackInRam w = (j : ℕ) → j < pushed_bytes → physical (reg w SS) (add16 (sub16 (reg w SP) 6) j) < length w.ram

-- where BRKEM begins: fourteen words of sixteen bits, a good PSW, native mode, room on the stack
pub record Breaking (w : World) : Type 0 where
  pub whole : length w.state.file ≡ 14
  pub words : (i : ℕ) → get_or w.state.file i 0 ≤ 65535
  pub fixed : fixed_of (psw_of w.state) ≡ true
  pub native : native_of (psw_of w.state) ≡ true
  pub room : StackInRam w

-- a word of the native stack, n bytes above its top
abbrev pub stacked : World → ℕ → ℕ
stacked w n = read_mem true w.ram w.rom (reg w SS) (add16 (reg w SP) n)

-- SS, SP and the three words at its top are in v as in u; v has fourteen words
pub record SameStack (u v : World) : Type 0 where
  pub whole : length v.state.file ≡ 14
  pub ss : reg v SS ≡ reg u SS
  pub sp : reg v SP ≡ reg u SP
  pub first : stacked v 0 ≡ stacked u 0
  pub second : stacked v 2 ≡ stacked u 2
  pub third : stacked v 4 ≡ stacked u 4

-- PS, PC, PSW and SP are in v as in w, and the permission is taken back
pub record GivenBack (w v : World) : Type 0 where
  pub ps : reg v PS ≡ reg w PS
  pub pc : reg v PC ≡ reg w PC
  pub psw : psw_of v.state ≡ psw_of w.state
  pub sp : reg v SP ≡ reg w SP
  pub locked : v.state.marks.writable ≡ false

-- ---- in the 8080 mode

-- SP, IX, IY and the segment registers, for which no register of the 8080 stands
pub data Unmapped : ℕ → Type 0 where
  is_sp : Unmapped SP
  is_ix : Unmapped IX
  is_iy : Unmapped IY
  is_ds1 : Unmapped DS1
  is_ps : Unmapped PS
  is_ss : Unmapped SS
  is_ds0 : Unmapped DS0

-- they and AH are in the registers g as in f
pub record Unaffected (f g : List ℕ) : Type 0 where
  pub same : (n : ℕ) → Unmapped n → get_or g n 0 ≡ get_or f n 0
  pub ah : get_or g AW 0 / 256 ≡ get_or f AW 0 / 256

-- neither CALLN nor RETEM
abbrev pub NotMode : Instr → Type 0
NotMode i = (c : CardMode) → i ≢ Cards (cards.Modes c)
