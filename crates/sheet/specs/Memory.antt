-- The address space: RAM from address 0, ROM up to FFFFFh, FFh elsewhere; writes outside RAM are dropped.
-- 01:16-17, 66; 02 b
use Rattle.std.specs.Prelude.{ℕ, ◌+◌, ◌-◌, ◌*◌, ◌/◌, ◌%◌, Bool, true, false, List, length, get_or, set, ltb, leb}
use Rattle.sheet.specs.Width.{pick, add16}

-- segment x 16 + offset, modulo 1,048,576
abbrev pub physical : ℕ → ℕ → ℕ
physical seg off = (seg * 16 + off) % 1048576

-- the offset of the next byte, in the same segment
abbrev pub next : ℕ → ℕ
next off = add16 off 1

unfoldable pub byte_at : List ℕ → List ℕ → ℕ → ℕ
byte_at ram rom a =
    pick (ltb a (length ram)) (get_or ram a 0) (pick (leb 1048576 (a + length rom)) (get_or rom (a + length rom - 1048576) 0) 255)

-- a byte, or a word with its low byte first
unfoldable pub read_mem : Bool → List ℕ → List ℕ → ℕ → ℕ → ℕ
read_mem false ram rom seg off = byte_at ram rom (physical seg off)
read_mem true ram rom seg off = byte_at ram rom (physical seg off) + 256 * byte_at ram rom (physical seg (next off))

-- `set` past the end of RAM changes nothing: such a write is dropped
unfoldable pub write_mem : Bool → List ℕ → ℕ → ℕ → ℕ → List ℕ
write_mem false ram seg off v = set ram (physical seg off) (v % 256)
write_mem true ram seg off v = set (set ram (physical seg off) (v % 256)) (physical seg (next off)) (v / 256 % 256)

-- bus cycles of one access: a byte 1; a word at an even address 1, at an odd one 2
unfoldable pub bus_cycles : Bool → ℕ → ℕ
bus_cycles false off = 1
bus_cycles true off = 1 + off % 2

-- whether a byte that is written at an address is dropped, as a number, and how many bytes of one write are
unfoldable pub lost : List ℕ → ℕ → ℕ
lost ram a = pick (ltb a (length ram)) 0 1

unfoldable pub lost_bytes : Bool → List ℕ → ℕ → ℕ → ℕ
lost_bytes false ram seg off = lost ram (physical seg off)
lost_bytes true ram seg off = lost ram (physical seg off) + lost ram (physical seg (next off))
