-- One line of Intel HEX. A line is given by the text from its first character on; past the end of the text every character is 0.
use Rattle.std.specs.Prelude.{ℕ, zero, suc, ◌+◌, ◌-◌, ◌*◌, ◌%◌, Bool, true, ◌&&◌, List, get_or, ltb, eqb}
use Rattle.sheet.specs.Width.{pick}

-- whether f holds below k
unfoldable pub all : (ℕ → Bool) → ℕ → Bool
all f zero = true
all f (suc k) = all f k && f k

-- the sum of f below k in a byte
unfoldable pub sum : (ℕ → ℕ) → ℕ → ℕ
sum f zero = 0
sum f (suc k) = (sum f k + f k) % 256

-- the value of a digit of either case; 16 for any other character
unfoldable pub digit : ℕ → ℕ
digit c =
    pick (ltb c 48) 16 (
    pick (ltb c 58) (c - 48) (
    pick (ltb c 65) 16 (
    pick (ltb c 71) (c - 55) (
    pick (ltb c 97) 16 (
    pick (ltb c 103) (c - 87) 16)))))

-- whether a digit stands at a place behind the colon
unfoldable pub digit_at : List ℕ → ℕ → Bool
digit_at s i = ltb (digit (get_or s (i + 1) 0)) 16

-- the line's bytes, two digits each: size, offset (two), kind, data, checksum
unfoldable pub byte : List ℕ → ℕ → ℕ
byte s i = (16 * digit (get_or s (2 * i + 1) 0) + digit (get_or s (2 * i + 2) 0)) % 256

unfoldable pub size : List ℕ → ℕ
size s = byte s 0

unfoldable pub offset : List ℕ → ℕ
offset s = 256 * byte s 1 + byte s 2

unfoldable pub kind : List ℕ → ℕ
kind s = byte s 3

-- how many characters end a line at a place: LF, or CR and LF; 0 where no line ends
unfoldable pub ending : List ℕ → ℕ → ℕ
ending s i = pick (eqb (get_or s i 0) 10) 1 (pick (eqb (get_or s i 0) 13 && eqb (get_or s (i + 1) 0) 10) 2 0)

-- the line's characters before its end, and with it
unfoldable pub width : List ℕ → ℕ
width s = 2 * size s + 11

unfoldable pub span : List ℕ → ℕ
span s = width s + ending s (width s)

-- kind 00 holds data; 01 ends the text; 02 holds a segment: neither of these two has an offset
unfoldable pub taken : (kind offset size : ℕ) → Bool
taken k o n = pick (eqb k 0) true (eqb o 0 && pick (eqb k 1) (eqb n 0) (eqb k 2 && eqb n 2))

-- a colon, digits, and the line's end behind them
unfoldable pub written : List ℕ → Bool
written s = eqb (get_or s 0 0) 58 && (all (digit_at s) (2 * size s + 10) && ltb 0 (ending s (width s)))

unfoldable pub formed : List ℕ → Bool
formed s = written s && taken (kind s) (offset s) (size s)

-- the sum of all bytes, the checksum with them, is 0
unfoldable pub summed : List ℕ → Bool
summed s = eqb (sum (byte s) (size s + 5)) 0
