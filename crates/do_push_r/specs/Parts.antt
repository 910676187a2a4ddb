-- The halves of PUSH R and POP R.
use Rattle.std.specs.Prelude.{ℕ}
use Rattle.sheet.specs.Registers.{AW, CW, DW, BW, BP, IX, IY}
use Rattle.sheet.specs.Act.{Act, ◌>>=◌, ◌>>◌}
use Rattle.sheet.specs.Traps.{push, pop, pop_into}

unfoldable pub push_two : ℕ → ℕ → Act Unit
push_two x y = do
  push x
  push y

unfoldable pub push_four : (a b c d : ℕ) → Act Unit
push_four a b c d = do
  push_two a b
  push_two c d

-- the word that stands for SP is handed on
unfoldable pub pop_pointers : Act ℕ
pop_pointers = do
  pop_into IY
  pop_into IX
  pop_into BP
  pop

unfoldable pub pop_general : Act Unit
pop_general = do
  pop_into BW
  pop_into DW
  pop_into CW
  pop_into AW
