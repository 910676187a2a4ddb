-- What calls are given: the widths of the state, of lent bytes, and of the numbers of a call.
-- 01:13, 17, 29, 31; 02 c
use Rattle.std.specs.Prelude.{ℕ, Bool, true, ◌&&◌, List, [], ◌∷◌, length, eqb, leb}
use Rattle.sheet.specs.World.{World}

-- the numbers of a buffer are at most n
abbrev pub every : ℕ → List ℕ → Bool
every n [] = true
every n (x ∷ l) = leb x n && every n l

-- fourteen words of 16 bits, a count and two places as code holds them (u32, usize), and buffers of bytes
abbrev pub lendable : World → Bool
lendable w =
    eqb (length w.state.file) 14
    && (every 65535 w.state.file
    && (leb w.state.progress.count 4294967295
    && (leb w.state.progress.tape 18446744073709551615
    && (leb w.state.progress.log 18446744073709551615 && (every 255 w.ram && (every 255 w.rom && (every 255 w.tape && every 255 w.log)))))))

-- the vector of an interrupt call, and the budget of a run
abbrev pub vector_top : ℕ
vector_top = 255

abbrev pub budget_top : ℕ
budget_top = 65535
