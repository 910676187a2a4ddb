-- The image that lines name.
use Rattle.std.specs.Prelude.{ℕ, ◌+◌, ◌-◌, ◌*◌, ◌%◌, List, [], ◌∷◌, Bool, not, ◌&&◌, leb, ltb, eqb}
use Rattle.sheet.specs.Width.{pick, odd}

unfoldable pub digit_of : ℕ → ℕ
digit_of c = pick (ltb c 58) (c - 48) (c - 55) % 16

-- a byte's digits stand in columns 6 to 23, and are followed by spaces
unfoldable pub is_digit : (column c : ℕ) → Bool
is_digit column c = leb 6 column && (ltb column 24 && not (eqb c 32))

-- from a column on, after a byte's first digit h
unfoldable pub restored_from : (column h : ℕ) → List ℕ → List ℕ
restored_from column h [] = []
restored_from column h (c ∷ t) =
    pick (eqb c 10) (restored_from 0 0 t) (
    pick (is_digit column c)
    (pick (odd column) ((16 * h + digit_of c) ∷ restored_from (column + 1) 0 t) (restored_from (column + 1) (digit_of c) t))
    (restored_from (column + 1) h t))

unfoldable pub restored : List ℕ → List ℕ
restored lines = restored_from 0 0 lines
