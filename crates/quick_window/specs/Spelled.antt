-- A number that is made of bytes.
use Rattle.std.specs.Prelude.{ℕ, ◌+◌, ◌<◌, ◌≡◌, List, get_or}
use Rattle.quick_place.specs.Packed.{byte_of}

-- n bytes of a source from the ith on, the lowest first
pub record Spells (src : ℕ → ℕ) (i n w : ℕ) : Type 0 where
  pub at : (j : ℕ) → j < n → byte_of w j ≡ src (i + j)

abbrev pub listed : List ℕ → ℕ → ℕ
listed s i = get_or s i 0
