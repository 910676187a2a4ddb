-- Numbers of two and four bytes, the lowest byte first.
use Rattle.std.specs.Prelude.{ℕ, ◌+◌, ◌*◌, ◌/◌, ◌%◌, List, get_or, set}

unfoldable pub word_of : ℕ → ℕ → ℕ
word_of low high = low + 256 * high

unfoldable pub word_at : List ℕ → ℕ → ℕ
word_at l at = word_of (get_or l at 0) (get_or l (at + 1) 0)

unfoldable pub double_of : ℕ → ℕ → ℕ
double_of low high = low + 65536 * high

unfoldable pub double_at : List ℕ → ℕ → ℕ
double_at l at = double_of (word_at l at) (word_at l (at + 2))

unfoldable pub word_put : List ℕ → ℕ → ℕ → List ℕ
word_put l at value = set (set l at (value % 256)) (at + 1) (value / 256)

unfoldable pub double_put : List ℕ → ℕ → ℕ → List ℕ
double_put l at value = word_put (word_put l at (value % 65536)) (at + 2) (value / 65536)
