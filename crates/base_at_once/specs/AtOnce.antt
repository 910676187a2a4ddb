-- Numbers moved place by place, and at once.
use Rattle.std.specs.Prelude.{ℕ, zero, suc, pred, ◌+◌, ◌-◌, ◌*◌, ◌/◌, ◌%◌, ◌^◌}

-- halved n times, where each time half of m comes in above
unfoldable pub down_by : ℕ → ℕ → ℕ → ℕ
down_by n m x = (x + m * (2 ^ n - 1)) / 2 ^ n

-- one place to the right among so many bits: the lowest becomes the highest
unfoldable pub one_right : ℕ → ℕ → ℕ
one_right bits x = x / 2 + x % 2 * 2 ^ pred bits

-- n places, one after the other
unfoldable pub right_by : ℕ → ℕ → ℕ → ℕ
right_by bits zero x = x
right_by bits (suc n) x = one_right bits (right_by bits n x)

-- r places at once among r + s bits: the r low bits come to stand above the s others
unfoldable pub around : ℕ → ℕ → ℕ → ℕ
around r s x = x / 2 ^ r + x % 2 ^ r * 2 ^ s

-- whole turns among so many bits: what lies beyond them comes in below, and after two turns nothing does
unfoldable pub turns : ℕ → ℕ → ℕ → ℕ
turns bits zero x = x
turns bits (suc zero) x = around bits 0 x
turns bits (suc (suc q)) x = around bits 0 (around bits 0 x)
