-- What a case's buffers hold: sums and patches.
use Rattle.std.specs.Prelude.{ℕ, zero, suc, ◌+◌, ◌*◌, ◌%◌, Bool, true, cond, ◌&&◌, List, get_or, set, eqb, leb, fold}
use Rattle.std.specs.Int.Bits.{bit_xor}
use Rattle.case_bytes.specs.Numbers.{double_at}

-- a sum with one byte more, by FNV-1a over 32 bits
unfoldable pub mixed : ℕ → ℕ → ℕ
mixed sum byte = bit_xor sum byte * 16777619 % 4294967296

unfoldable pub sum_of : ℕ → List ℕ → ℕ
sum_of sum bytes = fold mixed sum bytes

-- whether so many patches are of the kinds 0 RAM, 1 ROM, 2 log
unfoldable pub kinds_of : List ℕ → ℕ → Bool
kinds_of patches zero = true
kinds_of patches (suc n) = kinds_of patches n && leb (get_or patches (n * 6) 0) 2

-- a buffer after the patch at a place: kind, index, value; a patch of another kind, or one past the end, changes nothing
unfoldable pub patched_at : ℕ → List ℕ → ℕ → List ℕ → List ℕ
patched_at kind patches at l = cond (eqb (get_or patches at 0) kind) (set l (double_at patches (at + 1)) (get_or patches (at + 5) 0)) l

-- a buffer after so many patches
unfoldable pub patched : ℕ → List ℕ → ℕ → List ℕ → List ℕ
patched kind patches zero l = l
patched kind patches (suc n) l = patched_at kind patches (n * 6) (patched kind patches n l)
