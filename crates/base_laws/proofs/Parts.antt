-- The laws of a part that is lent and comes back. Assumes nothing.
use mathlib.Core.Path.{◌≡◌, ◌∙◌}
use mathlib.Core.List.{List, ◌++◌, append-nil, append_assoc}
use Prim.Native.Nat.{ℕ, ◌+◌, ◌-◌, ◌≤◌}
use native.Mathlib.Omega.{arith}
use lib.ListN.{length, take, drop, length-append, length-drop, drop_of_length-le}
use lib.Seq.{take_all, take_at, drop_at, drop-drop}
use borrow.Rule.Slice.PartMut.{put_mid}
use Rattle.base_laws.specs.Writes.{over}

-- what a callee that is lent `&s[at..]` gets
pub rest : (at : ℕ) (s : List ℕ) → take (length s - at) (drop at s) ≡ drop at s
rest at s = take_all (length s - at) (drop at s) (rw (length-drop at s) (omega arith))

-- s once `&mut s[at..]` has come back at z
pub back : (at : ℕ) (s z : List ℕ) → put_mid at (length s - at) s z ≡ take at s ++ z
back at s z = rw (drop_of_length-le (drop at s) {i = length s - at} (rw (length-drop at s) (omega arith)), append-nil z)

pub length_over : (b s : List ℕ) → length b ≤ length s → length (over b s) ≡ length s
length_over b s h = rw (length-append, length-drop) (omega arith)

-- l is s with b over its start; then c was written over the start of the part after b, which came back at z
pub over_more : (at : ℕ) (b c s l z : List ℕ) → length b ≡ at → l ≡ over b s → z ≡ over c (take (length l - at) (drop at l))
    → put_mid at (length l - at) l z ≡ over (b ++ c) s
over_more at b c s l z n e f =
    back at l z
    ∙ rw (f, rest at l, e, take_at b (drop (length b) s) at n, drop_at b (drop (length b) s) at n, drop-drop (length c) (length b) s, ← append_assoc b c (drop (length b + length c) s), ← length-append b c)
