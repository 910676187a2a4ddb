-- What m places to the right come to, kind by kind.
use mathlib.Core.Path.{◌≡◌, refl, sym, ap, ◌∙◌}
use mathlib.Core.Bool.{Bool, true, false}
use Prim.Native.Nat.{ℕ, zero, suc, ◌+◌, ◌-◌, ◌*◌, ◌/◌, ◌%◌, ◌^◌, ◌≤◌, ◌<◌}
use native.Mathlib.Nat.{add-zero, zero-mul, mul-zero, div-one, lt_of_le_of_lt, le-div_iff_mul-le}
use native.Mathlib.Numerals.{add-one}
use native.Mathlib.Omega.{arith}
use borrow.Author.Tests.{leb-true, leb-false, le-leb, lt-leb, eqb-true, eqb-false}
use lib.Dec.{eqb, leb}
use lib.Pow.{pow_pos, suc_ones, shr_le}
use Rattle.base_at_once.specs.AtOnce.{down_by, one_right, right_by}
use Rattle.base_at_once.proofs.Scaled.{down_more}
use Rattle.sheet.specs.declared.Shift.TheVariants.{Ror, Rorc, Shr, Shra}
use Rattle.sheet.specs.declared.Turn.{Turn}
use Rattle.sheet.specs.Width.{pick, mod_of, half_of, sign_of, odd}
use Rattle.sheet.specs.Shift.{turn, comes_in, to_right, one_place, many_places}
use Rattle.calc_shift_at_once.specs.BeforeLast.{BeforeLast, width_of, joined, part_of}
use Rattle.calc_shift_at_once.proofs.Joined.{part_joined}
use Rattle.calc_shift_at_once.proofs.Places.{shr_value}

-- ---- SHR and SHRA: halved, with 0 or the sign coming in above

-- what comes in above, m times
abbrev above : Bool → Bool → ℕ
above w s = pick s (mod_of w) 0

halved : (w s : Bool) (n x : ℕ) → down_by n (above w s) x / 2 + pick s (half_of w) 0 ≡ down_by (suc n) (above w s) x
halved true true n x = down_more n 32768 x
halved false true n x = down_more n 128 x
halved w false n x = down_more n 0 x

none_above : (n x : ℕ) → down_by n 0 x ≡ x / 2 ^ n
unfolding down_by
none_above n x = rw (zero-mul (2 ^ n - 1), add-zero x)

none_yet : (m x : ℕ) → x ≡ down_by 0 m x
unfolding down_by
none_yet m x = sym (rw (mul-zero m, add-zero x) (div-one x))

-- none of them changes the sign
stays : (h q x : ℕ) → h ≤ x → h * suc q ≤ x + 2 * h * q
stays h q x l = omega arith

sign_stays : (h n x : ℕ) → h ≤ x → h ≤ down_by n (2 * h) x
unfolding down_by
sign_stays h n x l = (le-div_iff_mul-le (pow_pos n)).1 (rw suc_ones at (stays h (2 ^ n - 1) x l))

sign_down : (w s : Bool) (n x : ℕ) → leb (half_of w) x ≡ s → leb (half_of w) (down_by n (above w s) x) ≡ s
sign_down true true n x e = le-leb 32768 _ (sign_stays 32768 n x (leb-true 32768 x e))
sign_down false true n x e = le-leb 128 _ (sign_stays 128 n x (leb-true 128 x e))
sign_down w false n x e =
    let l = leb-false (half_of w) x e in
    lt-leb (half_of w) _ (rw (none_above n x) (lt_of_le_of_lt (shr_le x n) l))

shr_down : (w : Bool) (n : ℕ) (t : Turn) → (many_places Shr w n t).value ≡ down_by n 0 t.value
shr_down w n t = shr_value w n t ∙ sym (none_above n t.value)

pub shra_value : (w s : Bool) (n : ℕ) (t : Turn) → sign_of w t.value ≡ s → (many_places Shra w n t).value ≡ down_by n (above w s) t.value
unfolding many_places one_place comes_in to_right sign_of
shra_value w s zero t e = none_yet (above w s) t.value
shra_value w s (suc n) t e = rw (shra_value w s n t e, sign_down w s n t.value e) (halved w s n t.value)

pub shr_last : (w : Bool) (m : ℕ) (t r : Turn) → r.value ≡ down_by m 0 t.value → BeforeLast Shr w m t r
unfolding many_places one_place comes_in
shr_last w m t r e = record { last = rw (e, shr_down w m t) }

pub shra_last : (w : Bool) (m : ℕ) (t r : Turn) → r.value ≡ down_by m (pick (sign_of w t.value) (mod_of w) 0) t.value → BeforeLast Shra w m t r
unfolding many_places one_place comes_in
shra_last w m t r e = record { last = rw (e, shra_value w (sign_of w t.value) m t refl) }

-- ---- ROR: turned round

parity : (b : Bool) (y h : ℕ) → eqb (y % 2) 1 ≡ b → y / 2 + pick b h 0 ≡ y / 2 + y % 2 * h
parity true y h e = rw (eqb-true (y % 2) 1 e) (omega arith)
parity false y h e =
    let n = eqb-false (y % 2) 1 e in
    let z : y % 2 ≡ 0 = omega arith in
    rw z (omega arith)

pub ror_turned : (w : Bool) (n : ℕ) (t : Turn) → (many_places Ror w n t).value ≡ right_by (width_of w) n t.value
unfolding many_places one_place comes_in to_right right_by one_right
ror_turned w zero t = refl
ror_turned true (suc n) t = rw (ror_turned true n t) (parity _ (right_by 16 n t.value) 32768 refl)
ror_turned false (suc n) t = rw (ror_turned false n t) (parity _ (right_by 8 n t.value) 128 refl)

pub ror_last : (w : Bool) (m : ℕ) (t r : Turn) → r.value ≡ right_by (width_of w) m t.value → BeforeLast Ror w m t r
unfolding many_places one_place comes_in
ror_last w m t r e = record { last = rw (e, ror_turned w m t) }

-- ---- RORC: turned round with CY above

join_half : (w c : Bool) (x : ℕ) → (x + pick c (mod_of w) 0) / 2 ≡ x / 2 + pick c (half_of w) 0
join_half true true x = omega arith
join_half false true x = omega arith
join_half w false x = omega arith

join_low : (w c : Bool) (x : ℕ) → (x + pick c (mod_of w) 0) % 2 ≡ x % 2
join_low true true x = omega arith
join_low false true x = omega arith
join_low w false x = omega arith

-- only the two together matter
rorc_by : (w : Bool) (t : Turn) → one_place Rorc w t ≡ turn (joined w t / 2) (odd (joined w t))
unfolding one_place comes_in to_right joined
rorc_by w t = sym (rw (join_half w t.cy t.value, join_low w t.cy t.value))

rorc_one : (w : Bool) (t : Turn) → joined w (one_place Rorc w t) ≡ one_right (suc (width_of w)) (joined w t)
unfolding joined one_right
rorc_one true t = rw (rorc_by true t) (parity _ (joined true t) 65536 refl)
rorc_one false t = rw (rorc_by false t) (parity _ (joined false t) 256 refl)

pub rorc_turned : (w : Bool) (n : ℕ) (t : Turn) → joined w (many_places Rorc w n t) ≡ right_by (suc (width_of w)) n (joined w t)
unfolding many_places right_by
rorc_turned w zero t = refl
rorc_turned w (suc n) t = rorc_one w (many_places Rorc w n t) ∙ ap (one_right (suc (width_of w))) (rorc_turned w n t)

rorc_alike : (w : Bool) (t u : Turn) → joined w t ≡ joined w u → one_place Rorc w t ≡ one_place Rorc w u
rorc_alike w t u e = rw (rorc_by w t, rorc_by w u, e)

pub rorc_last : (w : Bool) (m : ℕ) (t r : Turn) → joined w r ≡ right_by (suc (width_of w)) m (joined w t) → BeforeLast Rorc w m t r
unfolding many_places
rorc_last w m t r e = record { last = rorc_alike w r (many_places Rorc w m t) (e ∙ sym (rorc_turned w m t)) }

-- ---- as the code has it

pub ror_fits : (w : Bool) (n x : ℕ) → x < 65536 → right_by (width_of w) n x < 65536
unfolding right_by one_right
ror_fits w zero x h = h
ror_fits true (suc n) x h = let l = ror_fits true n x h in omega arith
ror_fits false (suc n) x h = let l = ror_fits false n x h in omega arith

pub rorc_fits : (w : Bool) (n x : ℕ) → x < mod_of w + 65536 → right_by (suc (width_of w)) n x < mod_of w + 65536
unfolding right_by one_right
rorc_fits w zero x h = h
rorc_fits true (suc n) x h = let l = rorc_fits true n x h in omega arith
rorc_fits false (suc n) x h = let l = rorc_fits false n x h in omega arith

pub ror_room : (w : Bool) (b x : ℕ) → b ≡ width_of w → x < 65536 → (0 < b) × ((b ≤ 17) × ((x < 131072) × (x < 2 ^ (b + b))))
ror_room true b x e h = rw e (omega arith)
ror_room false b x e h = rw e (omega arith)

join_lt : (w c : Bool) (x : ℕ) → x < 65536 → x + pick c (mod_of w) 0 < mod_of w + 65536
join_lt true true x h = omega arith
join_lt false true x h = omega arith
join_lt w false x h = omega arith

pub rorc_room : (w c : Bool) (b x j : ℕ) → b ≡ width_of w → j ≡ x + pick c (mod_of w) 0 → x < 65536 → (0 < b + 1) × ((b + 1 ≤ 17) × ((j < 131072) × (j < 2 ^ (b + 1 + (b + 1)))))
rorc_room true c b x j e g h = let l = join_lt true c x h in rw (e, g) (omega arith)
rorc_room false c b x j e g h = let l = join_lt false c x h in rw (e, g) (omega arith)

pub ror_cast : (w : Bool) (b n x y : ℕ) → b ≡ width_of w → y ≡ right_by b n x → x < 65536 → y < 65536
ror_cast w b n x y e f h = rw (f, e) (ror_fits w n x h)

pub rorc_cast : (w c : Bool) (b n x j y : ℕ) → b ≡ width_of w → j ≡ x + pick c (mod_of w) 0 → y ≡ right_by (b + 1) n j → x < 65536 → y < mod_of w + 65536
rorc_cast w c b n x j y e g f h = rw (f, g, e, add-one (width_of w)) (rorc_fits w n (x + pick c (mod_of w) 0) (join_lt w c x h))

pub ror_is : (w : Bool) (b m y : ℕ) (t r : Turn) → b ≡ width_of w → y ≡ right_by b m t.value → r.value ≡ y → BeforeLast Ror w m t r
ror_is w b m y t r e f g = ror_last w m t r (rw (← e) (g ∙ f))

pub rorc_is : (w : Bool) (b m x y : ℕ) (t r : Turn) → b ≡ width_of w → x ≡ t.value + pick t.cy (mod_of w) 0 → y ≡ right_by (b + 1) m x → r ≡ part_of w y → BeforeLast Rorc w m t r
unfolding joined
rorc_is w b m x y t r e f g k =
    let whole : y ≡ right_by (suc (width_of w)) m (t.value + pick t.cy (mod_of w) 0) = rw (← e, ← add-one b, ← f) g in
    rw k (rorc_last w m t (part_of w y) (part_joined w y ∙ whole))

pub shra_is : (w s : Bool) (m a : ℕ) (t r : Turn) → s ≡ sign_of w t.value → a ≡ pick s (mod_of w) 0 → r.value ≡ down_by m a t.value → BeforeLast Shra w m t r
shra_is w s m a t r e f g = shra_last w m t r (rw (← e, ← f) g)
