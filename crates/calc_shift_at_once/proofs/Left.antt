-- What m places to the left come to, kind by kind.
use mathlib.Core.Path.{◌≡◌, refl, sym, ap, ◌∙◌}
use mathlib.Core.Bool.{Bool, true, false}
use Prim.Native.Nat.{ℕ, zero, suc, ◌+◌, ◌*◌, ◌/◌, ◌%◌, ◌^◌, ◌≤◌, ◌<◌}
use native.Mathlib.Nat.{add-mod_right, mod-eq_of_lt}
use native.Mathlib.Numerals.{add-one}
use native.Mathlib.Omega.{arith}
use borrow.Author.Tests.{leb-true, leb-false, le-leb, lt-leb, eqb-true, eqb-false}
use lib.Dec.{eqb, leb}
use Rattle.base_at_once.specs.AtOnce.{one_right, right_by}
use Rattle.base_at_once.proofs.Round.{right_lt}
use Rattle.calc_word.proofs.WidthLaws.{wrap_lt}
use Rattle.sheet.specs.declared.Shift.{Shift}
use Rattle.sheet.specs.declared.Shift.TheVariants.{Rol, Rolc, Shl}
use Rattle.sheet.specs.declared.Turn.{Turn}
use Rattle.sheet.specs.Width.{pick, mod_of, half_of, wrap_of, sign_of, odd}
use Rattle.sheet.specs.Psw.{bit}
use Rattle.sheet.specs.Shift.{turn, comes_in, to_left, one_place, many_places}
use Rattle.calc_shift_at_once.specs.BeforeLast.{BeforeLast, width_of, fit_of, joined, part_of}
use Rattle.calc_shift_at_once.proofs.Joined.{part_joined, part_lt}
use Rattle.calc_shift_at_once.proofs.Places.{many_first, shl_value}

-- ---- a number within the width goes the same way

fit_sign : (w s : Bool) (x : ℕ) → leb (half_of w) x ≡ s → leb (half_of w) (x % half_of w + pick s (half_of w) 0) ≡ s
fit_sign true true x e = le-leb 32768 (x % 32768 + 32768) (omega arith)
fit_sign false true x e = le-leb 128 (x % 128 + 128) (omega arith)
fit_sign true false x e = lt-leb 32768 (x % 32768 + 0) (omega arith)
fit_sign false false x e = lt-leb 128 (x % 128 + 0) (omega arith)

fit_double : (w s : Bool) (x b : ℕ) → leb (half_of w) x ≡ s → (2 * (x % half_of w + pick s (half_of w) 0) + b) % mod_of w ≡ (2 * x + b) % mod_of w
fit_double true true x b e = omega arith
fit_double false true x b e = omega arith
fit_double true false x b e = let l = leb-false 32768 x e in omega arith
fit_double false false x b e = let l = leb-false 128 x e in omega arith

pub fit_lt : (w : Bool) (x : ℕ) → fit_of w x < mod_of w
unfolding fit_of
fit_lt w x = within w (sign_of w x) x
  where
    within : (w s : Bool) (x : ℕ) → x % half_of w + pick s (half_of w) 0 < mod_of w
    within true true x = omega arith
    within false true x = omega arith
    within true false x = omega arith
    within false false x = omega arith

sign_fit : (w : Bool) (x : ℕ) → sign_of w (fit_of w x) ≡ sign_of w x
unfolding sign_of fit_of
sign_fit w x = fit_sign w (leb (half_of w) x) x refl

double_fit : (w b : Bool) (x : ℕ) → (2 * fit_of w x + bit b) % mod_of w ≡ (2 * x + bit b) % mod_of w
unfolding fit_of sign_of
double_fit w b x = fit_double w (leb (half_of w) x) x (bit b) refl

left_fit : (w b : Bool) (x : ℕ) → to_left w b (fit_of w x) ≡ to_left w b x
unfolding to_left wrap_of
left_fit w b x = rw (sign_fit w x, double_fit w b x)

abbrev fitted : Bool → Turn → Turn
fitted w t = turn (fit_of w t.value) t.cy

rol_fit : (w : Bool) (t : Turn) → one_place Rol w (fitted w t) ≡ one_place Rol w t
unfolding one_place comes_in
rol_fit w t = rw (sign_fit w t.value) (left_fit w (sign_of w t.value) t.value)

rolc_fit : (w : Bool) (t : Turn) → one_place Rolc w (fitted w t) ≡ one_place Rolc w t
unfolding one_place comes_in
rolc_fit w t = left_fit w t.cy t.value

shl_fit : (w : Bool) (t : Turn) → one_place Shl w (fitted w t) ≡ one_place Shl w t
unfolding one_place comes_in
shl_fit w t = left_fit w false t.value

many_fit : (k : Shift) (w : Bool) (m : ℕ) (t : Turn) → one_place k w (fitted w t) ≡ one_place k w t
    → many_places k w (suc m) (fitted w t) ≡ many_places k w (suc m) t
many_fit k w m t e = many_first k w m (fitted w t) ∙ ap (many_places k w m) e ∙ sym (many_first k w m t)

-- ---- SHL: doubled

wrap_16 : (w : Bool) (y z : ℕ) → y % 65536 ≡ z % 65536 → wrap_of w y ≡ z % mod_of w
unfolding wrap_of
wrap_16 true y z e = e
wrap_16 false y z e = omega arith

shl_alike : (w : Bool) (t u : Turn) → t.value ≡ u.value → one_place Shl w t ≡ one_place Shl w u
unfolding one_place comes_in
shl_alike w t u e = rw e

pub shl_last : (w : Bool) (m y : ℕ) (t r : Turn) → y % 65536 ≡ fit_of w t.value * 2 ^ m % 65536 → r.value ≡ wrap_of w y → BeforeLast Shl w m t r
unfolding many_places
shl_last w m y t r e f =
    record {
      last =
          shl_alike w r (many_places Shl w m (fitted w t)) (f ∙ wrap_16 w y _ e ∙ sym (shl_value w m (fitted w t) (fit_lt w t.value)))
          ∙ many_fit Shl w m t (shl_fit w t);
    }

-- ---- ROL: m places to the right lead back

turned_bit : (w : Bool) (z : ℕ) → one_right (width_of w) z ≡ z / 2 + z % 2 * half_of w
unfolding one_right
turned_bit true z = refl
turned_bit false z = refl

even_bit : (z : ℕ) → eqb (z % 2) 1 ≡ false → z % 2 ≡ 0
even_bit z e = let n = eqb-false (z % 2) 1 e in omega arith

rol_sign : (w b : Bool) (z : ℕ) → z < mod_of w → eqb (z % 2) 1 ≡ b → leb (half_of w) (z / 2 + z % 2 * half_of w) ≡ b
rol_sign true true z h e = rw (eqb-true (z % 2) 1 e) (le-leb 32768 (z / 2 + 32768) (omega arith))
rol_sign false true z h e = rw (eqb-true (z % 2) 1 e) (le-leb 128 (z / 2 + 128) (omega arith))
rol_sign true false z h e = rw (even_bit z e) (lt-leb 32768 (z / 2 + 0) (omega arith))
rol_sign false false z h e = rw (even_bit z e) (lt-leb 128 (z / 2 + 0) (omega arith))

again : (m y z : ℕ) → y ≡ z + m → z < m → y % m ≡ z
again m y z e h = rw (e, add-mod_right z m) (mod-eq_of_lt h)

still : (m y z : ℕ) → y ≡ z → z < m → y % m ≡ z
still m y z e h = rw e (mod-eq_of_lt h)

rol_value : (w b : Bool) (z : ℕ) → z < mod_of w → eqb (z % 2) 1 ≡ b → (2 * (z / 2 + z % 2 * half_of w) + bit b) % mod_of w ≡ z
rol_value true true z h e = let l = eqb-true (z % 2) 1 e in again 65536 (2 * (z / 2 + z % 2 * 32768) + 1) z (omega arith) h
rol_value false true z h e = let l = eqb-true (z % 2) 1 e in again 256 (2 * (z / 2 + z % 2 * 128) + 1) z (omega arith) h
rol_value true false z h e = let l = even_bit z e in still 65536 (2 * (z / 2 + z % 2 * 32768) + 0) z (omega arith) h
rol_value false false z h e = let l = even_bit z e in still 256 (2 * (z / 2 + z % 2 * 128) + 0) z (omega arith) h

right_within : (w : Bool) (n y : ℕ) → y < mod_of w → right_by (width_of w) n y < mod_of w
right_within true n y h = right_lt 15 n y h
right_within false n y h = right_lt 7 n y h

rol_step : (w : Bool) (z : ℕ) (t : Turn) → z < mod_of w → one_right (width_of w) z ≡ t.value → z ≡ (one_place Rol w t).value
unfolding one_place comes_in to_left wrap_of sign_of
rol_step w z t h e = rw (← e, turned_bit w z, rol_sign w (odd z) z h refl) (sym (rol_value w (odd z) z h refl))

pub rol_back : (w : Bool) (n y : ℕ) (t : Turn) → y < mod_of w → right_by (width_of w) n y ≡ t.value → (many_places Rol w n t).value ≡ y
unfolding many_places right_by
rol_back w zero y t h e = sym e
rol_back w (suc n) y t h e =
    ap (λ (u : Turn). u.value) (many_first Rol w n t)
    ∙ rol_back w n y (one_place Rol w t) h (rol_step w (right_by (width_of w) n y) t (right_within w n y h) e)

rol_alike : (w : Bool) (t u : Turn) → t.value ≡ u.value → one_place Rol w t ≡ one_place Rol w u
unfolding one_place comes_in
rol_alike w t u e = rw e

pub rol_last : (w : Bool) (m : ℕ) (t r : Turn) → r.value < mod_of w → right_by (width_of w) m r.value ≡ fit_of w t.value → BeforeLast Rol w m t r
unfolding many_places
rol_last w m t r h e =
    record {
      last =
          rol_alike w r (many_places Rol w m (fitted w t)) (sym (rol_back w m r.value (fitted w t) h e)) ∙ many_fit Rol w m t (rol_fit w t);
    }

-- ---- ROLC: likewise, with CY above

low_bit : (m d q x : ℕ) (c : Bool) → d < 2 → x < m → q < m → q + d * m ≡ x + pick c m 0 → d ≡ bit c
low_bit m zero q x true g h l e = omega arith
low_bit m zero q x false g h l e = refl
low_bit m (suc zero) q x true g h l e = refl
low_bit m (suc zero) q x false g h l e = omega arith
low_bit m (suc (suc d)) q x c g h l e = absurd (omega arith)

rolc_value : (w c s : Bool) (x z : ℕ) → x < mod_of w → leb (half_of w) x ≡ s → z / 2 ≡ x → z % 2 ≡ bit c → z ≡ (2 * x + bit c) % mod_of w + pick s (mod_of w) 0
rolc_value true c true x z h e f g = let l = leb-true 32768 x e in omega arith
rolc_value true c false x z h e f g = let l = leb-false 32768 x e in omega arith
rolc_value false c true x z h e f g = let l = leb-true 128 x e in omega arith
rolc_value false c false x z h e f g = let l = leb-false 128 x e in omega arith

rolc_one : (w c : Bool) (x z : ℕ) → x < mod_of w → z / 2 + z % 2 * mod_of w ≡ x + pick c (mod_of w) 0 → z < 2 * mod_of w
    → z ≡ (2 * x + bit c) % mod_of w + pick (leb (half_of w) x) (mod_of w) 0
rolc_one w c x z h f g =
    let d : z % 2 ≡ bit c = low_bit (mod_of w) (z % 2) (z / 2) x c (omega arith) h (omega arith) f in
    rolc_value w c (leb (half_of w) x) x z h refl (same c d f) d
  where
    same : (c : Bool) → z % 2 ≡ bit c → z / 2 + z % 2 * mod_of w ≡ x + pick c (mod_of w) 0 → z / 2 ≡ x
    same true d f = let k : z / 2 + 1 * mod_of w ≡ x + mod_of w = rw d at f in omega arith
    same false d f = let k : z / 2 + 0 * mod_of w ≡ x + 0 = rw d at f in omega arith

round_within : (w : Bool) (n y : ℕ) → y < 2 * mod_of w → right_by (suc (width_of w)) n y < 2 * mod_of w
round_within true n y h = right_lt 16 n y h
round_within false n y h = right_lt 8 n y h

rolc_step : (w : Bool) (z : ℕ) (t : Turn) → z < 2 * mod_of w → t.value < mod_of w → one_right (suc (width_of w)) z ≡ joined w t
    → z ≡ joined w (one_place Rolc w t)
unfolding one_place comes_in to_left wrap_of sign_of one_right joined
rolc_step true z t h l e = rolc_one true t.cy t.value z l e h
rolc_step false z t h l e = rolc_one false t.cy t.value z l e h

one_within : (w : Bool) (t : Turn) → (one_place Rolc w t).value < mod_of w
unfolding one_place comes_in to_left
one_within w t = wrap_lt w _

many_within : (w : Bool) (n : ℕ) (t : Turn) → t.value < mod_of w → (many_places Rolc w n t).value < mod_of w
unfolding many_places
many_within w zero t h = h
many_within w (suc n) t h = one_within w (many_places Rolc w n t)

pub rolc_back : (w : Bool) (n y : ℕ) (t : Turn) → y < 2 * mod_of w → t.value < mod_of w → right_by (suc (width_of w)) n y ≡ joined w t → joined w (many_places Rolc w n t) ≡ y
unfolding many_places right_by
rolc_back w zero y t h l e = sym e
rolc_back w (suc n) y t h l e =
    ap (joined w) (many_first Rolc w n t)
    ∙ rolc_back w n y (one_place Rolc w t) h (one_within w t) (rolc_step w (right_by (suc (width_of w)) n y) t (round_within w n y h) l e)

-- within the width the two together show both
apart : (m : ℕ) (c d : Bool) (x y : ℕ) → x < m → y < m → x + pick c m 0 ≡ y + pick d m 0 → (x ≡ y) × (c ≡ d)
apart m true true x y h l e = (omega arith, refl)
apart m true false x y h l e = absurd (omega arith)
apart m false true x y h l e = absurd (omega arith)
apart m false false x y h l e = (omega arith, refl)

rolc_alike : (w : Bool) (t u : Turn) → t.value < mod_of w → u.value < mod_of w → joined w t ≡ joined w u → one_place Rolc w t ≡ one_place Rolc w u
unfolding one_place comes_in joined
rolc_alike w t u h l e =
    let p = apart (mod_of w) t.cy u.cy t.value u.value h l e in
    rw (p.0, p.1)

pub rolc_last : (w : Bool) (m : ℕ) (t r : Turn) → r.value < mod_of w → joined w r < 2 * mod_of w
    → right_by (suc (width_of w)) m (joined w r) ≡ joined w (turn (fit_of w t.value) t.cy) → BeforeLast Rolc w m t r
unfolding many_places
rolc_last w m t r h l e =
    record {
      last =
          rolc_alike w r (many_places Rolc w m (fitted w t)) h (many_within w m (fitted w t) (fit_lt w t.value))
          (sym (rolc_back w m (joined w r) (fitted w t) l (fit_lt w t.value) e))
          ∙ many_fit Rolc w m t (rolc_fit w t);
    }

-- ---- as the code has it

join_within : (w c : Bool) (x : ℕ) → x < mod_of w → x + pick c (mod_of w) 0 < 2 * mod_of w
join_within w true x h = omega arith
join_within w false x h = omega arith

pub rol_room : (w : Bool) (b x f : ℕ) → b ≡ width_of w → f ≡ fit_of w x → (0 < b) × ((b ≤ 17) × (f < 2 ^ b))
rol_room true b x f e g = let l = fit_lt true x in rw (e, g) (omega arith)
rol_room false b x f e g = let l = fit_lt false x in rw (e, g) (omega arith)

pub rolc_room : (w c : Bool) (b x f j : ℕ) → b ≡ width_of w → f ≡ fit_of w x → j ≡ f + pick c (mod_of w) 0 → (0 < b + 1) × ((b + 1 ≤ 17) × (j < 2 ^ (b + 1)))
rolc_room true c b x f j e g h = let l = join_within true c (fit_of true x) (fit_lt true x) in rw (e, h, g) (omega arith)
rolc_room false c b x f j e g h = let l = join_within false c (fit_of false x) (fit_lt false x) in rw (e, h, g) (omega arith)

pub width_power : (w : Bool) (b y : ℕ) → b ≡ width_of w → y < 2 ^ b → y < mod_of w
width_power true b y e h = rw e at h
width_power false b y e h = rw e at h

pub round_power : (w : Bool) (b y : ℕ) → b ≡ width_of w → y < 2 ^ (b + 1) → y < 2 * mod_of w
round_power true b y e h = rw e at h
round_power false b y e h = rw e at h

pub rol_is : (w : Bool) (b m x y : ℕ) (t r : Turn) → b ≡ width_of w → x ≡ fit_of w t.value → right_by b m y ≡ x → y < 2 ^ b → r.value ≡ y → BeforeLast Rol w m t r
rol_is w b m x y t r e f g h i = rol_last w m t r (rw i (width_power w b y e h)) (rw (i, ← e) (g ∙ f))

pub rolc_is : (w : Bool) (b m f x y : ℕ) (t r : Turn) → b ≡ width_of w → f ≡ fit_of w t.value → x ≡ f + pick t.cy (mod_of w) 0 → right_by (b + 1) m y ≡ x → y < 2 ^ (b + 1)
    → r ≡ part_of w y → BeforeLast Rolc w m t r
unfolding joined
rolc_is w b m f x y t r e g h i j k =
    let l : y < 2 * mod_of w = round_power w b y e j in
    let whole : right_by (suc (width_of w)) m y ≡ fit_of w t.value + pick t.cy (mod_of w) 0 = rw (← e, ← add-one b, ← g) (i ∙ h) in
    rw k (rolc_last w m t (part_of w y) (part_lt w y l) (rw (part_joined w y) l) (rw (part_joined w y) whole))

pub shl_is : (w : Bool) (m x y : ℕ) (t r : Turn) → x ≡ fit_of w t.value → y % 65536 ≡ x * 2 ^ m % 65536 → r.value ≡ wrap_of w y → BeforeLast Shl w m t r
shl_is w m x y t r e f g = shl_last w m y t r (rw (← e) f) g

pub fit_is : (w : Bool) (x h o : ℕ) (s : Bool) → h ≡ half_of w → s ≡ sign_of w x → o ≡ pick s h 0 → x % h + o ≡ fit_of w x
unfolding fit_of
fit_is w x h o s e f g = rw (g, f, e)

pub half_pos : (w : Bool) → 0 < half_of w
half_pos true = omega arith
half_pos false = omega arith
