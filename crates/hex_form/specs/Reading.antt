-- What a text of Intel HEX means: a refusal, or the bytes that its lines store. An image has a first address, its base, and n bytes.
use Rattle.std.specs.Prelude.{ℕ, zero, suc, ◌+◌, ◌-◌, ◌*◌, ◌%◌, ◌≡◌, Bool, true, ◌&&◌, List, [], ◌∷◌, ◌++◌, length, set, leb, ltb, eqb}
use Rattle.sheet.specs.Width.{pick}
use Rattle.hex_form.specs.Line.{all, byte, size, offset, kind, span, formed, summed}

-- ---- a line, under the segment that the last line of kind 02 gave

-- where its byte i goes: offsets wrap within their segment
unfoldable pub place : (segment : ℕ) → List ℕ → ℕ → ℕ
place g s i = 16 * g + (offset s + i) % 65536

-- an address above FFFFFh lies outside every image
unfoldable pub inside : (base n address : ℕ) → Bool
inside base n a = leb base a && (ltb a (base + n) && ltb a 1048576)

unfoldable pub lands_in : (base n segment : ℕ) → List ℕ → ℕ → Bool
lands_in base n g s i = inside base n (place g s i)

unfoldable pub lands : (base n segment : ℕ) → List ℕ → Bool
lands base n g s = pick (eqb (kind s) 0) (all (lands_in base n g s) (size s)) true

-- 0 for a good line; else what comes first of 10, 11, 12
unfoldable pub fault : (base n segment : ℕ) → List ℕ → ℕ
fault base n g s = pick (formed s) (pick (summed s) (pick (lands base n g s) 0 12) 11) 10

-- the segment behind a line
unfoldable pub segment_after : (segment : ℕ) → List ℕ → ℕ
segment_after g s = pick (eqb (kind s) 2) (256 * byte s 4 + byte s 5) g

-- ---- a whole text: `skip` characters of the line before it are left

-- a refusal's number and line; 0 and 0 for a good text
pub data Verdict : Type 0 where
  verdict : (number line : ℕ) → Verdict

abbrev pub number_of : Verdict → ℕ
number_of (verdict n l) = n

unfoldable pub verdict_from : (base n segment line skip : ℕ) → List ℕ → Verdict
verdict_from base n g l skip [] = verdict 10 l
verdict_from base n g l (suc k) (c ∷ t) = verdict_from base n g l k t
verdict_from base n g l zero (c ∷ t) =
    pick (eqb (fault base n g (c ∷ t)) 0)
    (pick (eqb (kind (c ∷ t)) 1)
    (pick (eqb (length (c ∷ t)) (span (c ∷ t))) (verdict 0 0) (verdict 10 (l + 1)))
    (verdict_from base n (segment_after g (c ∷ t)) (l + 1) (span (c ∷ t) - 1) t))
    (verdict (fault base n g (c ∷ t)) l)

-- lines are counted from 1, and the first segment is 0
unfoldable pub verdict_of : (base n : ℕ) → List ℕ → Verdict
verdict_of base n text = verdict_from base n 0 1 0 text

pub data Store : Type 0 where
  store : (address value : ℕ) → Store

-- what a line stores at its byte i
unfoldable pub store_at : (segment : ℕ) → List ℕ → ℕ → Store
store_at g s i = store (place g s i) (byte s (i + 4))

-- the first k of them
unfoldable pub first_stores : (ℕ → Store) → ℕ → List Store
first_stores f zero = []
first_stores f (suc k) = first_stores f k ++ (f k ∷ [])

unfoldable pub line_stores : (segment : ℕ) → List ℕ → List Store
line_stores g s = pick (eqb (kind s) 0) (first_stores (store_at g s) (size s)) []

unfoldable pub stores_from : (segment skip : ℕ) → List ℕ → List Store
stores_from g skip [] = []
stores_from g (suc k) (c ∷ t) = stores_from g k t
stores_from g zero (c ∷ t) = line_stores g (c ∷ t) ++ pick (eqb (kind (c ∷ t)) 1) [] (stores_from (segment_after g (c ∷ t)) (span (c ∷ t) - 1) t)

unfoldable pub stores_of : List ℕ → List Store
stores_of text = stores_from 0 0 text

-- ---- the image

unfoldable pub stored : (base : ℕ) → Store → List ℕ → List ℕ
stored base (store a v) image = pick (inside base (length image) a) (set image (a - base) v) image

-- a later store stands
unfoldable pub applied : (base : ℕ) → List Store → List ℕ → List ℕ
applied base [] image = image
applied base (x ∷ l) image = applied base l (stored base x image)

-- what is said of passing a line
pub record Passes (segment : ℕ) (s : List ℕ) (kind' span' segment' : ℕ) : Type 0 where
  pub kinds : kind' ≡ kind s
  pub spans : span' ≡ span s
  pub segments : segment' ≡ segment_after segment s

-- what is said of reading a text into an image: on a refusal the image is as it was
pub record Reads (text : List ℕ) (base : ℕ) (image : List ℕ) (number line : ℕ) (image' : List ℕ) : Type 0 where
  pub says : verdict_of base (length image) text ≡ verdict number line
  pub left : image' ≡ pick (eqb number 0) (applied base (stores_of text) image) image
