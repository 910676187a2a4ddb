-- The answer for one code of a table: by the row that starts at a code, or by none.
use Prim.Native.Nat.{ℕ, zero, suc, ◌+◌, ◌≤◌, ◌<◌}
use mathlib.Core.Path.{◌≡◌, refl, sym, ◌∙◌}
use mathlib.Core.Logic.{◌⊎◌, inl, inr}
use mathlib.Core.Bool.{Bool, true, false, not, ◌&&◌, ◌||◌, and-eq-true_iff}
use mathlib.Core.List.{List, [], ◌∷◌}
use native.Mathlib.Omega.{arith}
use lib.Dec.{eqb, leb, ltb}
use borrow.Author.Tests.{eqb-true, eqb-false, ne_eqb, leb-true, le-leb, lt-ltb, le-ltb}
use types.Run.{OneOf}
use Rattle.sheet.specs.Width.{pick}
use Rattle.sheet.specs.Reading.{no}
use Rattle.sheet.specs.Encoding.{Row, row, covers, look_up}
use Rattle.std.specs.Prelude.{Err}
use Rattle.sheet.specs.declared.Instr.{Instr}
use Rattle.sheet.specs.declared.Refusal.TheVariants.{UnknownInstruction}
use Rattle.code_answer.specs.Answer.{Answer, Decodes, Names}
use Rattle.code_answer.proofs.DecodesLaws.{decodes_as, decodes_no}

-- the row that starts at n
abbrev pub row_from : ℕ → List Row → Row
row_from n [] = row n 0 (λ _. no 3)
row_from n (r ∷ t) = pick (eqb r.from n) r (row_from n t)

-- there is one, and those before it end at n or below
abbrev pub starts : ℕ → List Row → Bool
starts n [] = false
starts n (r ∷ t) = pick (eqb r.from n) true (leb (r.from + r.many) n && starts n t)

-- two tests at once
pub not_both : (a b : Bool) → (a ≡ true → b ≡ true → ⊥) → (a && b) ≡ false
not_both true true f = absurd (f refl refl)
not_both true false f = refl
not_both false true f = refl
not_both false false f = refl

passed : (r : Row) (t : List Row) (b : ℕ) → covers r b ≡ false → look_up (r ∷ t) b ≡ look_up t b
unfolding look_up
passed r t b e = rw e

-- a code past the end of a row
pub above_row : (r : Row) (b : ℕ) → r.from + r.many ≤ b → covers r b ≡ false
above_row r b h = go (leb r.from b)
  where
    go : (c : Bool) → (c && ltb b (r.from + r.many)) ≡ false
    go true = le-ltb b (r.from + r.many) h
    go false = refl

pub row_at : (t : List Row) (n b : ℕ) → starts n t ≡ true → n ≤ b → b < n + (row_from n t).many → look_up t b ≡ (row_from n t).reads b
unfolding look_up
row_at [] n b e h k = absurd (omega arith)
row_at (r ∷ t) n b e h k = go (eqb r.from n) refl e k (λ y l. row_at t n b y h l)
  where
    go : (c : Bool) → eqb r.from n ≡ c → pick c true (leb (r.from + r.many) n && starts n t) ≡ true → b < n + (pick c r (row_from n t)).many
        → (starts n t ≡ true → b < n + (row_from n t).many → look_up t b ≡ (row_from n t).reads b)
        → look_up (r ∷ t) b ≡ (pick c r (row_from n t)).reads b
    go true q e k others = let f : r.from ≡ n = eqb-true r.from n q in rw (f, le-leb n b h, lt-ltb b (n + r.many) k)
    go false q e k others =
        let (x, y) = (and-eq-true_iff (leb (r.from + r.many) n) (starts n t)).0 e in
        let z = leb-true (r.from + r.many) n x in
        passed r t b (above_row r b (omega arith)) ∙ others y k

-- ---- codes that no row has

abbrev pub covered : List Row → ℕ → Bool
covered [] b = false
covered (r ∷ t) b = covers r b || covered t b

-- one of the keys of an arm, of some arms
abbrev pub among : List ℕ → ℕ → Bool
among [] b = false
among (k ∷ ks) b = eqb b k || among ks b

abbrev pub among_all : List (List ℕ) → ℕ → Bool
among_all [] b = false
among_all (ks ∷ others) b = among ks b || among_all others b

-- what is known where no arm of a match took the code
abbrev pub Left : Type 0 → List (List ℕ) → ℕ → Type 0
Left N [] b = N
Left N (ks ∷ others) b = Left (N × (OneOf ks b → ⊥)) others b

-- a test of n numbers from lo on
abbrev pub every : (ℕ → Bool) → ℕ → ℕ → Bool
every f lo zero = true
every f lo (suc n) = f lo && every f (suc lo) n

every_at : (f : ℕ → Bool) (n lo b : ℕ) → every f lo n ≡ true → lo ≤ b → b < lo + n → f b ≡ true
every_at f zero lo b e h k = absurd (omega arith)
every_at f (suc n) lo b e h k =
    let (x, y) = (and-eq-true_iff (f lo) (every f (suc lo) n)).0 e in
    go (eqb lo b) refl x (λ l. every_at f n (suc lo) b y l (omega arith))
  where
    go : (c : Bool) → eqb lo b ≡ c → f lo ≡ true → (suc lo ≤ b → f b ≡ true) → f b ≡ true
    go true q x others = rw (eqb-true lo b q) at x
    go false q x others = let z = eqb-false lo b q in others (omega (arith, z))

not_among : (ks : List ℕ) (b : ℕ) → (OneOf ks b → ⊥) → among ks b ≡ false
not_among [] b f = refl
not_among (k ∷ []) b f = rw (ne_eqb b k f)
not_among (k ∷ l ∷ ks) b f = rw (ne_eqb b k (λ e. f (inl e)), not_among (l ∷ ks) b (λ e. f (inr e)))

left_over : (N : Type 0) (arms : List (List ℕ)) (b : ℕ) → Left N arms b → N × (among_all arms b ≡ false)
left_over N [] b x = (x, refl)
left_over N (ks ∷ others) b x =
    let (y, e) = left_over (N × (OneOf ks b → ⊥)) others b x in
    (y.0, rw (not_among ks b y.1, e))

uncovered : (t : List Row) (b : ℕ) → covered t b ≡ false → look_up t b ≡ no 3
unfolding look_up
uncovered [] b e = refl
uncovered (r ∷ t) b e = go (covers r b) e (uncovered t b)
  where
    go : (c : Bool) → (c || covered t b) ≡ false → (covered t b ≡ false → look_up t b ≡ no 3) → pick c (r.reads b) (look_up t b) ≡ no 3
    go true e others = let z : ◌≡◌ {A = ℕ} 0 1 = cc in absurd (omega arith)
    go false e others = others e

-- ---- answers

module _ {t : List Row} {b : ℕ} {src : ℕ → ℕ} {i : ℕ} where
  -- n is the row's first code
  pub at_row : (n : ℕ) {r : Answer Instr} → starts n t ≡ true → n ≤ b → b < n + (row_from n t).many → Decodes ((row_from n t).reads b) src i r → Names t b src i r
  at_row n e h k x = record { is = decodes_as (row_at t n b e h k) x }

  -- a row of one code
  pub at_one : (n : ℕ) {r : Answer Instr} → starts n t ≡ true → leb 1 (row_from n t).many ≡ true → b ≡ n → Decodes ((row_from n t).reads b) src i r → Names t b src i r
  at_one n e s q x = let l = leb-true 1 (row_from n t).many s in at_row n e (omega arith) (omega arith) x

  -- and of two
  pub at_two : (n : ℕ) {r : Answer Instr} → starts n t ≡ true → leb 2 (row_from n t).many ≡ true → (b ≡ n) ⊎ (b ≡ n + 1) → Decodes ((row_from n t).reads b) src i r → Names t b src i r
  at_two n e s q x =
      let l = leb-true 2 (row_from n t).many s in
      let h : (n ≤ b) × (b < n + 2) = go q in
      at_row n e h.0 (omega arith) x
    where
      go : (b ≡ n) ⊎ (b ≡ n + 1) → (n ≤ b) × (b < n + 2)
      go (inl z) = (omega arith, omega arith)
      go (inr z) = (omega arith, omega arith)

  -- of n codes from lo on, those that no arm took have no row
  pub at_rest : (lo n : ℕ) (arms : List (List ℕ)) → every (λ k. among_all arms k || not (covered t k)) lo n ≡ true → Left Unit arms b → lo ≤ b → b < lo + n → Names t b src i (Err UnknownInstruction)
  at_rest lo n arms e x h k =
      let (y, f) = left_over Unit arms b x in
      let g : (among_all arms b || not (covered t b)) ≡ true = every_at (λ k. among_all arms k || not (covered t k)) n lo b e h k in
      record { is = decodes_as (uncovered t b (go (among_all arms b) (covered t b) f g)) decodes_no }
    where
      go : (c d : Bool) → c ≡ false → (c || not d) ≡ true → d ≡ false
      go true true f g = f
      go true false f g = refl
      go false true f g = sym g
      go false false f g = refl
