-- The single primitives that the claim compares with: what they keep, where their blocks are, what they leave alone.
use Prim.Native.Nat.{ℕ, zero, suc, ◌≤◌, ◌<◌}
use mathlib.Core.Logic.{◌≢◌}
use mathlib.Core.Path.{◌≡◌, refl, sym, ap, ◌∙◌}
use mathlib.Core.Bool.{Bool, true, false}
use mathlib.Core.List.{List}
use native.Mathlib.Omega.{arith}
use lib.Dec.{T}
use lib.ListN.{length, get_or}
use Rattle.sheet.specs.declared.Primitive.{Primitive}
use Rattle.sheet.specs.declared.Primitive.TheVariants.{Movbk, Cmpbk, Cmpm, Ldm, Stm, Inm, Outm}
use Rattle.sheet.specs.Psw.{DIR, flag_of}
use Rattle.sheet.specs.Registers.{CW, IX, IY, DS1, PS, PC, file_of, segment}
use Rattle.sheet.specs.Memory.{byte_at}
use Rattle.sheet.specs.World.{World, psw_of}
use Rattle.sheet.specs.Handler.{done}
use Rattle.sheet.proofs.Reach.{Covers}
use Rattle.sheet.specs.Step.{code_at}
use Rattle.theorems.specs.Repeat.{Block, of_memory, has_source, has_target, writes_target, single, left, singles, reg, walk, InElement, low, high, InSource, InTarget, NeverOnItself}
use Rattle.theorems.proofs.RepeatFile.{Keeps, keeps_all, keeps_then, keeps_segment, made_keeps, Moves, made_ix, made_iy}
use Rattle.theorems.proofs.RepeatPrimitive.{source_due, target_due, file_after, trace, worked, primitive_is, ram_long, byte_spared}

pub covers_by : {K : ℕ → Type 0} (b : Bool) (g o : ℕ) → ((a : ℕ) → InElement g o a b → K a) → Covers K b g o
covers_by false g o h = h _ (low refl)
covers_by true g o h = (h _ (low refl), h _ (high refl))

writer_target : (k : Primitive) → T (writes_target k) → T (has_target k)
writer_target Movbk t = tt
writer_target Cmpbk t = absurd t
writer_target Cmpm t = absurd t
writer_target Ldm t = absurd t
writer_target Stm t = tt
writer_target Inm t = tt
writer_target Outm t = absurd t

module _ (i : Block) (w : World) (m : of_memory i.kind ≡ true) where
  pub single_is : (v : World) → single i v ≡ done tt (worked i.kind i.word i.seg v) (trace i.kind i.word i.seg v.state.file v.ram v.rom)
  unfolding single
  single_is v = primitive_is i.kind i.word i.seg v m

  pub singles_next : (j : ℕ) → singles i w (suc j) ≡ worked i.kind i.word i.seg (singles i w j)
  unfolding singles
  singles_next j = ap (left (singles i w j)) (single_is (singles i w j))

  pub singles_rom : (j : ℕ) → (singles i w j).rom ≡ w.rom
  unfolding singles
  singles_rom zero = refl
  singles_rom (suc j) = ap (λ v. v.rom) (singles_next j) ∙ singles_rom j

  pub singles_long : (j : ℕ) → length (singles i w j).ram ≡ length w.ram
  unfolding singles
  singles_long zero = refl
  singles_long (suc j) =
      ap (λ v. length v.ram) (singles_next j)
      ∙ ram_long i.kind i.word i.seg (singles i w j).state.file (singles i w j).ram (singles i w j).rom
      ∙ singles_long j

  module _ (e : length w.state.file ≡ 14) where
    pub singles_keep : (j : ℕ) → Keeps w.state.file (singles i w j).state.file
    unfolding singles file_after
    singles_keep zero = keeps_all e
    singles_keep (suc j) =
        let k = singles_keep j in
        let v : World = singles i w j in
        rw (single_is v)
        (keeps_then k (made_keeps i.kind i.word (source_due i.word i.seg v.state.file v.ram v.rom) (target_due i.word v.state.file v.ram v.rom) v.state.file k.long))

    -- an index register that every primitive moves by one element walks
    singles_walk : (n : ℕ) → ((x y : ℕ) (f : List ℕ) → length f ≡ 14 → Moves n i.kind i.word x y f)
        → (j : ℕ) → get_or (singles i w j).state.file n 0 ≡ walk (flag_of (psw_of w.state) DIR) i.word (get_or w.state.file n 0) j
    unfolding singles walk file_after
    singles_walk n h zero = refl
    singles_walk n h (suc j) =
        let k = singles_keep j in
        rw (single_is (singles i w j)) (h _ _ (singles i w j).state.file k.long ∙ rw (k.dir, singles_walk n h j))

    singles_ix : T (has_source i.kind) → (j : ℕ) → get_or (singles i w j).state.file IX 0 ≡ walk (flag_of (psw_of w.state) DIR) i.word (reg w IX) j
    singles_ix t = singles_walk IX (λ x y. made_ix i.kind i.word x y t m)

    singles_iy : T (has_target i.kind) → (j : ℕ) → get_or (singles i w j).state.file IY 0 ≡ walk (flag_of (psw_of w.state) DIR) i.word (reg w IY) j
    singles_iy t = singles_walk IY (λ x y. made_iy i.kind i.word x y t m)

    -- the bytes that element j touches are element j of the blocks
    pub source_is : T (has_source i.kind) → (j a : ℕ) → InElement (file_of (singles i w j).state.file (segment i.seg)) (get_or (singles i w j).state.file IX 0) a i.word → InSource i w j a
    source_is t j a h = rw (keeps_segment (singles_keep j) i.seg, singles_ix t j) at h

    pub target_is : T (has_target i.kind) → (j a : ℕ) → InElement (get_or (singles i w j).state.file DS1 0) (get_or (singles i w j).state.file IY 0) a i.word → InTarget i w j a
    target_is t j a h = rw ((singles_keep j).ds1, singles_iy t j) at h

    -- the own bytes stand
    pub singles_own : NeverOnItself i w → (j : ℕ) → j ≤ reg w CW → (c : ℕ) → c < i.size
        → byte_at (singles i w j).ram (singles i w j).rom (code_at (reg w PS) (reg w PC) c) ≡ byte_at w.ram w.rom (code_at (reg w PS) (reg w PC) c)
    unfolding singles
    singles_own clean zero h c l = refl
    singles_own clean (suc j) h c l =
        let v : World = singles i w j in
        let a : ℕ = code_at (reg w PS) (reg w PC) c in
        rw (single_is v)
        (byte_spared i.kind i.word i.seg v.state.file v.ram v.rom a m
        (λ low t. covers_by {K = λ x. a ≢ x} i.word (get_or v.state.file DS1 0) (get_or v.state.file IY 0)
        (λ x u q. clean j c x (omega arith) t (target_is (writer_target i.kind t) j x u) (rw (singles_long j, q) at low) l (sym q)))
        ∙ singles_own clean j (omega arith) c l)
