-- The fourteen words of a state, and what one primitive makes of them.
use Prim.Native.Nat.{ℕ, zero, suc, ◌+◌, ◌%◌, ◌<◌}
use mathlib.Core.Path.{◌≡◌, refl, sym, ap, ◌∙◌}
use mathlib.Core.Bool.{Bool, true, false, false≢true}
use mathlib.Core.Logic.{◌≢◌}
use mathlib.Core.List.{List, [], ◌∷◌}
use native.Mathlib.Omega.{arith}
use lib.Dec.{T, lit<}
use lib.ListN.{length, get_or, set, length-set}
use lib.Seq.{get_or-set_other}
use Rattle.sheet.specs.declared.Primitive.{Primitive}
use Rattle.sheet.specs.declared.Primitive.TheVariants.{Movbk, Cmpbk, Cmpm, Ldm, Stm, Inm, Outm}
use Rattle.sheet.specs.Psw.{BRK, DIR, keeps, flag_of, native_of, column, settled}
use Rattle.sheet.specs.Registers.{AW, CW, IX, IY, DS1, PS, SS, DS0, PC, PSW, file_of, segment, read_reg, reg_word}
use Rattle.sheet.specs.Arithmetic.{difference}
use Rattle.sheet.specs.Block.{stepped_of}
use Rattle.sheet.proofs.PswLaws.{flag_settled, native_settled}
use Rattle.theorems.specs.Repeat.{of_memory, has_source, has_target, placed}

-- what holds of any fourteen words holds of a list of that length
pub fourteen : (P : List ℕ → Type 0)
    → ((a b c d e f g h i j k l m n : ℕ) → P (a ∷ b ∷ c ∷ d ∷ e ∷ f ∷ g ∷ h ∷ i ∷ j ∷ k ∷ l ∷ m ∷ n ∷ []))
    → (w : List ℕ) → length w ≡ 14 → P w
fourteen P q [] z = absurd (omega arith)
fourteen P q (a ∷ []) z = absurd (omega arith)
fourteen P q (a ∷ b ∷ []) z = absurd (omega arith)
fourteen P q (a ∷ b ∷ c ∷ []) z = absurd (omega arith)
fourteen P q (a ∷ b ∷ c ∷ d ∷ []) z = absurd (omega arith)
fourteen P q (a ∷ b ∷ c ∷ d ∷ e ∷ []) z = absurd (omega arith)
fourteen P q (a ∷ b ∷ c ∷ d ∷ e ∷ f ∷ []) z = absurd (omega arith)
fourteen P q (a ∷ b ∷ c ∷ d ∷ e ∷ f ∷ g ∷ []) z = absurd (omega arith)
fourteen P q (a ∷ b ∷ c ∷ d ∷ e ∷ f ∷ g ∷ h ∷ []) z = absurd (omega arith)
fourteen P q (a ∷ b ∷ c ∷ d ∷ e ∷ f ∷ g ∷ h ∷ i ∷ []) z = absurd (omega arith)
fourteen P q (a ∷ b ∷ c ∷ d ∷ e ∷ f ∷ g ∷ h ∷ i ∷ j ∷ []) z = absurd (omega arith)
fourteen P q (a ∷ b ∷ c ∷ d ∷ e ∷ f ∷ g ∷ h ∷ i ∷ j ∷ k ∷ []) z = absurd (omega arith)
fourteen P q (a ∷ b ∷ c ∷ d ∷ e ∷ f ∷ g ∷ h ∷ i ∷ j ∷ k ∷ l ∷ []) z = absurd (omega arith)
fourteen P q (a ∷ b ∷ c ∷ d ∷ e ∷ f ∷ g ∷ h ∷ i ∷ j ∷ k ∷ l ∷ m ∷ []) z = absurd (omega arith)
fourteen P q (a ∷ b ∷ c ∷ d ∷ e ∷ f ∷ g ∷ h ∷ i ∷ j ∷ k ∷ l ∷ m ∷ n ∷ []) z = q a b c d e f g h i j k l m n
fourteen P q (a ∷ b ∷ c ∷ d ∷ e ∷ f ∷ g ∷ h ∷ i ∷ j ∷ k ∷ l ∷ m ∷ n ∷ o ∷ w) z = absurd (omega arith)

-- an index register moved by one element; PSW after a comparison; AW or AL loaded
unfoldable pub stepped : Bool → ℕ → List ℕ → List ℕ
stepped b n f = set f n (stepped_of b (flag_of (get_or f PSW 0) DIR) (get_or f n 0))

unfoldable pub compared : Bool → (x y : ℕ) → List ℕ → List ℕ
compared b x y f = set f PSW (settled keeps (column (difference b x y false).column) (get_or f PSW 0))

unfoldable pub loaded : Bool → ℕ → List ℕ → List ℕ
loaded b v f = set f AW (reg_word b (file_of f) AW v)

-- the words after a primitive that read x from its source and y from its target
unfoldable pub made : Primitive → Bool → (x y : ℕ) → List ℕ → List ℕ
made Movbk b x y f = stepped b IY (stepped b IX f)
made Cmpbk b x y f = stepped b IY (stepped b IX (compared b x y f))
made Cmpm b x y f = stepped b IY (compared b (read_reg b (file_of f) AW) y f)
made Ldm b x y f = stepped b IX (loaded b x f)
made Stm b x y f = stepped b IY f
made Inm b x y f = f
made Outm b x y f = f

-- what every primitive keeps
pub record Keeps (f g : List ℕ) : Type 0 where
  pub long : length g ≡ 14
  pub cw : get_or g CW 0 ≡ get_or f CW 0
  pub ds1 : get_or g DS1 0 ≡ get_or f DS1 0
  pub ps : get_or g PS 0 ≡ get_or f PS 0
  pub ss : get_or g SS 0 ≡ get_or f SS 0
  pub ds0 : get_or g DS0 0 ≡ get_or f DS0 0
  pub pc : get_or g PC 0 ≡ get_or f PC 0
  pub brk : flag_of (get_or g PSW 0) BRK ≡ flag_of (get_or f PSW 0) BRK
  pub dir : flag_of (get_or g PSW 0) DIR ≡ flag_of (get_or f PSW 0) DIR
  pub mode : native_of (get_or g PSW 0) ≡ native_of (get_or f PSW 0)

pub keeps_all : {f : List ℕ} → length f ≡ 14 → Keeps f f
keeps_all e = record { long = e; cw = refl; ds1 = refl; ps = refl; ss = refl; ds0 = refl; pc = refl; brk = refl; dir = refl; mode = refl }

pub keeps_then : {f g h : List ℕ} → Keeps f g → Keeps g h → Keeps f h
keeps_then x y = record {
  long = y.long;
  cw = y.cw ∙ x.cw;
  ds1 = y.ds1 ∙ x.ds1;
  ps = y.ps ∙ x.ps;
  ss = y.ss ∙ x.ss;
  ds0 = y.ds0 ∙ x.ds0;
  pc = y.pc ∙ x.pc;
  brk = y.brk ∙ x.brk;
  dir = y.dir ∙ x.dir;
  mode = y.mode ∙ x.mode;
}

-- the segment register that a number names
segment_is : (f g : List ℕ) → get_or f DS1 0 ≡ get_or g DS1 0 → get_or f PS 0 ≡ get_or g PS 0 → get_or f SS 0 ≡ get_or g SS 0 → get_or f DS0 0 ≡ get_or g DS0 0
    → (n : ℕ) → file_of f (segment n) ≡ file_of g (segment n)
segment_is f g a b c d n = go (n % 4) (omega arith)
  where
    go : (x : ℕ) → x < 4 → file_of f (DS1 + x) ≡ file_of g (DS1 + x)
    go zero h = a
    go (suc zero) h = b
    go (suc (suc zero)) h = c
    go (suc (suc (suc zero))) h = d
    go (suc (suc (suc (suc x)))) h = absurd (omega arith)

pub keeps_segment : {f g : List ℕ} → Keeps f g → (n : ℕ) → file_of g (segment n) ≡ file_of f (segment n)
keeps_segment {f} {g} k n = segment_is g f k.ds1 k.ps k.ss k.ds0 n

-- CW and PC are no part of a primitive
module _ (x p : ℕ) where
  abbrev Passes : Primitive → Bool → (y z : ℕ) → List ℕ → Type 0
  Passes k w y z f = made k w y z (placed x p f) ≡ placed x p (made k w y z f)

  pub made_placed : (k : Primitive) (w : Bool) (y z : ℕ) (f : List ℕ) → length f ≡ 14 → Passes k w y z f
  unfolding made stepped compared loaded read_reg reg_word
  made_placed Movbk w y z = fourteen (Passes Movbk w y z) (λ a b c d e f g h i j k l m n. refl)
  made_placed Cmpbk w y z = fourteen (Passes Cmpbk w y z) (λ a b c d e f g h i j k l m n. refl)
  made_placed Cmpm true y z = fourteen (Passes Cmpm true y z) (λ a b c d e f g h i j k l m n. refl)
  made_placed Cmpm false y z = fourteen (Passes Cmpm false y z) (λ a b c d e f g h i j k l m n. refl)
  made_placed Ldm true y z = fourteen (Passes Ldm true y z) (λ a b c d e f g h i j k l m n. refl)
  made_placed Ldm false y z = fourteen (Passes Ldm false y z) (λ a b c d e f g h i j k l m n. refl)
  made_placed Stm w y z = fourteen (Passes Stm w y z) (λ a b c d e f g h i j k l m n. refl)
  made_placed Inm w y z = λ f e. refl
  made_placed Outm w y z = λ f e. refl

  pub placed_reg : (w : Bool) (f : List ℕ) → length f ≡ 14 → read_reg w (file_of (placed x p f)) AW ≡ read_reg w (file_of f) AW
  unfolding read_reg
  placed_reg true = fourteen (λ f. read_reg true (file_of (placed x p f)) AW ≡ read_reg true (file_of f) AW) (λ a b c d e f g h i j k l m n. refl)
  placed_reg false = fourteen (λ f. read_reg false (file_of (placed x p f)) AW ≡ read_reg false (file_of f) AW) (λ a b c d e f g h i j k l m n. refl)

  -- what reads the same
  pub record Reads (f g : List ℕ) : Type 0 where
    pub ix : get_or g IX 0 ≡ get_or f IX 0
    pub iy : get_or g IY 0 ≡ get_or f IY 0
    pub ds1 : get_or g DS1 0 ≡ get_or f DS1 0
    pub ps : get_or g PS 0 ≡ get_or f PS 0
    pub ss : get_or g SS 0 ≡ get_or f SS 0
    pub ds0 : get_or g DS0 0 ≡ get_or f DS0 0
    pub psw : get_or g PSW 0 ≡ get_or f PSW 0
    pub long : length g ≡ 14
    pub cw : get_or g CW 0 ≡ x
    pub pc : get_or g PC 0 ≡ p

  pub placed_reads : (f : List ℕ) → length f ≡ 14 → Reads f (placed x p f)
  placed_reads = fourteen (λ f. Reads f (placed x p f)) (λ a b c d e f g h i j k l m n. record { ix = refl; iy = refl; ds1 = refl; ps = refl; ss = refl; ds0 = refl; psw = refl; long = refl; cw = refl; pc = refl })

  pub placed_segment : (f : List ℕ) → length f ≡ 14 → (n : ℕ) → file_of (placed x p f) (segment n) ≡ file_of f (segment n)
  placed_segment f e n =
      let r = placed_reads f e in
      segment_is (placed x p f) f r.ds1 r.ps r.ss r.ds0 n

-- ---- what each part of a primitive keeps

-- one of the first eight registers is set, and it is not CW
set_keeps : (n x : ℕ) → n < 8 → n ≢ CW → (f : List ℕ) → length f ≡ 14 → Keeps f (set f n x)
set_keeps n x low other f e =
    let same : (m : ℕ) → m ≢ n → get_or (set f n x) m 0 ≡ get_or f m 0 = λ m d. get_or-set_other f n m x 0 d in
    let psw : get_or (set f n x) PSW 0 ≡ get_or f PSW 0 = same PSW (omega arith) in
    record {
      long = length-set f n x ∙ e;
      cw = same CW (λ q. other (sym q));
      ds1 = same DS1 (omega arith);
      ps = same PS (omega arith);
      ss = same SS (omega arith);
      ds0 = same DS0 (omega arith);
      pc = same PC (omega arith);
      brk = ap (λ v. flag_of v BRK) psw;
      dir = ap (λ v. flag_of v DIR) psw;
      mode = ap (λ v. native_of v) psw;
    }

stepped_ix : (w : Bool) (f : List ℕ) → length f ≡ 14 → Keeps f (stepped w IX f)
unfolding stepped
stepped_ix w f = set_keeps IX _ (lit< tt) (omega arith) f

stepped_iy : (w : Bool) (f : List ℕ) → length f ≡ 14 → Keeps f (stepped w IY f)
unfolding stepped
stepped_iy w f = set_keeps IY _ (lit< tt) (omega arith) f

compared_keeps : (w : Bool) (x y : ℕ) (f : List ℕ) → length f ≡ 14 → Keeps f (compared w x y f)
unfolding compared
compared_keeps w x y = fourteen (λ f. Keeps f (compared w x y f)) (λ a b c d e f g h i j k l m n. record { long = refl; cw = refl; ds1 = refl; ps = refl; ss = refl; ds0 = refl; pc = refl; brk = flag_settled keeps (column (difference w x y false).column) n BRK; dir = flag_settled keeps (column (difference w x y false).column) n DIR; mode = native_settled keeps (column (difference w x y false).column) n })

loaded_keeps : (w : Bool) (x : ℕ) (f : List ℕ) → length f ≡ 14 → Keeps f (loaded w x f)
unfolding loaded
loaded_keeps w x f = set_keeps AW _ (lit< tt) (omega arith) f

pub made_keeps : (k : Primitive) (w : Bool) (x y : ℕ) (f : List ℕ) → length f ≡ 14 → Keeps f (made k w x y f)
unfolding made
made_keeps Movbk w x y f e =
    let i = stepped_ix w f e in
    keeps_then i (stepped_iy w (stepped w IX f) i.long)
made_keeps Cmpbk w x y f e =
    let c = compared_keeps w x y f e in
    let i = stepped_ix w (compared w x y f) c.long in
    keeps_then c (keeps_then i (stepped_iy w (stepped w IX (compared w x y f)) i.long))
made_keeps Cmpm w x y f e =
    let c = compared_keeps w (read_reg w (file_of f) AW) y f e in
    keeps_then c (stepped_iy w (compared w (read_reg w (file_of f) AW) y f) c.long)
made_keeps Ldm w x y f e =
    let l = loaded_keeps w x f e in
    keeps_then l (stepped_ix w (loaded w x f) l.long)
made_keeps Stm w x y f e = stepped_iy w f e
made_keeps Inm w x y f e = keeps_all e
made_keeps Outm w x y f e = keeps_all e

-- ---- an index register that has a block moves by one element

moved_dir : (w : Bool) (x y : ℕ) (n o : ℕ) → stepped_of w (flag_of (settled keeps (column (difference w x y false).column) n) DIR) o ≡ stepped_of w (flag_of n DIR) o
moved_dir w x y n o = ap (λ d. stepped_of w d o) (flag_settled keeps (column (difference w x y false).column) n DIR)

abbrev pub Moves : ℕ → Primitive → Bool → (x y : ℕ) → List ℕ → Type 0
Moves n k w x y f = get_or (made k w x y f) n 0 ≡ stepped_of w (flag_of (get_or f PSW 0) DIR) (get_or f n 0)

pub made_ix : (k : Primitive) (w : Bool) (x y : ℕ) → T (has_source k) → of_memory k ≡ true → (f : List ℕ) → length f ≡ 14 → Moves IX k w x y f
unfolding made stepped compared loaded
made_ix Movbk w x y t m = fourteen (Moves IX Movbk w x y) (λ a b c d e f g h i j k l m n. refl)
made_ix Cmpbk w x y t m = fourteen (Moves IX Cmpbk w x y) (λ a b c d e f g h i j k l m n. moved_dir w x y n g)
made_ix Cmpm w x y t m = absurd t
made_ix Ldm w x y t m = fourteen (Moves IX Ldm w x y) (λ a b c d e f g h i j k l m n. refl)
made_ix Stm w x y t m = absurd t
made_ix Inm w x y t m = absurd t
made_ix Outm w x y t m = absurd (false≢true m)

pub made_iy : (k : Primitive) (w : Bool) (x y : ℕ) → T (has_target k) → of_memory k ≡ true → (f : List ℕ) → length f ≡ 14 → Moves IY k w x y f
unfolding made stepped compared
made_iy Movbk w x y t m = fourteen (Moves IY Movbk w x y) (λ a b c d e f g h i j k l m n. refl)
made_iy Cmpbk w x y t m = fourteen (Moves IY Cmpbk w x y) (λ a b c d e f g h i j k l m n. moved_dir w x y n h)
made_iy Cmpm w x y t m = fourteen (Moves IY Cmpm w x y) (λ a b c d e f g h i j k l m n. moved_dir w (read_reg w (file_of (a ∷ b ∷ c ∷ d ∷ e ∷ f ∷ g ∷ h ∷ i ∷ j ∷ k ∷ l ∷ m ∷ n ∷ [])) AW) y n h)
made_iy Ldm w x y t m = absurd t
made_iy Stm w x y t m = fourteen (Moves IY Stm w x y) (λ a b c d e f g h i j k l m n. refl)
made_iy Inm w x y t m = absurd (false≢true m)
made_iy Outm w x y t m = absurd t

-- CW and PC as they are
pub placed_back : (f : List ℕ) → length f ≡ 14 → placed (get_or f CW 0) (get_or f PC 0) f ≡ f
placed_back = fourteen (λ f. placed (get_or f CW 0) (get_or f PC 0) f ≡ f) (λ a b c d e f g h i j k l m n. refl)

pub placed_pc : (p : ℕ) (f : List ℕ) → length f ≡ 14 → placed (get_or f CW 0) p f ≡ set f PC p
placed_pc p = fourteen (λ f. placed (get_or f CW 0) p f ≡ set f PC p) (λ a b c d e f g h i j k l m n. refl)
