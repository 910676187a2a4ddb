-- One step of a block instruction whose BRK is clear.
use Prim.Native.Nat.{ℕ}
use mathlib.Core.Path.{◌≡◌, refl, ap, ◌∙◌}
use mathlib.Core.Bool.{Bool, true, false, ◌||◌, not-not}
use mathlib.Core.List.{List, [], ◌++◌}
use lib.Dec.{eqb}
use lib.ListN.{length, get_or, set}
use Rattle.sheet.specs.declared.Primitive.{Primitive}
use Rattle.sheet.specs.declared.Repeat.{Repeat}
use Rattle.sheet.specs.declared.Repeat.TheVariants.{Once}
use Rattle.sheet.specs.declared.Instr.TheVariants.{Blocks}
use Rattle.sheet.specs.Width.{pick, add16, sub16}
use Rattle.sheet.specs.Psw.{BRK, flag_of}
use Rattle.sheet.specs.Registers.{CW, PC, PSW}
use Rattle.sheet.specs.World.{World, psw_of}
use Rattle.sheet.specs.Act.{pure}
use Rattle.sheet.specs.Handler.{Event}
use Rattle.sheet.specs.Block.{primitive, element, block}
use Rattle.sheet.specs.Step.{stepping}
use Rattle.theorems.specs.Repeat.{of_memory, repeats, ends, placed}
use Rattle.theorems.specs.RepeatEngines.{accesses}
use Rattle.theorems.proofs.RepeatFile.{fourteen, placed_reads, made_keeps}
use Rattle.theorems.proofs.RepeatPrimitive.{source_due, target_due, file_after, ram_after, trace, worked, primitive_is, file_placed, ram_placed, trace_placed}
use Rattle.theorems.proofs.RepeatRuns.{Runs}
use Rattle.theorems.proofs.RepeatTree.{with_words, asked_after, counted, around, moved, pure_run, element_run, block_repeated, repeated_run, stepping_run, around_accesses, asked_accesses}

-- ---- registers with CW and PC set

placed_moved : (c p x : ℕ) (f : List ℕ) → length f ≡ 14 → set (placed c p f) PC x ≡ placed c x f
placed_moved c p x = fourteen (λ f. set (placed c p f) PC x ≡ placed c x f) (λ a b y d e f g h i j k l m n. refl)

placed_counted : (c d p : ℕ) (f : List ℕ) → length f ≡ 14 → set (placed c p f) CW d ≡ placed d p f
placed_counted c d p = fourteen (λ f. set (placed c p f) CW d ≡ placed d p f) (λ a b y e f g h i j k l m n o. refl)

-- the repeat is over: the comparison ended it, or CW is now 0
abbrev pub over : Primitive → Repeat → ℕ → ℕ → Bool
over k q c x = ends k q x || eqb (sub16 c 1) 0

counted_placed : (k : Primitive) (q : Repeat) (c x p : ℕ) (f : List ℕ) → length f ≡ 14
    → counted k q p (placed c x f) ≡ placed (sub16 c 1) (pick (over k q c (get_or f PSW 0)) x p) f
unfolding counted
counted_placed k q c x p f e =
    let d : ℕ = sub16 c 1 in
    rw ((placed_reads c x f e).cw, placed_counted c d x f e, (placed_reads d x f e).psw, not-not (ends k q (get_or f PSW 0))) (go (over k q c (get_or f PSW 0)))
  where
    go : (t : Bool) → pick t (placed (sub16 c 1) x f) (set (placed (sub16 c 1) x f) PC p) ≡ placed (sub16 c 1) (pick t x p) f
    go true = refl
    go false = placed_moved (sub16 c 1) x p f e

-- ---- the step

-- the block instruction, begun with CW and PC at c and p and other registers as in f
pub record Turned (k : Primitive) (b : Bool) (seg : ℕ) (q : Repeat) (n : ℕ) (w : World) (file ram : List ℕ) (events : List Event) : Type 0 where
  pub v : World
  pub t : List Event
  pub ran : Runs Unit (stepping (Blocks k b seg q) n) w tt v t
  pub file_is : v.state.file ≡ file
  pub ram_is : v.ram ≡ ram
  pub rom_is : v.rom ≡ w.rom
  pub halted_is : v.state.marks.halted ≡ w.state.marks.halted
  pub shows : accesses t ≡ accesses events

module _ (k : Primitive) (b : Bool) (seg : ℕ) (q : Repeat) (n c p : ℕ) (w : World) (f : List ℕ) (e : length f ≡ 14) (here : w.state.file ≡ placed c p f) (clear : flag_of (get_or f PSW 0) BRK ≡ false) where
  untraced : flag_of (psw_of w.state) BRK ≡ false
  untraced = rw (here, (placed_reads c p f e).psw) clear

  moved_is : moved n w ≡ with_words w (placed c (add16 p n) f)
  moved_is = rw (here, (placed_reads c p f e).pc, placed_moved c p (add16 p n) f e)

  start_is : get_or w.state.file PC 0 ≡ p
  start_is = rw here (placed_reads c p f e).pc

  -- the step, by what the instruction itself does once PC is past it
  turned_by : {v : World} {t : List Event} {file ram : List ℕ} {events : List Event} → Runs Unit (block k b seg q p) (with_words w (placed c (add16 p n) f)) tt v t
      → v.state.file ≡ file → v.ram ≡ ram → v.rom ≡ w.rom → v.state.marks.halted ≡ w.state.marks.halted → accesses t ≡ accesses events → Turned k b seg q n w file ram events
  turned_by {v} {t} h words bytes rom up shown =
      let ran : Runs Unit (block k b seg q (get_or w.state.file PC 0)) (moved n w) tt v t = rw (moved_is, start_is) h in
      record {
        v = v;
        t = around t;
        ran = stepping_run k b seg q n untraced ran;
        file_is = words;
        ram_is = bytes;
        rom_is = rom;
        halted_is = up;
        shows = around_accesses t ∙ shown;
      }

  -- with a repeat prefix: nothing where CW is 0, and else an element
  repeats_by : {v : World} {t : List Event} → repeats q ≡ true
      → Runs Unit (pick (eqb c 0) (pure tt) (element k b seg q p)) (with_words w (placed c (add16 p n) f)) tt v t
      → Runs Unit (block k b seg q p) (with_words w (placed c (add16 p n) f)) tt v ([] ++ t)
  repeats_by r h = rw (block_repeated k b seg q p r) (repeated_run k b seg q p (rw (placed_reads c (add16 p n) f e).cw h))

  primitive_run : of_memory k ≡ true
      → Runs Unit (primitive k b seg) (with_words w (placed c (add16 p n) f)) tt (worked k b seg (with_words w (placed c (add16 p n) f)))
      (trace k b seg (placed c (add16 p n) f) w.ram w.rom)
  primitive_run m = record { is = primitive_is k b seg (with_words w (placed c (add16 p n) f)) m }

  -- one element
  pub element_turn : of_memory k ≡ true → repeats q ≡ true → eqb c 0 ≡ false
      → Turned k b seg q n w
      (placed (sub16 c 1) (pick (over k q c (get_or (file_after k b seg f w.ram w.rom) PSW 0)) (add16 p n) p) (file_after k b seg f w.ram w.rom))
      (ram_after k b seg f w.ram w.rom)
      (trace k b seg f w.ram w.rom)
  element_turn m r z =
      let x : ℕ = add16 p n in
      let u : World = with_words w (placed c x f) in
      let y : World = with_words (worked k b seg u) (counted k q p (file_after k b seg (placed c x f) w.ram w.rom)) in
      let t : List Event = trace k b seg (placed c x f) w.ram w.rom ++ ([] ++ ([] ++ (asked_after k q ++ []))) in
      let one : Runs Unit (pick (eqb c 0) (pure tt) (element k b seg q p)) u tt y t = rw z (element_run k b seg q p (primitive_run m)) in
      let long = (made_keeps k b (source_due b seg f w.ram w.rom) (target_due b f w.ram w.rom) f e).long in
      turned_by (repeats_by r one)
      (rw (file_placed c x k b seg f w.ram w.rom e) (counted_placed k q c x p (file_after k b seg f w.ram w.rom) (unfold file_after in long)))
      (ram_placed c x b seg f w.ram w.rom e k) refl refl
      (asked_accesses k q (trace k b seg (placed c x f) w.ram w.rom) ∙ ap accesses (trace_placed c x b seg f w.ram w.rom e k))

  -- CW = 0: PC alone moves
  pub empty_turn : repeats q ≡ true → eqb c 0 ≡ true → Turned k b seg q n w (placed c (add16 p n) f) w.ram []
  empty_turn r z =
      let u : World = with_words w (placed c (add16 p n) f) in
      let one : Runs Unit (pick (eqb c 0) (pure tt) (element k b seg q p)) u tt u [] = rw z (pure_run tt u) in
      turned_by (repeats_by r one) refl refl refl refl refl

  -- no repeat prefix: the primitive, and PC past it
  pub single_turn : of_memory k ≡ true → q ≡ Once
      → Turned k b seg q n w (placed c (add16 p n) (file_after k b seg f w.ram w.rom)) (ram_after k b seg f w.ram w.rom) (trace k b seg f w.ram w.rom)
  unfolding block
  single_turn m o =
      let x : ℕ = add16 p n in
      let u : World = with_words w (placed c x f) in
      let one : Runs Unit (block k b seg q p) u tt (worked k b seg u) (trace k b seg (placed c x f) w.ram w.rom) = rw o (primitive_run m) in
      turned_by one (file_placed c x k b seg f w.ram w.rom e) (ram_placed c x b seg f w.ram w.rom e k) refl refl
      (ap accesses (trace_placed c x b seg f w.ram w.rom e k))
