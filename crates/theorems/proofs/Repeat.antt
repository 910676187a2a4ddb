-- Demand 3, of every engine whose calls tell what the definition's calls come to.
use Prim.Native.Nat.{ℕ, zero, suc, ◌-◌, ◌≤◌, ◌<◌}
use mathlib.Core.Path.{◌≡◌, refl, sym, ap, ap₂, subst, ◌∙◌}
use mathlib.Core.Bool.{Bool, true, false, or-true, true≢false}
use mathlib.Core.List.{List, [], ◌∷◌, ◌++◌}
use native.Mathlib.Decide.{dec_lt}
use native.Mathlib.Nat.{le_refl, not-suc-le-zero, sub-zero}
use native.Mathlib.Omega.{arith}
use borrow.Author.Tests.{ne_eqb}
use lib.ListN.{get_or, set}
use Rattle.sheet.specs.declared.Instr.TheVariants.{Blocks}
use Rattle.sheet.specs.Width.{pick, sub16}
use Rattle.sheet.specs.Psw.{native_of}
use Rattle.sheet.specs.Registers.{CW, IX, IY, DS1, PS, PC, PSW, file_of, segment}
use Rattle.sheet.specs.Memory.{byte_at}
use Rattle.sheet.specs.World.{World, psw_of}
use Rattle.sheet.specs.Handler.{Event, Outcome, refused, done, kept, happened}
use Rattle.sheet.specs.Reading.{known, scan}
use Rattle.sheet.specs.FirstByte.{instruction}
use Rattle.sheet.specs.CardCodes.{card_instruction}
use Rattle.sheet.specs.Step as sheet
use Rattle.sheet.specs.Step.{fits, sound, refusal, code_at, source, awake, step_by, step, interrupt, instruction_in}
use Rattle.sheet.proofs.ReadingLaws.{scan_rests}
use Rattle.sheet.proofs.Lent.{Lent, Sound, Good, lent_refl}
use Rattle.sheet.proofs.StepLaws.{sound_is, step_leaves, interrupt_leaves}
use Rattle.step_answer.proofs.RunLaws.{sound_so, fits_so}
use Rattle.theorems.proofs.BoundsStep.{step_is}
use Rattle.theorems.specs.Repeat.{Block, ends, single, singles, elements, reg, Kept, own_byte, source_byte, target_byte, past, placed, Engine, Call, stepped, interrupted, Calls, no_call, and_then_lem, Gap, quiet, service, Own, begun, next_own, Answered, shown, Taken, After, Claimed, Demand3}
use Rattle.theorems.specs.RepeatEngines.{accesses, Tells, accepts, refuses, engine, definition}
use Rattle.theorems.proofs.RepeatCount.{first_or_le, first_or_pos, first_or_before, first_or_end}
use Rattle.theorems.proofs.RepeatFile.{Keeps, placed_reads, placed_back, placed_pc}
use Rattle.theorems.proofs.RepeatPrimitive.{file_after, CoversDue, Agree, primitive_local}
use Rattle.theorems.proofs.RepeatSingles.{covers_by, single_is, singles_next, singles_keep, source_is, target_is, singles_own}
use Rattle.theorems.proofs.RepeatTurn.{over, Turned, element_turn, empty_turn}

-- an engine whose calls tell what the definition's calls come to
pub record Faithful (E : Engine) : Type 0 where
  pub step_tells : {w v : World} {n : ℕ} {o : E.Shown} → E.Step w n v o → Tells E.of w (step w) n v o
  pub interrupt_tells : {x : ℕ} {m : Bool} {w v : World} {n : ℕ} {o : E.Shown} → E.Interrupt x m w n v o → Tells E.of w (interrupt x m w) n v o
  pub same_shown : (t t' : List Event) → accesses t ≡ accesses t' → E.of t ≡ E.of t'

-- ---- a step that is accepted

-- a call that is refused by a number other than 0 does not tell 0
not_zero : {O : Type 0} {of : List Event → O} {w v : World} {out : Outcome Unit} {o : O} (n : ℕ) → Tells of w out 0 v o → out ≡ refusal (suc n) → ⊥
not_zero n (accepts e) h = true≢false cc
not_zero n (refuses e) h = let z : ◌≡◌ {A = ℕ} 0 (suc n) = cc in omega arith

pub record Ready (w : World) : Type 0 where
  pub fit : fits w ≡ true
  pub good : sound w ≡ true
  pub up : w.state.marks.halted ≡ false

-- numbers 1, 2 and 8 were not due
pub ready : {O : Type 0} {of : List Event → O} {w v : World} {o : O} → Tells of w (step w) 0 v o → Ready w
unfolding step step_by awake
ready {w = w} h = go (fits w) (sound w) w.state.marks.halted refl refl refl
  where
    go : (f s u : Bool) → fits w ≡ f → sound w ≡ s → w.state.marks.halted ≡ u → Ready w
    go true true false a b c = record { fit = a; good = b; up = c }
    go true true true a b c = absurd (not_zero 7 h (rw (a, b, c)))
    go true false u a b c = absurd (not_zero 1 h (rw (a, b)))
    go false s u a b c = absurd (not_zero 0 h (rw a))

-- the world in which the instruction's own step begins
abbrev pub at_start : Block → World → World
at_start i w = sheet.starting (Blocks i.kind i.word i.seg i.repeat) w

-- what is read at PS:PC is what the step does
pub turned : (w : World) (i : Block) {file ram : List ℕ} {events : List Event} → Ready w
    → instruction_in w ≡ known (Blocks i.kind i.word i.seg i.repeat) i.size
    → (made : Turned i.kind i.word i.seg i.repeat i.size (at_start i w) file ram events) → step w ≡ done tt made.v made.t
turned w i r e made = step_is w _ i.size (r.fit, r.good) r.up e ∙ made.ran.is

-- ---- calls keep what is lent, and a sound state

lent_then : {w v u : World} → Lent w v → Lent v u → Lent w u
lent_then x y = record {
  ram_long = y.ram_long ∙ x.ram_long;
  rom_same = y.rom_same ∙ x.rom_same;
  tape_same = y.tape_same ∙ x.tape_same;
  log_long = y.log_long ∙ x.log_long;
}

step_good : {w v : World} {t : List Event} → Sound w → step w ≡ done tt v t → Good w v
unfolding step
step_good {w} {v} {t} s e = step_leaves kept w v t s.whole e

-- what holds of the world that a call is given, and of what it leaves where it is done, holds of the world that it tells
pub told_so : {O : Type 0} {of : List Event → O} {w v : World} {out : Outcome Unit} {n : ℕ} {o : O} (P : World → Type 0) → P w → ((u : World) (t : List Event) → out ≡ done tt u t → P u) → Tells of w out n v o → P v
told_so P p f (accepts {v} {t} e) = f v t e
told_so P p f (refuses e) = p

pub good_itself : {w : World} → Sound w → Good w w
good_itself {w} s = record { lent = lent_refl w; sound = s }

module _ (E : Engine) (F : Faithful E) where
  pub call_leaves : {w v : World} → Sound w → Call E w v → Good w v
  unfolding interrupt
  call_leaves {w} s (stepped o h) = told_so (Good w) (good_itself s) (λ u t e. step_good s e) (F.step_tells h)
  call_leaves {w} s (interrupted x m o r h) = told_so (Good w) (good_itself s) (λ u t e. interrupt_leaves kept w u t s.whole x m e) (F.interrupt_tells h)

  calls_leave : {w v : World} → Sound w → Calls E w v → Good w v
  calls_leave s no_call = good_itself s
  calls_leave s (and_then_lem u c) =
      let g = calls_leave s u in
      let h = call_leaves g.sound c in
      record { lent = lent_then g.lent h.lent; sound = h.sound }

  -- a step that the definition accepts is answered so
  record Told (n : ℕ) (v u : World) (o : E.Shown) (t : List Event) : Type 0 where
    zero_is : n ≡ 0
    world_is : u ≡ v
    shown_is : o ≡ E.of t

  answered : {w u v : World} {n : ℕ} {o : E.Shown} {t : List Event} → E.Step w n u o → step w ≡ done tt v t → Told n v u o t
  answered {w} {v = v} {t = t} h e = go (F.step_tells h)
    where
      go : {n : ℕ} {u : World} {o : E.Shown} → Tells E.of w (step w) n u o → Told n v u o t
      go (accepts {v = v'} {t = t'} x) = record { zero_is = refl; world_is = cc; shown_is = ap E.of (cc) }
      go (refuses x) = absurd (true≢false cc)

-- ---- k, and where PC goes

module _ (i : Block) (w : World) where
  abbrev psw_after : ℕ → ℕ
  psw_after j = psw_of (singles i w j).state

  abbrev pc_after : ℕ → ℕ
  pc_after j = pick (over i.kind i.repeat (reg w CW - j) (psw_after (suc j))) (past i w) (reg w PC)

  pub elements_le : elements i w ≤ reg w CW
  unfolding elements
  elements_le = first_or_le (reg w CW) _

  pc_stays : (j : ℕ) → reg w CW < 65536 → suc j < elements i w → pc_after j ≡ reg w PC
  unfolding elements
  pc_stays j s h =
      let f : ℕ → Bool = λ x. ends i.kind i.repeat (psw_after x) in
      let le = first_or_le (reg w CW) f in
      rw (first_or_before (reg w CW) f j h, ne_eqb (sub16 (reg w CW - j) 1) 0 (λ e. omega arith))

  pc_past : (j : ℕ) → reg w CW < 65536 → suc j ≡ elements i w → pc_after j ≡ past i w
  unfolding elements
  pc_past j s h = go (dec_lt (suc j) (reg w CW))
    where
      f : ℕ → Bool
      f = λ x. ends i.kind i.repeat (psw_after x)

      go : Dec (suc j < reg w CW) → pc_after j ≡ past i w
      go (yes lt) =
          let e : f (suc j) ≡ true = rw h (first_or_end (reg w CW) f (rw h at lt)) in
          rw e
      go (no nl) =
          let le = first_or_le (reg w CW) f in
          let e : sub16 (reg w CW - j) 1 ≡ 0 = omega arith in
          rw (e, or-true)

-- ---- the claim

module _ (E : Engine) (F : Faithful E) (i : Block) (w : World) (t : Taken E i w) (K : ℕ → Type 0) (inside : (a : ℕ) → Kept i w (elements i w) a → K a) where
  -- what holds between own steps, PC at p
  record Inv (p j : ℕ) (l : List E.Shown) (v : World) : Type 0 where
    registers : v.state.file ≡ placed (reg w CW - j) p (singles i w j).state.file
    memory : Agree K v.ram v.rom (singles i w j).ram (singles i w j).rom
    showed : l ≡ shown E i w j
    lent : Lent w v
    sound : Sound v
    awake : v.state.marks.halted ≡ false

  at_first : Ready w
  at_first = let (v, o, h) = t.accepted in ready (F.step_tells h)

  keep : (j : ℕ) → Keeps w.state.file (singles i w j).state.file
  keep j = singles_keep i w t.blocks t.whole j

  inv_begun : Inv (reg w PC) 0 [] w
  unfolding singles shown
  inv_begun =
      record {
        registers = rw (sub-zero (reg w CW)) (sym (placed_back w.state.file t.whole));
        memory = record { long = refl; same = λ a k. refl };
        showed = refl;
        lent = lent_refl w;
        sound = sound_is w t.whole at_first.good;
        awake = at_first.up;
      }

  -- what falls between changes none of it
  across : {p j : ℕ} {l : List E.Shown} {v v' : World} → Inv p j l v → Gap E K v v' → Inv p j l v'
  across {p} {j} {l} x (quiet e) = subst (λ v. Inv p j l v) (sym e) x
  across x (service s r) =
      let g = call_leaves E F x.sound (interrupted s.vector s.maskable s.shown s.in_range s.taken) in
      let h = calls_leave E F g.sound s.served in
      record {
        registers = r.registers ∙ x.registers;
        memory = record { long = h.lent.ram_long ∙ g.lent.ram_long ∙ x.memory.long; same = λ a k. r.kept a k ∙ x.memory.same a k };
        showed = x.showed;
        lent = lent_then x.lent (lent_then g.lent h.lent);
        sound = h.sound;
        awake = s.up_again;
      }

  -- a step is to be made again
  ready_again : {p j : ℕ} {l : List E.Shown} {v : World} → Inv p j l v → Ready v
  ready_again {v = v} x = record { fit = fits_so _ v x.lent at_first.fit; good = sound_so v x.sound (rw x.awake); up = x.awake }

  -- the instruction is read again
  still_read : {j : ℕ} {l : List E.Shown} {v : World} → j ≤ reg w CW → Inv (reg w PC) j l v
      → instruction_in v ≡ known (Blocks i.kind i.word i.seg i.repeat) i.size
  unfolding instruction_in
  still_read {j} {l} {v} h x =
      let f : List ℕ = (singles i w j).state.file in
      let r = placed_reads (reg w CW - j) (reg w PC) f (keep j).long in
      let ps : get_or v.state.file PS 0 ≡ reg w PS = ap (λ g. get_or g PS 0) x.registers ∙ r.ps ∙ (keep j).ps in
      let pc : get_or v.state.file PC 0 ≡ reg w PC = ap (λ g. get_or g PC 0) x.registers ∙ r.pc in
      let md : native_of (psw_of v.state) ≡ native_of (psw_of w.state) = ap (λ g. native_of (get_or g PSW 0)) x.registers ∙ ap (λ n. native_of n) r.psw ∙ (keep j).mode in
      ap (λ (b : Bool). scan (pick b instruction card_instruction) (source v) 0) md
      ∙ sym
      (scan_rests (pick (native_of (psw_of w.state)) instruction card_instruction) (source w) (source v) 0
      (λ c low high.
      let in_size : c < i.size = rw t.read at high in
      rw (ps, pc)
      (sym
      (x.memory.same (code_at (reg w PS) (reg w PC) c) (inside _ (own_byte c in_size refl))
      ∙ singles_own i w t.blocks t.whole t.clean j h c in_size))))
      ∙ t.read

  -- one own step: accepted, and one more single primitive
  record Next (p j : ℕ) (l : List E.Shown) (v : World) : Type 0 where
    u : World
    events : List Event
    is : step v ≡ done tt u events
    inv : Inv p (suc j) (l ++ (E.of events ∷ [])) u

  own_step : {j : ℕ} {l : List E.Shown} {v : World} → j < elements i w → Inv (reg w PC) j l v → Next (pc_after i w j) j l v
  unfolding sheet.starting sheet.loads_segment shown
  own_step {j} {l} {v} h x =
      let le = elements_le i w in
      let wide = t.sixteen in
      let f : List ℕ = (singles i w j).state.file in
      let c : ℕ = reg w CW - j in
      let k = keep j in
      let covers : CoversDue K i.kind i.word i.seg f = (
        λ hs. covers_by i.word (file_of f (segment i.seg)) (get_or f IX 0) (λ a q. inside a (source_byte j h hs (source_is i w t.blocks t.whole hs j a q))),
        λ ht. covers_by i.word (get_or f DS1 0) (get_or f IY 0) (λ a q. inside a (target_byte j h ht (target_is i w t.blocks t.whole ht j a q))),
      ) in
      let same = primitive_local K i.kind i.word i.seg f v.ram v.rom (singles i w j).ram (singles i w j).rom t.blocks covers x.memory in
      let made =
      element_turn i.kind i.word i.seg i.repeat i.size c (reg w PC) (at_start i v) f k.long x.registers (k.brk ∙ t.untraced) t.blocks t.repeated
      (ne_eqb c 0 (λ e. omega arith)) in
      let is = turned v i (ready_again x) (still_read (omega arith) x) made in
      let left = step_good x.sound is in
      let less : sub16 c 1 ≡ reg w CW - suc j = omega arith in
      let after = singles_next i w t.blocks j in
      let file : file_after i.kind i.word i.seg f v.ram v.rom ≡ (singles i w (suc j)).state.file = same.file ∙ ap (λ u. u.state.file) (sym after) in
      record {
        u = made.v;
        events = made.t;
        is = is;
        inv =
            record {
              registers = made.file_is ∙ rw (file, less);
              memory =
                  record {
                    long = rw (made.ram_is, after) same.memory.long;
                    same = λ a q. rw (made.ram_is, made.rom_is, after) (same.memory.same a q);
                  };
              showed =
                  ap₂ (λ y z. y ++ (z ∷ [])) x.showed
                  (F.same_shown made.t (happened (single i (singles i w j))) (made.shows ∙ rw (single_is i w t.blocks (singles i w j)) (ap accesses same.events)));
              lent = lent_then x.lent left.lent;
              sound = left.sound;
              awake = made.halted_is ∙ x.awake;
            };
      }

  -- the next own step, whatever fell before it and whatever it answered
  next_step : {j n : ℕ} {l : List E.Shown} {o : E.Shown} {v v' v'' : World} → j < elements i w → Inv (reg w PC) j l v → Gap E K v v' → E.Step v' n v'' o
      → (n ≡ 0) × Inv (pc_after i w j) (suc j) (l ++ (o ∷ [])) v''
  next_step {j} {l = l} h x g s =
      let m = own_step h (across x g) in
      let a = answered E F s m.is in
      (a.zero_is, rw (a.world_is, a.shown_is) m.inv)

  way : {j : ℕ} {l : List E.Shown} {v : World} → Own E K w j l v → j < elements i w → Inv (reg w PC) j l v
  way begun h = inv_begun
  way (next_own {j} {l} {o} {v'' = v''} x g s) h =
      subst (λ p. Inv p (suc j) (l ++ (o ∷ [])) v'') (pc_stays i w j t.sixteen h) (next_step (omega arith) (way x (omega arith)) g s).1

  end : {j : ℕ} {l : List E.Shown} {v : World} → Own E K w j l v → j ≡ elements i w → 0 < j → Inv (past i w) j l v
  end begun h pos = absurd (not-suc-le-zero pos)
  end (next_own {j} {l} {o} {v'' = v''} x g s) h pos =
      subst (λ p. Inv p (suc j) (l ++ (o ∷ [])) v'') (pc_past i w j t.sixteen h) (next_step (omega arith) (way x (omega arith)) g s).1

  after : {p j : ℕ} {l : List E.Shown} {v : World} → Inv p j l v → After E i w K p j l v
  after x = record { registers = x.registers; kept = x.memory.same; accesses = x.showed; awake = x.awake }

  reach : ((j : ℕ) (l : List E.Shown) (v : World) → j < elements i w → Own E K w j l v → (v' : World) × Gap E K v v' × Answered E v')
      → (j : ℕ) → j ≤ elements i w → (l : List E.Shown) × (v : World) × Own E K w j l v
  reach plan zero h = ([], w, begun)
  reach plan (suc j) h =
      let (l, v, x) = reach plan j (omega arith) in
      let (v', g, r) = plan j l v h x in
      let (n, u, o, s) = r in
      let z = (next_step h (way x h) g s).0 in
      (l ++ (o ∷ []), u, next_own x g (subst (λ n. E.Step v' n u o) z s))

  -- CW = 0
  at_zero : reg w CW ≡ 0 → (n : ℕ) (v u : World) (o : E.Shown) → Gap E K w v → E.Step v n u o
      → (n ≡ 0) × (u.state.file ≡ set w.state.file PC (past i w)) × (u.ram ≡ v.ram) × (o ≡ E.of [])
  unfolding sheet.starting sheet.loads_segment singles
  at_zero z n v u o g s =
      let x = across inv_begun g in
      let here : v.state.file ≡ placed (reg w CW) (reg w PC) w.state.file = rw (sub-zero (reg w CW)) at x.registers in
      let made = empty_turn i.kind i.word i.seg i.repeat i.size (reg w CW) (reg w PC) (at_start i v) w.state.file t.whole here t.untraced t.repeated (rw z) in
      let is = turned v i (ready_again x) (still_read (omega arith) x) made in
      let a = answered E F s is in (
        a.zero_is,
        ap (λ y. y.state.file) a.world_is ∙ made.file_is ∙ placed_pc (past i w) w.state.file t.whole,
        ap (λ y. y.ram) a.world_is ∙ made.ram_is,
        a.shown_is ∙ F.same_shown made.t [] made.shows,
      )

  claimed : Claimed E i w (elements i w) K
  unfolding elements
  claimed =
      record {
        empty = at_zero;
        goes_on = λ j n l o v v' v'' h x g s. (next_step h (way x h) g s).0;
        on_the_way = λ j l v h x. after (way x h);
        at_the_end = λ l v pos x. after (end x refl pos);
        comes_to_an_end = λ plan. reach plan _ (le_refl _);
        some_element = first_or_pos (reg w CW) _;
      }

-- DEMAND 3 holds of every faithful engine
pub demand3 : (E : Engine) → Faithful E → Demand3 E
demand3 E F i w t K inside = claimed E F i w t K inside

-- an engine that is a function answers every step
pub answers : (steps : World → Outcome Unit) (interrupts : ℕ → Bool → World → Outcome Unit) (w : World) → Answered (engine steps interrupts) w
answers steps interrupts w = go (steps w) refl
  where
    go : (out : Outcome Unit) → steps w ≡ out → Answered (engine steps interrupts) w
    go (refused n t) e = (n, w, accesses [], refuses e)
    go (done a v t) e = (0, v, accesses t, accepts e)

-- and so of the definition
pub definition_faithful : Faithful definition
definition_faithful = record { step_tells = λ h. h; interrupt_tells = λ h. h; same_shown = λ t t' e. e }

pub definition_demand3 : Demand3 definition
definition_demand3 = demand3 definition definition_faithful

-- ---- readings

-- its blocks may be taken as CW elements each: those of the k that are done are among them
pub blocks_of_cw : (i : Block) (w : World) (a : ℕ) → Kept i w (elements i w) a → Kept i w (reg w CW) a
blocks_of_cw i w a (own_byte c h e) = own_byte c h e
blocks_of_cw i w a (source_byte j h s e) = let le = elements_le i w in source_byte j (omega arith) s e
blocks_of_cw i w a (target_byte j h s e) = let le = elements_le i w in target_byte j (omega arith) s e

-- where services put back all memory, or none falls between, all memory is as the single primitives leave it
pub whole_memory : (E : Engine) → Demand3 E → (i : Block) (w : World) → Taken E i w → 0 < elements i w → (l : List E.Shown) (v : World)
    → Own E (λ a. Unit) w (elements i w) l v → (a : ℕ) → byte_at v.ram v.rom a ≡ byte_at (singles i w (elements i w)).ram (singles i w (elements i w)).rom a
whole_memory E d i w t pos l v x a = ((d i w t (λ a. Unit) (λ a k. tt)).at_the_end l v pos x).kept a tt
