-- Four engines that demand 3 rules out: one that does a whole repeat in one step, one that writes every byte there and idles
-- through the other steps, one that returns to the last prefix only, and one that loses its place in a service. Each is the
-- definition, spoilt; the claim is refuted on the example's move of three bytes.
use Prim.Native.Nat.{ℕ, zero, suc, ◌+◌, ◌-◌, ◌<◌}
use mathlib.Core.Path.{◌≡◌, refl, sym, ap, ◌∙◌}
use mathlib.Core.Logic.{◌≢◌}
use mathlib.Core.List.{List, [], ◌∷◌}
use native.Mathlib.Omega.{arith}
use lib.Dec.{eqb, lit≤, lit<}
use lib.ListN.{get_or, set}
use Rattle.sheet.specs.Width.{pick}
use Rattle.sheet.specs.Registers.{CW, PC}
use Rattle.sheet.specs.Memory.{byte_at}
use Rattle.sheet.specs.World.{World, world, with_state, with_file}
use Rattle.sheet.specs.Handler.{Event, Outcome, refused, done}
use Rattle.sheet.specs.Block.{stepped_of}
use Rattle.sheet.specs.Step.{step, interrupt}
use Rattle.theorems.specs.Repeat.{Block, single, singles, reg, elements, Kept, Engine, Taken, walk, low, target_byte, placed, quiet, begun, next_own, After, Demand3}
use Rattle.theorems.specs.RepeatEngines.{accesses, accepts, engine}
use Rattle.theorems.proofs.RepeatExample.{move3, start, back, opened, three_elements, Mine, mine, Goes, taken, second, goes_by}
use Rattle.theorems.proofs.RepeatFile.{placed_reads}
use Rattle.theorems.proofs.RepeatSingles.{singles_keep}

-- what demand 3 says of the first step
after_first : (wrong : World → Outcome Unit) (v : World) (t : List Event) → wrong start ≡ done tt v t → Demand3 (engine wrong interrupt)
    → After (engine wrong interrupt) move3 start Mine 64 1 (accesses t ∷ []) v
after_first wrong v t e d =
    let k = d move3 start (taken (engine wrong interrupt) v (accesses t) (accepts e)) Mine mine in
    k.on_the_way 1 _ v (rw three_elements (lit≤ tt)) (next_own begun (quiet refl) (accepts e))

-- WHATEVER ENGINE: where more than one element is due, after own step 1 CW is one less and PC is on the first byte
pub first_own_step : (E : Engine) → Demand3 E → (i : Block) (w v : World) (o : E.Shown) → Taken E i w → 1 < elements i w → E.Step w 0 v o
    → (reg v CW ≡ reg w CW - 1) × (reg v PC ≡ reg w PC)
first_own_step E d i w v o t l s =
    let a = (d i w t (Kept i w (elements i w)) (λ a k. k)).on_the_way 1 _ v l (next_own begun (quiet refl) s) in
    let r = placed_reads (reg w CW - 1) (reg w PC) (singles i w 1).state.file (singles_keep i w t.blocks t.whole 1).long in
    (ap (λ f. get_or f CW 0) a.registers ∙ r.cw, ap (λ f. get_or f PC 0) a.registers ∙ r.pc)

-- an engine whose first step leaves PC off the first byte has no demand 3
refuted : (wrong : World → Outcome Unit) (v : World) (t : List Event) → wrong start ≡ done tt v t → reg v PC ≢ 64 → Demand3 (engine wrong interrupt) → ⊥
refuted wrong v t e off d =
    off (first_own_step (engine wrong interrupt) d move3 start v (accesses t) (taken (engine wrong interrupt) v (accesses t) (accepts e)) (rw three_elements (lit≤ tt)) (accepts e)).1

-- it goes on at once while PC stays where it was
hurry : ℕ → ℕ → Outcome Unit → Outcome Unit
hurry zero p o = o
hurry (suc n) p (refused k t) = refused k t
hurry (suc n) p (done a v t) = pick (eqb (reg v PC) p) (hurry n p (step v)) (done a v t)

pub all_at_once : World → Outcome Unit
all_at_once w = hurry (reg w CW) (reg w PC) (step w)

-- "Doing a whole repeat in one step"
pub not_all_at_once : Demand3 (engine all_at_once interrupt) → ⊥
unfolding opened all_at_once hurry
not_all_at_once = refuted all_at_once _ _ refl (λ e. omega arith)

-- it stays on the last prefix where it should stay on the first
pub to_last_prefix : World → Outcome Unit
to_last_prefix w = off (step w)
  where
    off : Outcome Unit → Outcome Unit
    off (refused k t) = refused k t
    off (done a v t) = done a (with_state v (with_file v.state (set v.state.file PC (pick (eqb (reg v PC) (reg w PC)) (reg v PC + 1) (reg v PC))))) t

-- "Returning to the last prefix only"
pub not_to_last_prefix : Demand3 (engine to_last_prefix interrupt) → ⊥
unfolding opened to_last_prefix
not_to_last_prefix = refuted to_last_prefix _ _ refl (λ e. omega arith)

-- it writes every byte in its first step, and idles through the others: registers and PC go as they should
pub idles : World → Outcome Unit
idles w = blend (step w) (all_at_once w)
  where
    blend : Outcome Unit → Outcome Unit → Outcome Unit
    blend (refused k t) o = refused k t
    blend (done a v t) (refused k t') = refused k t'
    blend (done a v t) (done a' v' t') = done a (world v.state v'.ram v.rom v.tape v.log) t

last_byte : byte_at (singles move3 start 1).ram (singles move3 start 1).rom 86 ≡ 0
unfolding opened singles single
last_byte = refl

-- the last byte of the target is to be 0 after one step
early : (v : World) (t : List Event) → idles start ≡ done tt v t → byte_at v.ram v.rom 86 ≡ 3 → Demand3 (engine idles interrupt) → ⊥
unfolding walk stepped_of
early v t e h d =
    let off : ◌≡◌ {A = ℕ} 3 0 = sym h ∙ (after_first idles v t e d).kept 86 (target_byte 2 (lit< tt) tt (low refl)) ∙ last_byte in
    omega arith

pub not_idles : Demand3 (engine idles interrupt) → ⊥
unfolding opened idles all_at_once hurry
not_idles = early _ _ refl refl

-- It loses its place in a service: where three steps are counted it takes the instruction for ended, whatever CW is. Left alone,
-- the move of three bytes is done right; with a service after its first step it is not.
pub loses_its_place : World → Outcome Unit
loses_its_place w = pick (eqb w.state.progress.count 3) (done tt (with_state w (with_file w.state (placed 0 67 w.state.file))) []) (step w)

lost_second : loses_its_place back ≡ done tt (with_state back (with_file back.state (placed 0 67 back.state.file))) []
unfolding loses_its_place
lost_second = refl

lost_goes : Goes (engine loses_its_place interrupt)
unfolding loses_its_place
lost_goes = goes_by loses_its_place refl refl refl

pub not_loses_its_place : Demand3 (engine loses_its_place interrupt) → ⊥
not_loses_its_place d =
    let off : ◌≡◌ {A = ℕ} 67 64 = (second (engine loses_its_place interrupt) lost_goes d 0 _ _ (accepts lost_second)).1 in
    omega arith
