-- What a single primitive is, told by the step: the same instruction without a repeat prefix, wherever it stands.
use Prim.Native.Nat.{ℕ}
use mathlib.Core.Path.{◌≡◌, sym, ap, subst, ◌∙◌}
use mathlib.Core.Bool.{true, false}
use mathlib.Core.List.{List}
use lib.ListN.{length, set}
use Rattle.sheet.specs.declared.Repeat.TheVariants.{Once}
use Rattle.sheet.specs.declared.Instr.TheVariants.{Blocks}
use Rattle.sheet.specs.Psw.{BRK, flag_of}
use Rattle.sheet.specs.Registers.{CW, PC}
use Rattle.sheet.specs.World.{World, psw_of}
use Rattle.sheet.specs.Handler.{Event, done, happened}
use Rattle.sheet.specs.Reading.{known}
use Rattle.sheet.specs.Step as sheet
use Rattle.sheet.specs.Step.{step, instruction_in}
use Rattle.theorems.specs.Repeat.{Block, of_memory, single, left, singles, reg, past, placed}
use Rattle.theorems.specs.RepeatEngines.{accesses}
use Rattle.theorems.proofs.Repeat.{Ready, at_start, turned}
use Rattle.theorems.proofs.RepeatFile.{placed_back, placed_pc}
use Rattle.theorems.proofs.RepeatPrimitive.{file_after}
use Rattle.theorems.proofs.RepeatSingles.{single_is, singles_keep}
use Rattle.theorems.proofs.RepeatTurn.{single_turn}

-- the step is accepted, PC is just past, all else is as the single primitive leaves it, and the accesses are its own
pub record DoesOnce (i : Block) (w : World) : Type 0 where
  pub v : World
  pub events : List Event
  pub is : step w ≡ done tt v events
  pub registers : v.state.file ≡ set (left w (single i w)).state.file PC (past i w)
  pub ram : v.ram ≡ (left w (single i w)).ram
  pub shows : accesses events ≡ accesses (happened (single i w))

pub single_steps : (i : Block) (w : World) → instruction_in w ≡ known (Blocks i.kind i.word i.seg i.repeat) i.size
    → of_memory i.kind ≡ true → i.repeat ≡ Once → Ready w → length w.state.file ≡ 14 → flag_of (psw_of w.state) BRK ≡ false → DoesOnce i w
unfolding sheet.starting sheet.loads_segment singles
single_steps i w read m once ready long clear =
    let made =
    single_turn i.kind i.word i.seg i.repeat i.size (reg w CW) (reg w PC) (at_start i w) w.state.file long (sym (placed_back w.state.file long)) clear m once in
    let one = single_is i w m w in
    let k = singles_keep i w m long 1 in
    let f : List ℕ = (left w (single i w)).state.file in
    let after : file_after i.kind i.word i.seg w.state.file w.ram w.rom ≡ f = rw one in
    let same : placed (reg w CW) (past i w) f ≡ set f PC (past i w) = subst (λ c. placed c (past i w) f ≡ set f PC (past i w)) k.cw (placed_pc (past i w) f k.long) in
    record {
      v = made.v;
      events = made.t;
      is = turned w i ready read made;
      registers = made.file_is ∙ ap (placed (reg w CW) (past i w)) after ∙ same;
      ram = rw one made.ram_is;
      shows = rw one made.shows;
    }
