-- Interrupts after a segment load: the next instruction runs first, and nothing comes between.
use Prim.Native.Nat.{ℕ}
use mathlib.Core.Path.{◌≡◌, refl, ap, ◌∙◌}
use mathlib.Core.Bool.{Bool, true, false}
use mathlib.Core.List.{List}
use lib.ListN.{length}
use Rattle.sheet.specs.declared.Primitive.{Primitive}
use Rattle.sheet.specs.declared.Repeat.{Repeat}
use Rattle.sheet.specs.declared.Instr.TheVariants.{Blocks}
use Rattle.sheet.specs.World.{World}
use Rattle.sheet.specs.Handler.{Event, Outcome, done, kept, nothing}
use Rattle.sheet.specs.Contract.{seen, report, report_of}
use Rattle.sheet.specs.Step.{loads_segment, step, interrupt, interrupt_report}
use Rattle.sheet.proofs.StepLaws.{Stepped, begins, step_leaves}
use Rattle.sheet.proofs.MarkLaws.{step_marks, step_unmixed, held_off}
use Rattle.step_answer.proofs.RunLaws.{sound_so, fits_so}

-- a finished step, and the instruction that it did
module _ (w v : World) (t : List Event) (n : length w.state.file ≡ 14) (e : step w ≡ done tt v t) where
  pub did : Stepped kept w v t
  unfolding step
  did = begins kept w v t e

  -- after a segment load every interrupt call is refused with 13, masked or not, and hands the state back: so what comes next is the
  -- instruction behind the load, and a pair that loads SS and SP is never split
  pub pair_unsplit : loads_segment did.instr ≡ true → (vector : ℕ) (maskable : Bool) → interrupt_report vector maskable v ≡ report 13 v nothing
  unfolding step did interrupt_report interrupt
  pair_unsplit l vector maskable =
      let g = step_leaves kept w v t n e in
      ap (λ (o : Outcome Unit). report_of v (seen o))
      (held_off kept vector maskable v (fits_so w v g.lent did.fit) (sound_so v g.sound (step_unmixed kept w v t n e)) (step_marks kept w v t n did ∙ l))

  -- any other finished step clears the mark
  pub others_clear : loads_segment did.instr ≡ false → v.state.marks.loaded ≡ false
  others_clear l = step_marks kept w v t n did ∙ l

-- each step of a block instruction, repeated or not, is one of those
pub blocks_clear : (k : Primitive) (b : Bool) (seg : ℕ) (q : Repeat) → loads_segment (Blocks k b seg q) ≡ false
unfolding loads_segment
blocks_clear k b seg q = refl
