-- The marks: what a step makes of them, and that no call leaves a machine both halted and marked.
use Prim.Native.Nat.{ℕ}
use mathlib.Core.Path.{◌≡◌, refl, sym, ◌∙◌}
use mathlib.Core.Bool.{Bool, true, false, not, ◌&&◌, true≢false}
use mathlib.Core.List.{List}
use lib.ListN.{length}
use Rattle.sheet.specs.declared.Marks.{Marks}
use Rattle.sheet.specs.declared.State.{State}
use Rattle.sheet.specs.declared.Place.TheVariants.{Register, Memory}
use Rattle.sheet.specs.declared.Transfer.TheVariants.{Mov, LoadAcc, StoreAcc, ToSegment, FromSegment, LoadPointer, AhFromPsw, PswFromAh, Ldea, Trans, Xch}
use Rattle.sheet.specs.declared.Stack.TheVariants.{Push, PushByte, PushWord, PushSegment, PushPsw, PushR, Pop, PopSegment, PopR, Prepare, Dispose}
use Rattle.sheet.specs.declared.Move.TheVariants.{Transfers, Stacks, Branches, Tests}
use Rattle.sheet.specs.declared.Instr.{Instr}
use Rattle.sheet.specs.declared.Instr.TheVariants.{Computes, Moves, Multiplies, Interrupts, Blocks, Ports, Controls, Modes, Cards}
use Rattle.sheet.specs.Width.{pick}
use Rattle.sheet.specs.Psw.{Flag, Choice, flag_of, Crossing, to_native, to_cards, back, stored}
use Rattle.sheet.specs.Registers.{File, file_of, written}
use Rattle.sheet.specs.Memory.{read_mem}
use Rattle.sheet.specs.World.{World, with_state, with_file, with_mode, crossed, psw_of}
use Rattle.sheet.specs.Act as act
use Rattle.sheet.specs.Act.{Act}
use Rattle.sheet.specs.Operand.{reg_value, locate, fetch, value_at}
use Rattle.sheet.specs.Traps.{pop, pop_into, untrapped}
use Rattle.sheet.specs.Transfer.{to_segment, transfer, mov_in}
use Rattle.sheet.specs.Stack.{pop_segment, stack, pop_in}
use Rattle.sheet.specs.Execute.{moving, operation, execute}
use Rattle.sheet.specs.Handler.{Event, reads, asks, done, run_by}
use Rattle.sheet.specs.Step.{fits, sound, marks_good, refusal, moves_in, loads_segment, interrupting, single_step, starting, stepping, step_by, interrupt_by}
use Rattle.sheet.proofs.Lent.{Leaves, leaves, leaves_then, Kept, Good, good_kept, keeps_all, lent_refl}
use Rattle.sheet.proofs.StepLaws.{Stepped, begins, enters, sound_is, starting_sound}

-- ---- no tree touches the mark of a segment load

crossed_loaded : (c : Crossing) (s : State) → (crossed c s).marks.loaded ≡ s.marks.loaded
unfolding crossed
crossed_loaded to_native s = refl
crossed_loaded to_cards s = refl
crossed_loaded back s = refl
crossed_loaded (stored b) s = go s.marks.writable
  where
    go : (t : Bool) → (pick t (with_mode s b) s).marks.loaded ≡ s.marks.loaded
    go true = refl
    go false = refl

record MarkStays (w : World) (b : Bool) (v : World) : Type 0 where
  good : Good w v
  stays : v.state.marks.loaded ≡ b

mark_kept : (w : World) (b : Bool) → Kept (MarkStays w b)
mark_kept w b =
    let k = good_kept w in
    record {
      in_tape = λ v m. k.in_tape v m.good;
      at_register = λ v n x m. record { good = k.at_register v n x m.good; stays = m.stays };
      at_psw = λ v u c m. record { good = k.at_psw v u c m.good; stays = m.stays };
      at_store = λ v c s o x m. record { good = k.at_store v c s o x m.good; stays = m.stays };
      at_record = λ v n l h r m. record { good = k.at_record v n l h r m.good; stays = m.stays };
      at_halt = λ v h m. record { good = k.at_halt v h m.good; stays = m.stays };
      at_crossing = λ v c m. record { good = k.at_crossing v c m.good; stays = crossed_loaded c v.state ∙ m.stays };
    }

mark_of : {w v : World} {b : Bool} {t : List Event} → Leaves {A = Unit {0}} (MarkStays w b) (done tt v t) → v.state.marks.loaded ≡ b
mark_of (leaves m) = m.stays

module _ (u : ℕ → Choice) (w v : World) (t : List Event) (n : length w.state.file ≡ 14) where
  -- a finished step leaves the mark exactly where it loaded a segment register
  pub step_marks : (s : Stepped u w v t) → v.state.marks.loaded ≡ loads_segment s.instr
  unfolding starting
  step_marks s =
      let i = s.instr in
      let g = starting_sound i w (sound_is w n s.good) in
      mark_of (rw s.ran at (keeps_all (MarkStays (starting i w) (loads_segment i)) (mark_kept (starting i w) (loads_segment i)) (stepping i s.size) u (starting i w) (record { good = record { lent = lent_refl (starting i w); sound = g }; stays = refl })))

-- ---- a segment load does not halt

record Unhalted (w v : World) : Type 0 where
  same : v.state.marks ≡ w.state.marks

-- a tree that reads registers, flags and memory, and writes registers
data Calm {A : Type 0} : Act A → Type 0 where
  calm_pure : {a : A} → Calm (act.pure a)
  calm_get : {k : File → Act A} → ((r : File) → Calm (k r)) → Calm (act.get k)
  calm_put : {n v : ℕ} {p : Act A} → Calm p → Calm (act.put n v p)
  calm_ask : {f : Flag} {k : Bool → Act A} → ((b : Bool) → Calm (k b)) → Calm (act.ask f k)
  calm_load : {b : Bool} {g o : ℕ} {k : ℕ → Act A} → ((v : ℕ) → Calm (k v)) → Calm (act.load b g o k)

calm_runs : {A : Type 0} {p : Act A} → Calm p → (u : ℕ → Choice) (w v : World) → v.state.marks ≡ w.state.marks → Leaves (Unhalted w) (run_by u p v)
unfolding run_by
calm_runs calm_pure u w v e = leaves (record { same = e })
calm_runs (calm_get k) u w v e = calm_runs (k (file_of v.state.file)) u w v e
calm_runs (calm_put {n = n} {v = x} p) u w v e = calm_runs p u w (with_state v (with_file v.state (written v.state.file n x))) e
calm_runs (calm_ask {f = f} k) u w v e = leaves_then (asks f) (calm_runs (k (flag_of (psw_of v.state) f)) u w v e)
calm_runs (calm_load {b = b} {g = g} {o = o} k) u w v e = leaves_then (reads b g o) (calm_runs (k (read_mem b v.ram v.rom g o)) u w v e)

-- no trap follows the step
calm_last : (b : Bool) → Calm (single_step ((b && not true) && not false))
unfolding single_step
calm_last true = calm_pure
calm_last false = calm_pure

-- nothing but the two loads says true
load_calm : (i : Instr) (size : ℕ) → loads_segment i ≡ true → Calm (stepping i size)
unfolding loads_segment moves_in mov_in pop_in stepping execute operation moving transfer to_segment value_at locate fetch reg_value stack pop_segment pop_into pop untrapped act.◌>>=◌
load_calm (Computes i) size e = absurd (true≢false (sym e))
load_calm (Moves (Transfers (Mov b to from))) size e = absurd (true≢false (sym e))
load_calm (Moves (Transfers (LoadAcc b from))) size e = absurd (true≢false (sym e))
load_calm (Moves (Transfers (StoreAcc b to))) size e = absurd (true≢false (sym e))
load_calm (Moves (Transfers (ToSegment seg (Register r)))) size e = calm_ask (λ b. calm_get (λ r. calm_put (calm_get (λ r. calm_put (calm_last b)))))
load_calm (Moves (Transfers (ToSegment seg (Memory a)))) size e = calm_ask (λ b. calm_get (λ r. calm_put (calm_get (λ r. calm_load (λ v. calm_put (calm_last b))))))
load_calm (Moves (Transfers (FromSegment to seg))) size e = absurd (true≢false (sym e))
load_calm (Moves (Transfers (LoadPointer seg reg from))) size e = absurd (true≢false (sym e))
load_calm (Moves (Transfers AhFromPsw)) size e = absurd (true≢false (sym e))
load_calm (Moves (Transfers PswFromAh)) size e = absurd (true≢false (sym e))
load_calm (Moves (Transfers (Ldea reg from))) size e = absurd (true≢false (sym e))
load_calm (Moves (Transfers (Trans seg))) size e = absurd (true≢false (sym e))
load_calm (Moves (Transfers (Xch b reg with))) size e = absurd (true≢false (sym e))
load_calm (Moves (Stacks (Push from))) size e = absurd (true≢false (sym e))
load_calm (Moves (Stacks (PushByte v))) size e = absurd (true≢false (sym e))
load_calm (Moves (Stacks (PushWord v))) size e = absurd (true≢false (sym e))
load_calm (Moves (Stacks (PushSegment seg))) size e = absurd (true≢false (sym e))
load_calm (Moves (Stacks PushPsw)) size e = absurd (true≢false (sym e))
load_calm (Moves (Stacks PushR)) size e = absurd (true≢false (sym e))
load_calm (Moves (Stacks (Pop to))) size e = absurd (true≢false (sym e))
load_calm (Moves (Stacks (PopSegment seg))) size e = calm_ask (λ b. calm_get (λ r. calm_put (calm_get (λ r. calm_load (λ v. calm_put (calm_put (calm_last b)))))))
load_calm (Moves (Stacks PopR)) size e = absurd (true≢false (sym e))
load_calm (Moves (Stacks (Prepare size level))) n e = absurd (true≢false (sym e))
load_calm (Moves (Stacks Dispose)) size e = absurd (true≢false (sym e))
load_calm (Moves (Branches i)) size e = absurd (true≢false (sym e))
load_calm (Moves (Tests i)) size e = absurd (true≢false (sym e))
load_calm (Multiplies i) size e = absurd (true≢false (sym e))
load_calm (Interrupts i) size e = absurd (true≢false (sym e))
load_calm (Blocks k b seg q) size e = absurd (true≢false (sym e))
load_calm (Ports i) size e = absurd (true≢false (sym e))
load_calm (Controls i) size e = absurd (true≢false (sym e))
load_calm (Modes i) size e = absurd (true≢false (sym e))
load_calm (Cards i) size e = absurd (true≢false (sym e))

-- the single-step trap does not follow the load, whatever BRK was
pub load_untraced : (i : Instr) (traced trapped : Bool) → loads_segment i ≡ true → single_step ((traced && not (loads_segment i)) && not trapped) ≡ act.pure tt
unfolding single_step
load_untraced i traced trapped l = rw l (go traced)
  where
    go : (t : Bool) → single_step ((t && not true) && not trapped) ≡ act.pure tt
    go true = refl
    go false = refl

-- ---- what a call leaves

unhalted_of : {w v : World} {t : List Event} → Leaves {A = Unit {0}} (Unhalted w) (done tt v t) → v.state.marks ≡ w.state.marks
unhalted_of (leaves m) = m.same

unmarked_good : (m : Marks) → m.loaded ≡ false → marks_good m ≡ true
unmarked_good m e = rw e (go m.halted)
  where
    go : (b : Bool) → not (b && false) ≡ true
    go true = refl
    go false = refl

-- no call leaves a machine both halted and marked
module _ (u : ℕ → Choice) (w v : World) (t : List Event) (n : length w.state.file ≡ 14) where
  pub step_unmixed : step_by u w ≡ done tt v t → marks_good v.state.marks ≡ true
  unfolding starting
  step_unmixed e = let s = begins u w v t e in go s (loads_segment s.instr) refl
    where
      go : (s : Stepped u w v t) (b : Bool) → loads_segment s.instr ≡ b → marks_good v.state.marks ≡ true
      go s true l = rw (unhalted_of (rw s.ran at (calm_runs (load_calm s.instr s.size l) u (starting s.instr w) (starting s.instr w) refl)), s.up)
      go s false l = unmarked_good v.state.marks (step_marks u w v t n s ∙ l)

  pub interrupt_unmixed : (vector : ℕ) (maskable : Bool) → interrupt_by u vector maskable w ≡ done tt v t → marks_good v.state.marks ≡ true
  interrupt_unmixed vector maskable e =
      let a = enters u vector maskable w v t e in
      unmarked_good v.state.marks (mark_of (rw a.ran at (keeps_all (MarkStays w false) (mark_kept w false) (interrupting vector) u w (record { good = record { lent = lent_refl w; sound = sound_is w n a.good }; stays = a.unloaded }))))

-- while the mark stands no interrupt call is accepted, masked or not
pub held_off : (u : ℕ → Choice) (vector : ℕ) (maskable : Bool) (w : World) → fits w ≡ true → sound w ≡ true → w.state.marks.loaded ≡ true
    → interrupt_by u vector maskable w ≡ refusal 13
unfolding interrupt_by
held_off u vector maskable w f s l = rw (f, s, l)
