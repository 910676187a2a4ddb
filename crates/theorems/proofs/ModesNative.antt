-- From native mode without the permission nothing but BRKEM leaves it: no other step, and no interrupt call.
use Prim.Native.Nat.{ℕ, suc, ◌+◌}
use mathlib.Core.Path.{◌≡◌, refl, ◌∙◌}
use mathlib.Core.Bool.{Bool, true, false, true≢false}
use mathlib.Core.List.{List}
use lib.ListN.{length, get_or, set, length-set}
use lib.Seq.{get_or-set_same}
use lib.Dec.{leb, ltb, lit<}
use Rattle.sheet.specs.declared.Instr.{Instr}
use Rattle.sheet.specs.declared.Instr.TheVariants.{Computes, Moves, Multiplies, Interrupts, Blocks, Ports, Controls, Modes, Cards}
use Rattle.sheet.specs.declared.Mode.TheVariants.{PopPsw, Reti, Brkem}
use Rattle.sheet.specs.Width.{pick, bytes_of, wrap_of}
use Rattle.sheet.specs.Psw.{Flag, Effect, Choice, flag_of, native_of, settled, in_mode, Crossing, to_native, to_cards, back, stored}
use Rattle.sheet.specs.Registers.{PSW, file_of, written}
use Rattle.sheet.specs.Memory.{read_mem, write_mem, lost_bytes}
use Rattle.sheet.specs.World.{World, with_state, with_ram, psw_of, with_file, with_psw, with_mode, with_halted, crossed}
use Rattle.sheet.specs.Act.{Act, pure, refuse, get, put, ask, copy, flags, load, store, input, output, halt, cross}
use Rattle.sheet.specs.Handler.{Access, recording, inputs, outputs, Event, reads, writes, takes, gives, asks, copies, changes, Outcome, done, then, ported, run_by}
use Rattle.sheet.specs.Step.{interrupting, starting, stepping, interrupt_by}
use Rattle.sheet.proofs.PswLaws.{native_settled, native_mode}
use Rattle.sheet.proofs.Lent.{Leaves, none_left, leaves, LeavesAccess, none_port, leaves_port, leaves_then, written_psw}
use Rattle.sheet.proofs.StepLaws.{Stepped, enters}
use Rattle.log_record.proofs.Picked.{picked}
use Rattle.theorems.specs.Bounds.{Bytes}
use Rattle.theorems.specs.Modes.{Locked, NotBrkem}
use Rattle.theorems.proofs.Tame as tame
use Rattle.theorems.proofs.Tame.{Tame, t_pure, t_refuse, t_get, t_put, t_ask, t_copy, t_flags, t_load, t_store, t_input, t_output, t_halt, t_cross}
use Rattle.theorems.proofs.BoundsStep.{native_after, of_interrupting, of_stepping, reads_fine}
use Rattle.theorems.proofs.PortOnce.{fine_read}
use Rattle.theorems.proofs.RepeatPrimitive.{left_of}

-- ---- each node

module _ (w : World) (l : Locked w) where
  written_locked : (n v : ℕ) → Locked (with_state w (with_file w.state (written w.state.file n v)))
  written_locked n v = record {
    whole = picked (λ (f : List ℕ). length f ≡ length w.state.file) (ltb n PSW) (length-set w.state.file n v) refl ∙ l.whole;
    native = rw (written_psw w.state.file n v) l.native;
    locked = l.locked;
  }

  settled_locked : (u : Choice) (c : Flag → Effect) → Locked (with_state w (with_psw w.state (settled u c (psw_of w.state))))
  settled_locked u c = record {
    whole = length-set w.state.file PSW _ ∙ l.whole;
    native = rw (get_or-set_same w.state.file PSW (settled u c (psw_of w.state)) 0 (rw l.whole (lit< tt)), native_settled u c (psw_of w.state)) l.native;
    locked = l.locked;
  }

  recording_locked : (v m : ℕ) (b : List ℕ) → LeavesAccess Locked (recording w v m b)
  unfolding recording
  recording_locked v m b =
      picked (LeavesAccess Locked) (leb (w.state.progress.log + length b) (length w.log))
      (leaves_port (record { whole = l.whole; native = l.native; locked = l.locked })) none_port

  inputs_locked : (b : Bool) (n : ℕ) → LeavesAccess Locked (inputs b n w)
  unfolding inputs
  inputs_locked b n = picked (LeavesAccess Locked) (leb (w.state.progress.tape + bytes_of b) (length w.tape)) (recording_locked _ _ _) none_port

  outputs_locked : (b : Bool) (n v : ℕ) → LeavesAccess Locked (outputs b n v w)
  unfolding outputs
  outputs_locked b n v = recording_locked _ _ _

  native_there : native_of (get_or (set w.state.file PSW (in_mode true (psw_of w.state))) PSW 0) ≡ true
  native_there = rw (get_or-set_same w.state.file PSW (in_mode true (psw_of w.state)) 0 (rw l.whole (lit< tt))) (native_mode true (psw_of w.state))

  crossed_locked : (c : Crossing) → tame.enters c ≡ false → Locked (with_state w (crossed c w.state))
  unfolding crossed
  crossed_locked to_native e = record { whole = length-set w.state.file PSW _ ∙ l.whole; native = native_there; locked = l.locked }
  crossed_locked to_cards e = absurd (true≢false e)
  crossed_locked back e = record { whole = length-set w.state.file PSW _ ∙ l.whole; native = native_there; locked = refl }
  crossed_locked (stored b) e = go w.state.marks.writable l.locked
    where
      go : (t : Bool) → t ≡ false → Locked (with_state w (pick t (with_mode w.state b) w.state))
      go true z = absurd (true≢false z)
      go false z = l

ported_locked : {A : Type 0} {r : Access} (f : ℕ → World → Outcome A) → LeavesAccess Locked r → ((v : ℕ) (w : World) → Locked w → Leaves Locked (f v w)) → Leaves Locked (ported r f)
ported_locked f none_port g = none_left
ported_locked f (leaves_port {v = v} {w = w} h) g = g v w h

-- ---- every tree that has none of BRKEM's crossings

pub stays_locked : {A : Type 0} (p : Act A) → Tame p → (u : ℕ → Choice) (w : World) → Locked w → Leaves Locked (run_by u p w)
unfolding run_by
stays_locked (pure a) t_pure u w l = leaves l
stays_locked (refuse n) t_refuse u w l = none_left
stays_locked (get k) (t_get h) u w l = stays_locked (k (file_of w.state.file)) (h _) u w l
stays_locked (put n v p) (t_put h) u w l = stays_locked p h u (with_state w (with_file w.state (written w.state.file n v))) (written_locked w l n v)
stays_locked (ask f k) (t_ask h) u w l = leaves_then (asks f) (stays_locked (k (flag_of (psw_of w.state) f)) (h _) u w l)
stays_locked (copy b k) (t_copy h) u w l = leaves_then (copies b) (stays_locked (k (wrap_of b (psw_of w.state))) (h _) u w l)
stays_locked (flags c p) (t_flags h) u w l =
    leaves_then (changes c) (stays_locked p h (λ i. u (suc i)) (with_state w (with_psw w.state (settled (u 0) c (psw_of w.state)))) (settled_locked w l (u 0) c))
stays_locked (load b g o k) (t_load h) u w l = leaves_then (reads b g o) (stays_locked (k (read_mem b w.ram w.rom g o)) (h _) u w l)
stays_locked (store b g o v p) (t_store h) u w l =
    leaves_then (writes b g o v (lost_bytes b w.ram g o))
    (stays_locked p h u (with_ram w (write_mem b w.ram g o v)) (record { whole = l.whole; native = l.native; locked = l.locked }))
stays_locked (input b n k) (t_input h) u w l =
    ported_locked (λ v x. then (takes b n v) (run_by u (k v) x)) (inputs_locked w l b n) (λ v x q. leaves_then (takes b n v) (stays_locked (k v) (h v) u x q))
stays_locked (output b n v p) (t_output h) u w l =
    ported_locked (λ y x. then (gives b n v) (run_by u p x)) (outputs_locked w l b n v) (λ y x q. leaves_then (gives b n v) (stays_locked p h u x q))
stays_locked (halt b p) (t_halt h) u w l = stays_locked p h u (with_state w (with_halted w.state b)) (record { whole = l.whole; native = l.native; locked = l.locked })
stays_locked (cross c p) (t_cross e h) u w l = stays_locked p h u (with_state w (crossed c w.state)) (crossed_locked w l c e)

-- ---- the calls

not_brkem : (i : Instr) → NotBrkem i → native_after i ≡ true
not_brkem (Computes i) h = refl
not_brkem (Moves i) h = refl
not_brkem (Multiplies i) h = refl
not_brkem (Interrupts i) h = refl
not_brkem (Blocks k b seg q) h = refl
not_brkem (Ports i) h = refl
not_brkem (Controls i) h = refl
not_brkem (Modes PopPsw) h = refl
not_brkem (Modes Reti) h = refl
not_brkem (Modes (Brkem v)) h = absurd (h v refl)
not_brkem (Cards i) h = refl

-- a finished step leaves such a machine so, but for BRKEM
pub only_brkem_enters : (u : ℕ → Choice) (w v : World) (t : List Event) → Bytes w.ram → Bytes w.rom → Locked w → (s : Stepped u w v t) → NotBrkem s.instr → Locked v
unfolding starting
only_brkem_enters u w v t h g l s n =
    let i = s.instr in
    let fine = fine_read (rw s.read at (reads_fine w h g)) in
    let begun : Locked (starting i w) = record { whole = l.whole; native = l.native; locked = l.locked } in
    left_of (rw s.ran at (stays_locked (stepping i s.size) ((of_stepping i fine s.size).tame (not_brkem i n)) u (starting i w) begun))

-- and every interrupt call does
pub interrupt_stays_native : (u : ℕ → Choice) (vector : ℕ) (maskable : Bool) (w v : World) (t : List Event) → Locked w → interrupt_by u vector maskable w ≡ done tt v t → Locked v
interrupt_stays_native u vector maskable w v t l e =
    left_of (rw (enters u vector maskable w v t e).ran at (stays_locked (interrupting vector) ((of_interrupting vector).tame refl) u w l))
