-- In code a repeat ends under any plan of services: RAM stays a memory of bytes, and over such every step is answered.
use Prim.Native.Nat.{ℕ, ◌/◌, ◌%◌, ◌<◌}
use mathlib.Core.Path.{◌≡◌, sym, subst}
use mathlib.Core.Bool.{Bool, true, false}
use mathlib.Core.List.{List}
use native.Mathlib.Omega.{arith}
use lib.ListN.{set}
use Rattle.sheet.specs.declared.Bus.{Bus}
use Rattle.sheet.specs.Memory.{physical, next, write_mem}
use Rattle.sheet.specs.World.{World}
use Rattle.sheet.specs.Act.{Act}
use Rattle.sheet.specs.Handler.{Event, done, kept, run_by}
use Rattle.sheet.specs.Step.{starting, stepping, step, interrupting, interrupt}
use Rattle.sheet.proofs.Lent.{Kept, Sound, Good, keeps_all, good_kept}
use Rattle.sheet.proofs.StepLaws.{sound_is, begins, enters, starting_sound}
use Rattle.theorems.specs.Bounds.{Bytes}
use Rattle.theorems.specs.Repeat as statement
use Rattle.theorems.specs.Repeat.{Block, elements, Engine, Call, stepped, interrupted, Calls, no_call, and_then_lem, Gap, quiet, service, Own, begun, next_own, Taken}
use Rattle.theorems.specs.RepeatCode.{code}
use Rattle.theorems.proofs.Widths.{set_under}
use Rattle.theorems.proofs.Repeat.{Faithful, ready, told_so, good_itself, call_leaves}
use Rattle.theorems.proofs.RepeatPrimitive.{left_of}
use Rattle.theorems.proofs.RepeatCode.{code_faithful, code_demand3, code_answers}

-- ---- every call leaves bytes

write_bytes : (w : Bool) (ram : List ℕ) (g o v : ℕ) → Bytes ram → Bytes (write_mem w ram g o v)
unfolding write_mem
write_bytes false ram g o v b = set_under 255 ram (physical g o) (v % 256) (omega arith) b
write_bytes true ram g o v b =
    set_under 255 (set ram (physical g o) (v % 256)) (physical g (next o)) (v / 256 % 256) (omega arith) (set_under 255 ram (physical g o) (v % 256) (omega arith) b)

record GoodBytes (w v : World) : Type 0 where
  good : Good w v
  bytes : Bytes v.ram

bytes_kept : (w : World) → Kept (GoodBytes w)
bytes_kept w =
    let k = good_kept w in
    record {
      in_tape = λ v q. k.in_tape v q.good;
      at_register = λ v n x q. record { good = k.at_register v n x q.good; bytes = q.bytes };
      at_psw = λ v u c q. record { good = k.at_psw v u c q.good; bytes = q.bytes };
      at_store = λ v b g o x q. record { good = k.at_store v b g o x q.good; bytes = write_bytes b v.ram g o x q.bytes };
      at_record = λ v m b h r q. record { good = k.at_record v m b h r q.good; bytes = q.bytes };
      at_halt = λ v b q. record { good = k.at_halt v b q.good; bytes = q.bytes };
      at_crossing = λ v c q. record { good = k.at_crossing v c q.good; bytes = q.bytes };
    }

tree_bytes : (p : Act Unit) (w v : World) (t : List Event) → Sound w → Bytes w.ram → run_by kept p w ≡ done tt v t → Bytes v.ram
tree_bytes p w v t s b e =
    (left_of (rw e at (keeps_all (GoodBytes w) (bytes_kept w) p kept w (record { good = good_itself s; bytes = b })))).bytes

step_bytes : {w v : World} {t : List Event} → Sound w → Bytes w.ram → step w ≡ done tt v t → Bytes v.ram
unfolding step starting
step_bytes {w} {v} {t} s b e =
    let a = begins kept w v t e in
    tree_bytes (stepping a.instr a.size) (starting a.instr w) v t (starting_sound a.instr w s) b a.ran

interrupt_bytes : (x : ℕ) (m : Bool) {w v : World} {t : List Event} → Sound w → Bytes w.ram → interrupt x m w ≡ done tt v t → Bytes v.ram
unfolding interrupt
interrupt_bytes x m {w} {v} {t} s b e = tree_bytes (interrupting x) w v t s b (enters kept x m w v t e).ran

-- ---- so code can be called again and again

-- a world that code can be called in
record Callable (w : World) : Type 0 where
  sound : Sound w
  ram : Bytes w.ram
  rom : Bytes w.rom

module _ (E : Engine) (F : Faithful E) where
  call_callable : {w v : World} → Callable w → Call E w v → Callable v
  call_callable {w} {v} q c =
      let g = call_leaves E F q.sound c in
      record { sound = g.sound; ram = go c; rom = rw g.lent.rom_same q.rom }
    where
      go : {v : World} → Call E w v → Bytes v.ram
      go (stepped o h) = told_so (λ u. Bytes u.ram) q.ram (λ u t e. step_bytes q.sound q.ram e) (F.step_tells h)
      go (interrupted x m o r h) = told_so (λ u. Bytes u.ram) q.ram (λ u t e. interrupt_bytes x m q.sound q.ram e) (F.interrupt_tells h)

  calls_callable : {w v : World} → Callable w → Calls E w v → Callable v
  calls_callable q no_call = q
  calls_callable q (and_then_lem u c) = call_callable (calls_callable q u) c

  gap_callable : {K : ℕ → Type 0} {w v : World} → Callable w → Gap E K w v → Callable v
  gap_callable q (quiet e) = subst Callable (sym e) q
  gap_callable q (service s r) = calls_callable (call_callable q (interrupted s.vector s.maskable s.shown s.in_range s.taken)) s.served

  own_callable : {K : ℕ → Type 0} {w v : World} {j : ℕ} {l : List E.Shown} → Callable w → Own E K w j l v → Callable v
  own_callable q begun = q
  own_callable q (next_own {o = o} x g s) = call_callable (gap_callable (own_callable q x) g) (stepped o s)

-- under any plan of services the kth step comes
pub code_ends : (i : Block) (w : World) → Taken code i w → Bytes w.ram → Bytes w.rom → (K : ℕ → Type 0) → ((a : ℕ) → statement.Kept i w (elements i w) a → K a)
    → ((j : ℕ) (l : List Bus) (v : World) → j < elements i w → Own code K w j l v → (v' : World) × Gap code K v v')
    → (l : List Bus) × (v : World) × Own code K w (elements i w) l v
code_ends i w t ram rom K inside plan =
    let (v, o, h) = t.accepted in
    let q : Callable w = record { sound = sound_is w t.whole (ready (code_faithful.step_tells h)).good; ram = ram; rom = rom } in
    (code_demand3 i w t K inside).comes_to_an_end
    (λ j l v h x.
    let (v', g) = plan j l v h x in
    let c = gap_callable code code_faithful (own_callable code code_faithful q x) g in
    (v', g, code_answers v' c.sound.whole c.ram c.rom))
