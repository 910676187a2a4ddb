-- What is dropped, whatever the tree: no write drops more bytes than it has, so no step drops more than it writes, nor more than two bytes a bus cycle.
use Prim.Native.Nat.{ℕ, suc, ◌*◌, ◌≤◌}
use mathlib.Core.List.{List, [], ◌∷◌}
use mathlib.Core.Path.{◌≡◌}
use mathlib.Core.Bool.{Bool}
use native.Mathlib.Omega.{arith}
use lib.Dec.{lit≤}
use Rattle.sheet.specs.Width.{wrap_of}
use Rattle.sheet.specs.Psw.{Choice, flag_of, settled}
use Rattle.sheet.specs.Registers.{file_of, written}
use Rattle.sheet.specs.Memory.{read_mem, write_mem, lost_bytes}
use Rattle.sheet.specs.World.{World, with_state, with_ram, psw_of, with_file, with_psw, with_halted, crossed}
use Rattle.sheet.specs.Act.{Act, pure, refuse, get, put, ask, copy, flags, load, store, input, output, halt, cross}
use Rattle.sheet.specs.Handler.{Access, short, through, inputs, outputs, Event, reads, writes, takes, gives, asks, copies, changes, Outcome, refused, done, then, ported, kept, run_by, happened, cost, tally}
use Rattle.sheet.proofs.Reach.{Each}
use Rattle.sheet.specs.Step.{interrupting, starting, stepping, step, interrupt}
use Rattle.sheet.proofs.StepLaws.{begins, enters}
use Rattle.sheet.proofs.Lifted.{lost_bytes_lem, bytes_fair}
use Rattle.theorems.specs.Bounds.{written_by, bytes_written}

-- ---- each event

abbrev Modest : Event → Type 0
Modest e = (cost e).dropped ≤ written_by e

pub record Honest (A : Type 0) (o : Outcome A) : Type 0 where
  pub is : Each Modest (happened o)

module _ {A : Type 0} where
  then_honest : (e : Event) (o : Outcome A) → Modest e → Honest A o → Honest A (then e o)
  then_honest e (refused n t) h k = record { is = (h, k.is) }
  then_honest e (done a w t) h k = record { is = (h, k.is) }

  ported_honest : (x : Access) (f : ℕ → World → Outcome A) → ((v : ℕ) (w : World) → Honest A (f v w)) → Honest A (ported x f)
  ported_honest (short n) f h = record { is = tt }
  ported_honest (through v w) f h = h v w

pub honest : {A : Type 0} (p : Act A) (u : ℕ → Choice) (w : World) → Honest A (run_by u p w)
unfolding run_by
honest (pure a) u w = record { is = tt }
honest (refuse n) u w = record { is = tt }
honest (get k) u w = honest (k (file_of w.state.file)) u w
honest (put n v p) u w = honest p u (with_state w (with_file w.state (written w.state.file n v)))
honest (ask f k) u w = then_honest (asks f) _ (lit≤ tt) (honest (k (flag_of (psw_of w.state) f)) u w)
honest (copy b k) u w = then_honest (copies b) _ (lit≤ tt) (honest (k (wrap_of b (psw_of w.state))) u w)
honest (flags c p) u w = then_honest (changes c) _ (lit≤ tt) (honest p (λ i. u (suc i)) (with_state w (with_psw w.state (settled (u 0) c (psw_of w.state)))))
honest (load b g o k) u w = then_honest (reads b g o) _ (lit≤ tt) (honest (k (read_mem b w.ram w.rom g o)) u w)
honest (store b g o v p) u w = then_honest (writes b g o v (lost_bytes b w.ram g o)) _ (lost_bytes_lem b w.ram g o) (honest p u (with_ram w (write_mem b w.ram g o v)))
honest (input b n k) u w = ported_honest (inputs b n w) _ (λ v w'. then_honest (takes b n v) _ (lit≤ tt) (honest (k v) u w'))
honest (output b n v p) u w = ported_honest (outputs b n v w) _ (λ x w'. then_honest (gives b n v) _ (lit≤ tt) (honest p u w'))
honest (halt b p) u w = honest p u (with_state w (with_halted w.state b))
honest (cross c p) u w = honest p u (with_state w (crossed c w.state))

-- ---- their sums

pub no_more_than_written : (t : List Event) → Each Modest t → (tally t).dropped ≤ bytes_written t
unfolding tally bytes_written
no_more_than_written [] h = lit≤ tt
no_more_than_written (e ∷ t) h = let x = h.0 in let y = no_more_than_written t h.1 in omega arith

written_fair : (e : Event) → written_by e ≤ 2 * (cost e).cycles
written_fair (reads b g o) = omega arith
written_fair (writes b g o v d) = bytes_fair b o
written_fair (takes b n v) = omega arith
written_fair (gives b n v) = omega arith
written_fair (asks f) = lit≤ tt
written_fair (copies b) = lit≤ tt
written_fair (changes c) = lit≤ tt

pub two_a_cycle : (t : List Event) → Each Modest t → (tally t).dropped ≤ 2 * (tally t).cycles
unfolding tally
two_a_cycle [] h = lit≤ tt
two_a_cycle (e ∷ t) h = let x = h.0 in let z = written_fair e in let y = two_a_cycle t h.1 in omega arith

-- ---- the calls

events_of : (p : Act Unit) (u : ℕ → Choice) (w v : World) (t : List Event) → run_by u p w ≡ done tt v t → Each Modest t
events_of p u w v t e = (rw e at (honest p u w)).is

pub step_modest : (w v : World) (t : List Event) → step w ≡ done tt v t → Each Modest t
unfolding step
step_modest w v t e = let s = begins kept w v t e in events_of (stepping s.instr s.size) kept (starting s.instr w) v t s.ran

pub interrupt_modest : (vector : ℕ) (maskable : Bool) (w v : World) (t : List Event) → interrupt vector maskable w ≡ done tt v t → Each Modest t
unfolding interrupt
interrupt_modest vector maskable w v t e = events_of (interrupting vector) kept w v t (enters kept vector maskable w v t e).ran

-- no step drops more bytes than it writes, and no interrupt call
pub step_drops_no_more : (w v : World) (t : List Event) → step w ≡ done tt v t → (tally t).dropped ≤ bytes_written t
step_drops_no_more w v t e = no_more_than_written t (step_modest w v t e)

pub interrupt_drops_no_more : (vector : ℕ) (maskable : Bool) (w v : World) (t : List Event) → interrupt vector maskable w ≡ done tt v t → (tally t).dropped ≤ bytes_written t
interrupt_drops_no_more vector maskable w v t e = no_more_than_written t (interrupt_modest vector maskable w v t e)
