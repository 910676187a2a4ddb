-- What each kind of instruction comes to as an operation.
use Prim.Native.Nat.{ℕ, ◌≤◌}
use mathlib.Core.Bool.{Bool, false}
use mathlib.Core.List.{List}
use mathlib.Core.Path.{◌≡◌, refl}
use Rattle.sheet.specs.declared.Bus.{Bus}
use Rattle.sheet.specs.declared.Marks.{Marks}
use Rattle.sheet.specs.declared.Progress.{Progress}
use Rattle.sheet.specs.declared.Multiply.{Multiply}
use Rattle.sheet.specs.declared.Interrupt.{Interrupt}
use Rattle.sheet.specs.declared.Primitive.{Primitive}
use Rattle.sheet.specs.declared.Repeat.{Repeat}
use Rattle.sheet.specs.declared.Io.{Io}
use Rattle.sheet.specs.declared.Control.{Control}
use Rattle.sheet.specs.declared.Mode.{Mode}
use Rattle.sheet.specs.declared.cards.Card.{Card}
use Rattle.sheet.specs.declared.Instr.{Instr}
use Rattle.sheet.specs.declared.Compute.{Compute}
use Rattle.sheet.specs.declared.Move.{Move}
use Rattle.sheet.specs.declared.Instr.TheVariants.{Computes, Moves, Multiplies, Interrupts, Blocks, Ports, Controls, Modes, Cards}
use Rattle.sheet.specs.World.{state_of}
use Rattle.sheet.specs.Act.{Act}
use Rattle.sheet.specs.Interrupts.{interrupts}
use Rattle.sheet.specs.Block.{block}
use Rattle.sheet.specs.Ports.{ports}
use Rattle.sheet.specs.Control.{control}
use Rattle.sheet.specs.Traps.{untrapped}
use Rattle.sheet.specs.Multiply.{multiply}
use Rattle.sheet.specs.Mode.{modes}
use Rattle.sheet.specs.Execute.{computing, moving, carding, operation}
use Rattle.sheet.specs.Contract.{OnMemory, OnMarks}
use Rattle.sheet.proofs.Rules.{seq_last, seq_free, seq_stops, ends_pure}
use Rattle.mach_tally.specs.Sums.{Free}
use Rattle.mach_tally.proofs.Bounds.{within_free, within_memory, within_more}
use Rattle.mach_ports.specs.Accesses.{OnPorts}
use Rattle.do_control.specs.Controls as do-control
use Rattle.do_8080.specs.Lent.{OnAll}
use Rattle.engine.specs.Performs.{Performs}

-- ---- any tree

module _ (p : Act Unit) (f g ram ram' rom tape log : List ℕ) (h : Marks) (q : Progress) where
  -- code that is lent the memory
  pub quiet_is : (n : Bus) (k : ℕ) → k ≤ 1020 → OnMemory Unit p f ram rom tt g ram' n k → Performs (untrapped p) f ram rom tape log h q 0 false h g ram' log q n
  unfolding untrapped
  quiet_is n t m k = record {
    most = within_more m (within_memory k);
    done = λ z. seq_last _ (k.at (state_of f h q) tape log) ends_pure;
    stop = λ z. absurd (z refl);
    same = λ z. absurd (z refl);
  }

  -- code that is lent the ports too
  pub ported_is : (log' : List ℕ) (q' : Progress) (number : ℕ) (n : Bus) (k : ℕ) → k ≤ 1020 → OnPorts p f ram rom tape log q number g ram' log' q' n k
      → Performs (untrapped p) f ram rom tape log h q number false h g ram' log' q' n
  unfolding untrapped
  ported_is log' q' number n t m k = record {
    most = within_more m k.most;
    done = λ z. seq_last _ (k.done z h) ends_pure;
    stop = λ z. seq_stops _ (k.stop z h);
    same = k.same;
  }

-- code that says itself whether it took a trap
pub worked_is : (p : Act Bool) (f g ram ram' rom tape log : List ℕ) (h : Marks) (q : Progress) (t : Bool) (n : Bus) (k : ℕ) → k ≤ 1020 → OnMemory Bool p f ram rom t g ram' n k
    → Performs p f ram rom tape log h q 0 t h g ram' log q n
worked_is p f g ram ram' rom tape log h q t n j m k = record {
  most = within_more m (within_memory k);
  done = λ z. k.at (state_of f h q) tape log;
  stop = λ z. absurd (z refl);
  same = λ z. absurd (z refl);
}

pub control_is : (t : Control) (f g ram rom tape log : List ℕ) (h : Marks) (q : Progress) (h' : Marks) (n : Bus) → do-control.Controls t f h g h' → Free n
    → Performs (untrapped (control t)) f ram rom tape log h q 0 false h' g ram log q n
unfolding untrapped
control_is t f g ram rom tape log h q h' n k e = record {
  most = within_free e;
  done = λ z. rw e.is (seq_free _ (k.at q ram rom tape log) ends_pure);
  stop = λ z. absurd (z refl);
  same = λ z. absurd (z refl);
}

-- code that is lent the marks
pub marked_is : (p : Act Unit) (f g ram ram' rom tape log : List ℕ) (h h' : Marks) (q : Progress) (n : Bus) (k : ℕ) → k ≤ 1020 → OnMarks Unit p f ram rom h tt g ram' h' n k
    → Performs (untrapped p) f ram rom tape log h q 0 false h' g ram' log q n
unfolding untrapped
marked_is p f g ram ram' rom tape log h h' q n j m k = record {
  most = within_more m (record { cycles = k.most; dropped = k.fair });
  done = λ z. seq_last _ (k.at q tape log) ends_pure;
  stop = λ z. absurd (z refl);
  same = λ z. absurd (z refl);
}

-- code that is lent everything
pub carded_is : (p : Act Unit) (f g ram ram' rom tape log log' : List ℕ) (h h' : Marks) (q q' : Progress) (number : ℕ) (n : Bus) (k : ℕ) → k ≤ 1020
    → OnAll p f ram rom tape log h q number g ram' log' h' q' n k → Performs (untrapped p) f ram rom tape log h q number false h' g ram' log' q' n
unfolding untrapped
carded_is p f g ram ram' rom tape log log' h h' q q' number n j m k = record {
  most = within_more m k.most;
  done = λ z. seq_last _ (k.done z) ends_pure;
  stop = λ z. seq_stops _ (k.stop z);
  same = k.same;
}

-- ---- which tree an instruction is

module _ (i : Instr) (start : ℕ) where
  pub of_computes : (t : Compute) → i ≡ Computes t → operation i start ≡ untrapped (computing t)
  unfolding operation
  of_computes t e = rw e

  pub of_moves : (t : Move) → i ≡ Moves t → operation i start ≡ untrapped (moving t)
  unfolding operation
  of_moves t e = rw e

  pub of_blocks : (k : Primitive) (w : Bool) (seg : ℕ) (r : Repeat) → i ≡ Blocks k w seg r → operation i start ≡ untrapped (block k w seg r start)
  unfolding operation
  of_blocks k w seg r e = rw e

  pub of_ports : (t : Io) → i ≡ Ports t → operation i start ≡ untrapped (ports t)
  unfolding operation
  of_ports t e = rw e

  pub of_controls : (t : Control) → i ≡ Controls t → operation i start ≡ untrapped (control t)
  unfolding operation
  of_controls t e = rw e

  pub of_multiplies : (t : Multiply) → i ≡ Multiplies t → operation i start ≡ multiply t
  unfolding operation
  of_multiplies t e = rw e

  pub of_interrupts : (t : Interrupt) → i ≡ Interrupts t → operation i start ≡ interrupts t
  unfolding operation
  of_interrupts t e = rw e

  pub of_modes : (t : Mode) → i ≡ Modes t → operation i start ≡ untrapped (modes t)
  unfolding operation
  of_modes t e = rw e

  pub of_cards : (t : Card) → i ≡ Cards t → operation i start ≡ untrapped (carding t)
  unfolding operation
  of_cards t e = rw e

-- ---- what the code hands on

module _ (o : Act Bool) (f g ram ram' rom tape log : List ℕ) (h : Marks) (q : Progress) where
  pub at_quiet : (p : Act Unit) (n : Bus) (k : ℕ) → o ≡ untrapped p → k ≤ 1020 → OnMemory Unit p f ram rom tt g ram' n k → Performs o f ram rom tape log h q 0 false h g ram' log q n
  at_quiet p n k e m j = rw e (quiet_is p f g ram ram' rom tape log h q n k m j)

  pub at_told : (p : Act Bool) (t : Bool) (n : Bus) (k : ℕ) → o ≡ p → k ≤ 1020 → OnMemory Bool p f ram rom t g ram' n k → Performs o f ram rom tape log h q 0 t h g ram' log q n
  at_told p t n k e m j = rw e (worked_is p f g ram ram' rom tape log h q t n k m j)

  pub at_through : (p : Act Unit) (number : ℕ) (log' : List ℕ) (q' : Progress) (n : Bus) (k : ℕ) → o ≡ untrapped p → k ≤ 1020 → OnPorts p f ram rom tape log q number g ram' log' q' n k
      → Performs o f ram rom tape log h q number false h g ram' log' q' n
  at_through p number log' q' n k e m j = rw e (ported_is p f g ram ram' rom tape log h q log' q' number n k m j)

  pub at_control : (t : Control) (h' : Marks) (n : Bus) → o ≡ untrapped (control t) → do-control.Controls t f h g h' → Free n → Performs o f ram rom tape log h q 0 false h' g ram log q n
  at_control t h' n e k u = rw e (control_is t f g ram rom tape log h q h' n k u)

  pub at_marked : (p : Act Unit) (h' : Marks) (n : Bus) (k : ℕ) → o ≡ untrapped p → k ≤ 1020 → OnMarks Unit p f ram rom h tt g ram' h' n k → Performs o f ram rom tape log h q 0 false h' g ram' log q n
  at_marked p h' n k e m j = rw e (marked_is p f g ram ram' rom tape log h h' q n k m j)

  pub at_carded : (p : Act Unit) (number : ℕ) (log' : List ℕ) (h' : Marks) (q' : Progress) (n : Bus) (k : ℕ) → o ≡ untrapped p → k ≤ 1020 → OnAll p f ram rom tape log h q number g ram' log' h' q' n k
      → Performs o f ram rom tape log h q number false h' g ram' log' q' n
  at_carded p number log' h' q' n k e m j = rw e (carded_is p f g ram ram' rom tape log log' h h' q q' number n k m j)

  -- what a function of its own came to
  pub at_same : (p : Act Bool) (number : ℕ) (t : Bool) (h' : Marks) (log' : List ℕ) (q' : Progress) (n : Bus) → o ≡ p → Performs p f ram rom tape log h q number t h' g ram' log' q' n
      → Performs o f ram rom tape log h q number t h' g ram' log' q' n
  at_same p number t h' log' q' n e k = rw e k
