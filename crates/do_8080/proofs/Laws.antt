-- What each group comes to for code that is lent everything.
use Prim.Native.Nat.{ℕ, ◌≤◌}
use mathlib.Core.List.{List}
use mathlib.Core.Path.{◌≡◌, refl}
use Rattle.sheet.specs.declared.Bus.{Bus}
use Rattle.sheet.specs.declared.Marks.{Marks}
use Rattle.sheet.specs.declared.Progress.{Progress}
use Rattle.sheet.specs.declared.Transfer.{Transfer}
use Rattle.sheet.specs.declared.Io.{Io}
use Rattle.sheet.specs.declared.Control.{Control}
use Rattle.sheet.specs.declared.cards.CardPoint.{CardPoint}
use Rattle.sheet.specs.declared.cards.CardArithmetic.{CardArithmetic}
use Rattle.sheet.specs.declared.cards.CardBranch.{CardBranch}
use Rattle.sheet.specs.declared.cards.CardStack.{CardStack}
use Rattle.sheet.specs.declared.cards.CardMode.{CardMode}
use Rattle.sheet.specs.declared.cards.Card.{Card}
use Rattle.sheet.specs.declared.cards.Card.TheVariants.{Transfers, Ports, Controls, Points, Calculates, Branches, Stacks, Modes}
use Rattle.sheet.specs.World.{state_of}
use Rattle.sheet.specs.Act.{Act}
use Rattle.sheet.specs.Transfer.{transfer}
use Rattle.sheet.specs.Ports.{ports}
use Rattle.sheet.specs.Control.{control}
use Rattle.sheet.specs.CardPoint.{point}
use Rattle.sheet.specs.CardArithmetic.{card_calculate}
use Rattle.sheet.specs.CardBranch.{card_branch}
use Rattle.sheet.specs.CardStack.{card_stack}
use Rattle.sheet.specs.Mode.{card_modes}
use Rattle.sheet.specs.Execute.{carding}
use Rattle.sheet.specs.Contract.{OnMemory, OnMarks}
use Rattle.mach_tally.specs.Sums.{Free}
use Rattle.mach_tally.proofs.Bounds.{within_free, within_memory, within_more}
use Rattle.mach_ports.specs.Accesses.{OnPorts}
use Rattle.do_control.specs.Controls as do-control
use Rattle.do_8080.specs.Lent.{OnAll}

-- ---- which tree an instruction is

module _ (i : Card) where
  pub of_transfers : (t : Transfer) → i ≡ Transfers t → carding i ≡ transfer t
  unfolding carding
  of_transfers t e = rw e

  pub of_ports : (t : Io) → i ≡ Ports t → carding i ≡ ports t
  unfolding carding
  of_ports t e = rw e

  pub of_controls : (t : Control) → i ≡ Controls t → carding i ≡ control t
  unfolding carding
  of_controls t e = rw e

  pub of_points : (t : CardPoint) → i ≡ Points t → carding i ≡ point t
  unfolding carding
  of_points t e = rw e

  pub of_calculates : (t : CardArithmetic) → i ≡ Calculates t → carding i ≡ card_calculate t
  unfolding carding
  of_calculates t e = rw e

  pub of_branches : (t : CardBranch) → i ≡ Branches t → carding i ≡ card_branch t
  unfolding carding
  of_branches t e = rw e

  pub of_stacks : (t : CardStack) → i ≡ Stacks t → carding i ≡ card_stack t
  unfolding carding
  of_stacks t e = rw e

  pub of_modes : (t : CardMode) → i ≡ Modes t → carding i ≡ card_modes t
  unfolding carding
  of_modes t e = rw e

-- ---- what the code hands on

module _ (o : Act Unit) (f g ram ram' rom tape log : List ℕ) (m : Marks) (q : Progress) (top : ℕ) where
  -- code that is lent the memory
  pub at_quiet : (p : Act Unit) (n : Bus) (k : ℕ) → o ≡ p → k ≤ top → OnMemory Unit p f ram rom tt g ram' n k → OnAll o f ram rom tape log m q 0 g ram' log m q n top
  at_quiet p n k e l h = rw e (record {
    most = within_more l (within_memory h);
    done = λ z. h.at (state_of f m q) tape log;
    stop = λ z. absurd (z refl);
    same = λ z. absurd (z refl);
  })

  -- code that is lent the ports too
  pub at_through : (p : Act Unit) (number : ℕ) (log' : List ℕ) (q' : Progress) (n : Bus) (k : ℕ) → o ≡ p → k ≤ top → OnPorts p f ram rom tape log q number g ram' log' q' n k
      → OnAll o f ram rom tape log m q number g ram' log' m q' n top
  at_through p number log' q' n k e l h = rw e (record {
    most = within_more l h.most;
    done = λ z. h.done z m;
    stop = λ z. h.stop z m;
    same = h.same;
  })

  -- code that is lent the marks
  pub at_control : (t : Control) (m' : Marks) (n : Bus) → o ≡ control t → do-control.Controls t f m g m' → Free n → OnAll o f ram rom tape log m q 0 g ram log m' q n top
  at_control t m' n e h c = rw e (record {
    most = within_free c;
    done = λ z. rw c.is (h.at q ram rom tape log);
    stop = λ z. absurd (z refl);
    same = λ z. absurd (z refl);
  })

  pub at_marked : (p : Act Unit) (m' : Marks) (n : Bus) (k : ℕ) → o ≡ p → k ≤ top → OnMarks Unit p f ram rom m tt g ram' m' n k → OnAll o f ram rom tape log m q 0 g ram' log m' q n top
  at_marked p m' n k e l h = rw e (record {
    most = within_more l (record { cycles = h.most; dropped = h.fair });
    done = λ z. h.at q tape log;
    stop = λ z. absurd (z refl);
    same = λ z. absurd (z refl);
  })
