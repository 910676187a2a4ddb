-- What each return of the code comes to, over plain values.
use Prim.Native.Nat.{ℕ}
use mathlib.Core.Bool.{Bool, true, false}
use mathlib.Core.List.{List}
use mathlib.Core.Path.{◌≡◌}
use Rattle.sheet.specs.declared.Bus.{Bus}
use Rattle.sheet.specs.declared.Marks.{Marks}
use Rattle.sheet.specs.declared.Progress.{Progress}
use Rattle.sheet.specs.Log.{rule, risen}
use Rattle.sheet.specs.World.{state_of, mark_halted}
use Rattle.sheet.specs.Traps.{trap}
use Rattle.sheet.specs.Step.{interrupting, single_step}
use Rattle.sheet.specs.Contract.{OnMemory}
use Rattle.sheet.proofs.Rules.{seq_last, ends_pure, ends_halted}
use Rattle.mach_tally.specs.Sums.{Free}
use Rattle.mach_tally.proofs.Bounds.{within_free, within_memory}
use Rattle.step_end.specs.Finishes.{begun_at, Finishes}

pub finishes_traced : (t : Bool) (h j : Marks) (f g ram ram' rom : List ℕ) (n : Bus) → t ≡ true → OnMemory Unit (trap 1) f ram rom tt g ram' n 8 → j ≡ mark_halted h false → Finishes t f ram rom h g ram' j n
unfolding single_step interrupting
finishes_traced t h j f g ram ram' rom n e p d = rw d (record { most = within_memory p; at = λ q tape log. rw e (seq_last _ (p.at (state_of f h q) tape log) (ends_halted false)) })

pub finishes_untraced : (t : Bool) (h : Marks) (f ram rom : List ℕ) (n : Bus) → t ≡ false → Free n → Finishes t f ram rom h f ram h n
unfolding single_step
finishes_untraced t h f ram rom n e k = record { most = within_free k; at = λ q tape log. rw (e, k.is) ends_pure }

pub begun_is : (q b : Progress) (k : ℕ) → k ≡ risen rule q.count → b ≡ record { tape = q.tape; log = q.log; count = k } → b ≡ begun_at q
begun_is q b k e f = rw (f, e)
