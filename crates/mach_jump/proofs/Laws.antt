-- What each return of the code comes to, over plain values.
use Prim.Native.Nat.{ℕ}
use mathlib.Core.Path.{◌≡◌}
use mathlib.Core.List.{List}
use lib.ListN.{get_or, set}
use Rattle.sheet.specs.Width.{add16}
use Rattle.sheet.specs.Registers.{PS, PC}
use Rattle.sheet.specs.Traps.{jump_far}
use Rattle.sheet.specs.Branch.{jump}
use Rattle.sheet.specs.Contract.{OnFile}
use Rattle.sheet.proofs.Lifted.{file_seq, file_registers, file_set}

pub jump_is : (f : List ℕ) (disp x : ℕ) → x ≡ add16 (get_or f PC 0) disp → OnFile Unit (jump disp) f tt (set f PC x)
unfolding jump
jump_is f disp x e = file_seq _ file_registers (rw (← e) (file_set PC x))

pub jump_far_is : (f : List ℕ) (ps pc : ℕ) → OnFile Unit (jump_far ps pc) f tt (set (set f PS ps) PC pc)
unfolding jump_far
jump_far_is f ps pc = file_seq _ (file_set PS ps) (file_set PC pc)
