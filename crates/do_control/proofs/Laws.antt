-- What each arm of the code comes to, over plain values.
use Prim.Native.Nat.{ℕ}
use mathlib.Core.Path.{◌≡◌}
use mathlib.Core.Bool.{Bool, true, not}
use mathlib.Core.List.{List}
use lib.ListN.{get_or, set}
use Rattle.sheet.specs.declared.Control.{Control}
use Rattle.sheet.specs.declared.Control.TheVariants.{Nop, Halt, NotCy}
use Rattle.sheet.specs.declared.Marks.{Marks}
use Rattle.sheet.specs.World.{state_of, mark_halted}
use Rattle.sheet.specs.Psw.{Flag, CY, flag_of, only, keeps, settled}
use Rattle.sheet.specs.Registers.{PSW}
use Rattle.sheet.specs.Act.{set_flag}
use Rattle.sheet.specs.Control.{control}
use Rattle.sheet.specs.Contract.{OnFile}
use Rattle.sheet.proofs.Rules.{ends_halted}
use Rattle.sheet.proofs.Lifted.{file_seq, file_pure, file_flag, file_flags}
use Rattle.do_control.specs.Controls.{Controls}

-- all but HALT leave the mark alone
unmarked : {i : Control} {f g : List ℕ} {m : Marks} → OnFile Unit (control i) f tt g → Controls i f m g m
unmarked {f = f} {m = m} h = record { at = λ q ram rom tape log. h.at (state_of f m q) ram rom tape log }

module _ (i : Control) (f : List ℕ) (m : Marks) where
  pub at_nop : i ≡ Nop → Controls i f m f m
  unfolding control
  at_nop e = unmarked (rw e file_pure)

  pub at_halt : (m' : Marks) → i ≡ Halt → m' ≡ mark_halted m true → Controls i f m f m'
  unfolding control
  at_halt m' e d = rw (e, d) (record { at = λ q ram rom tape log. ends_halted true })

  pub at_flag : (j : Control) (q : Flag) (b : Bool) (x : ℕ) → i ≡ j → control j ≡ set_flag q b → x ≡ settled keeps (only q b) (get_or f PSW 0) → Controls i f m (set f PSW x) m
  at_flag j q b x e s z = unmarked (rw (e, s) (file_flags (only q b) z))

  pub at_not_cy : (x : ℕ) (c : Bool) → i ≡ NotCy → c ≡ flag_of (get_or f PSW 0) CY → x ≡ settled keeps (only CY (not c)) (get_or f PSW 0) → Controls i f m (set f PSW x) m
  unfolding control
  at_not_cy x c e h q = unmarked (rw e (file_seq _ (file_flag CY h) (file_flags (only CY (not c)) q)))
