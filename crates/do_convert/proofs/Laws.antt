-- What each instruction comes to, from what its parts come to.
use Prim.Native.Nat.{ℕ, ◌+◌, ◌*◌, ◌/◌, ◌%◌}
use mathlib.Core.Path.{◌≡◌, refl}
use mathlib.Core.Bool.{true, false}
use mathlib.Core.List.{List}
use lib.ListN.{get_or, set}
use Rattle.sheet.specs.declared.Flagged.{Flagged}
use Rattle.sheet.specs.Width.{pick, sign_of, extend}
use Rattle.sheet.specs.Psw.{AC, CY, flag_of, column}
use Rattle.sheet.specs.Registers.{AW, DW, PSW, AL, AH, file_of, read_reg}
use Rattle.sheet.specs.Act.{◌>>=◌, ◌≔◌, affect}
use Rattle.sheet.specs.Arithmetic.{Result, finish}
use Rattle.sheet.specs.Operand.{deposit, set_reg}
use Rattle.sheet.specs.declared.Way.{Way}
use Rattle.sheet.specs.Adjust.{digits_of, packed_result, unpacked_result, adj4, adjb}
use Rattle.sheet.specs.Convert.{converted, set_converted, cvtbd, cvtdb, cvtbw, cvtwl}
use Rattle.sheet.specs.Contract.{OnFile, flagged}
use Rattle.sheet.proofs.Lifted.{file_seq, file_registers, file_set, file_flag}
use Rattle.mach_registers.proofs.Laws.{file_reg}
use Rattle.calc_psw.proofs.Results.{file_affect, value_is}

module _ (f : List ℕ) where
  pub adj4_is : (way : Way) (al : ℕ) (x : Flagged) (g : List ℕ) → al ≡ read_reg false (file_of f) AL → x ≡ flagged (packed_result way (digits_of al (flag_of (get_or f PSW 0) AC) (flag_of (get_or f PSW 0) CY))) (get_or f PSW 0)
      → OnFile Unit (set_reg false AL x.value) (set f PSW x.psw) tt g → OnFile Unit (adj4 way) f tt g
  unfolding adj4 finish deposit
  adj4_is way al x g e q h =
      let r = packed_result way (digits_of al (flag_of (get_or f PSW 0) AC) (flag_of (get_or f PSW 0) CY)) in
      file_seq _ (file_reg false AL e) (file_seq _ (file_flag AC refl) (file_seq _ (file_flag CY refl) (file_seq _ (file_affect r f x q) (rw (value_is r f x q) at h))))

  -- AW and PSW by a result
  set_result : (r : Result) (x : Flagged) → x ≡ flagged r (get_or f PSW 0) → OnFile Unit (affect r.column >>= (λ _. AW ≔ r.value)) f tt (set (set f PSW x.psw) AW x.value)
  set_result r x q = file_seq _ (file_affect r f x q) (rw (value_is r f x q) (file_set AW r.value))

  pub adjb_is : (way : Way) (x : Flagged) → x ≡ flagged (unpacked_result way (get_or f AW 0) (flag_of (get_or f PSW 0) AC)) (get_or f PSW 0)
      → OnFile Unit (adjb way) f tt (set (set f PSW x.psw) AW x.value)
  unfolding adjb
  adjb_is way x q = file_seq _ file_registers (file_seq _ (file_flag AC refl) (set_result (unpacked_result way (get_or f AW 0) (flag_of (get_or f PSW 0) AC)) x q))

  pub cvtbd_is : (x : Flagged) → x ≡ flagged (converted (get_or f AW 0 % 256 / 10) (get_or f AW 0 % 256 % 10)) (get_or f PSW 0)
      → OnFile Unit cvtbd f tt (set (set f PSW x.psw) AW x.value)
  unfolding cvtbd set_converted read_reg
  cvtbd_is x q = file_seq _ (file_reg false AL refl) (set_result (converted (get_or f AW 0 % 256 / 10) (get_or f AW 0 % 256 % 10)) x q)

  pub cvtdb_is : (x : Flagged) → x ≡ flagged (converted 0 ((get_or f AW 0 / 256 * 10 + get_or f AW 0 % 256) % 256)) (get_or f PSW 0)
      → OnFile Unit cvtdb f tt (set (set f PSW x.psw) AW x.value)
  unfolding cvtdb set_converted read_reg
  cvtdb_is x q =
      file_seq _ (file_reg false AL refl) (file_seq _ (file_reg false AH refl) (set_result (converted 0 ((get_or f AW 0 / 256 * 10 + get_or f AW 0 % 256) % 256)) x q))

  pub cvtbw_is : (x : ℕ) → x ≡ extend (get_or f AW 0 % 256) → OnFile Unit cvtbw f tt (set f AW x)
  unfolding cvtbw read_reg
  cvtbw_is x q = file_seq _ (file_reg false AL refl) (rw (← q) (file_set AW x))

  pub cvtwl_is : (x : ℕ) → x ≡ pick (sign_of true (get_or f AW 0)) 65535 0 → OnFile Unit cvtwl f tt (set f DW x)
  unfolding cvtwl
  cvtwl_is x q = file_seq _ file_registers (rw q (file_set DW (pick (sign_of true (get_or f AW 0)) 65535 0)))
