-- Nine flags held as a struct, and PSW taken apart into them.
use Rattle.std.specs.Prelude.{Bool, ℕ}
use Rattle.calc_flags.specs.declared.Flags.{Flags}
use Rattle.sheet.specs.Psw.{Flag, CY, P, AC, Z, S, BRK, IE, DIR, OV, flag_of}

abbrev pub held : Flags → Flag → Bool
held f CY = f.cy
held f P = f.p
held f AC = f.ac
held f Z = f.z
held f S = f.s
held f BRK = f.brk
held f IE = f.ie
held f DIR = f.dir
held f OV = f.v

abbrev pub unpacked : ℕ → Flags
unpacked x =
    record {
      cy = flag_of x CY;
      p = flag_of x P;
      ac = flag_of x AC;
      z = flag_of x Z;
      s = flag_of x S;
      brk = flag_of x BRK;
      ie = flag_of x IE;
      dir = flag_of x DIR;
      v = flag_of x OV;
    }
