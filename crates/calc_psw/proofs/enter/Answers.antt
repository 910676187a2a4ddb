use Rattle.sheet.specs.Psw.{CY, P, AC, Z, S, BRK, IE, DIR, OV, entering, in_mode, keeps}
use Rattle.sheet.proofs.PswLaws.{flag_settled}
use Rattle.calc_psw.proofs.enter.Goals as goal

pub returns : goal.returns
unfolding in_mode
returns c =
    let new = flag_settled keeps entering c.args.psw in
    rw (c.pack.ensures, c.from.ensures)
    (simp (new CY, new P, new AC, new Z, new S, new BRK, new IE, new DIR, new OV))
