use native.Mathlib.Omega.{arith}
use lib.Seq.{take_all}
use Rattle.rom_list.proofs.LineLaws.{no_digits, more_digits}
use Rattle.rom_list.proofs.line.put_digits.Goals as goal

pub loop-b-init : goal.loop-b-init
loop-b-init c = no_digits c.args.bytes.now _

pub loop-b-preserved : goal.loop-b-preserved
loop-b-preserved c = more_digits c.args.bytes.now c.loop-b.b-index (omega arith) c.loop-b.invariant c.push_hex.ensures

pub returns : goal.returns
returns c = rw (take_all c.loop-b.b-index c.args.bytes.now (omega arith)) at c.loop-b.invariant
