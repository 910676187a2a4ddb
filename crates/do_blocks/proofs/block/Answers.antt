use Rattle.std.proofs.Common.{◌≡◌}
use Rattle.do_block.specs.Portless.{primitive_of}
use Rattle.do_blocks.proofs.Laws.{no_port, with_port}
use borrow.Author.Rules.{rules}
use Rattle.do_blocks.proofs.block.Goals as goal
use Rattle.do_blocks.proofs.block.Goals.{in-Movbk, in-Cmpbk, in-Cmpm, in-Ldm, in-Stm}

pub returns-in-Inm : goal.returns-in-Inm
returns-in-Inm c = search (with_port, rules)

pub returns-in-Outm : goal.returns-in-Outm
returns-in-Outm c = search (with_port, rules)

pub returns : goal.returns
returns c =
    let e : c.args.primitive ≡ primitive_of c.match-primitive.kind =
    elim c.match-primitive.branch [
      | in-Movbk w ↦ rw (w.in-Movbk.is, w.kind-is)
      | in-Cmpbk w ↦ rw (w.in-Cmpbk.is, w.kind-is)
      | in-Cmpm w ↦ rw (w.in-Cmpm.is, w.kind-is)
      | in-Ldm w ↦ rw (w.in-Ldm.is, w.kind-is)
      | in-Stm w ↦ rw (w.in-Stm.is, w.kind-is)
    ]
    in search (no_port, e, rules)
