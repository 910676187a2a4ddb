use Rattle.std.proofs.lemmas.Result.{err_from_is_err_and}
use Rattle.do_8080.proofs.Laws.{at_control, at_marked, at_quiet, at_through, of_branches, of_calculates, of_controls, of_modes, of_points, of_ports, of_stacks, of_transfers}
use borrow.Author.Rules.{rules}
use Rattle.do_8080.proofs.card.Goals as goal

pub returns-in-Transfers : goal.returns-in-Transfers
returns-in-Transfers c = search (at_quiet, of_transfers, rules)

pub returns-in_ok-r-in-Ports : goal.returns-in_ok-r-in-Ports
returns-in_ok-r-in-Ports c = search (at_through, of_ports, c.in_ok-r-in-Ports.ensures, rules)

pub returns-in_err-r-in-Ports : goal.returns-in_err-r-in-Ports
returns-in_err-r-in-Ports c =
    let p = err_from_is_err_and c.from_residual.result c.from_residual.ensures.1 in
    rw (p.1, p.2) (search (at_through, of_ports, c.in_err-r-in-Ports.ensures, rules))

pub returns-in-Controls : goal.returns-in-Controls
returns-in-Controls c = search (at_control, of_controls, rules)

pub returns-in-Points : goal.returns-in-Points
returns-in-Points c = search (at_quiet, of_points, rules)

pub returns-in-Calculates : goal.returns-in-Calculates
returns-in-Calculates c = search (at_quiet, of_calculates, rules)

pub returns-in-Branches : goal.returns-in-Branches
returns-in-Branches c = search (at_quiet, of_branches, rules)

pub returns-in-Stacks : goal.returns-in-Stacks
returns-in-Stacks c = search (at_quiet, of_stacks, rules)

pub returns-in-Modes : goal.returns-in-Modes
returns-in-Modes c = search (at_marked, of_modes, rules)
