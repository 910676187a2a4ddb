use Rattle.engine.proofs.ExecuteLaws.{at_control, at_marked, at_quiet, at_same, at_told, of_blocks, of_cards, of_computes, of_controls, of_interrupts, of_modes, of_moves, of_multiplies, of_ports}
use borrow.Author.Rules.{rules}
use Rattle.engine.proofs.execute.perform.Goals as goal

pub returns-in-Computes : goal.returns-in-Computes
returns-in-Computes c = rw c.quiet.ensures (search (at_quiet, of_computes, rules))

pub returns-in-Moves : goal.returns-in-Moves
returns-in-Moves c = rw c.quiet-in-Moves.ensures (search (at_quiet, of_moves, rules))

pub returns-in-Multiplies : goal.returns-in-Multiplies
returns-in-Multiplies c = rw c.told.ensures (search (at_told, of_multiplies, rules))

pub returns-in-Interrupts : goal.returns-in-Interrupts
returns-in-Interrupts c = rw c.told-in-Interrupts.ensures (search (at_told, of_interrupts, rules))

pub returns-in-Blocks : goal.returns-in-Blocks
returns-in-Blocks c = search (at_same, of_blocks, rules)

pub returns-in-Ports : goal.returns-in-Ports
returns-in-Ports c = search (at_same, of_ports, rules)

pub returns-in-Controls : goal.returns-in-Controls
returns-in-Controls c = search (at_control, of_controls, rules)

pub returns-in-Modes : goal.returns-in-Modes
returns-in-Modes c = rw c.quiet-in-Modes.ensures (search (at_marked, of_modes, rules))

pub returns-in-Cards : goal.returns-in-Cards
returns-in-Cards c = search (at_same, of_cards, rules)
