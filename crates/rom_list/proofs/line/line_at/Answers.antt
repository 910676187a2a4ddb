use mathlib.Core.Path.{sym, ◌∙◌}
use native.Mathlib.Omega.{arith}
use Rattle.rom_list.proofs.LineLaws.{cut_made, instr_made, unknown_made, whole_fits, part_short}
use borrow.Author.Rules.{rules}
use Rattle.rom_list.proofs.line.line_at.Goals as goal

pub slice_bounds-put_instr_line-end : goal.slice_bounds-put_instr_line-end
slice_bounds-put_instr_line-end c =
    let w = whole_fits _ _ (sym c.lies.ensures ∙ c.if-lies.true) in
    omega (arith, w.0)

pub put_instr_line-requires : goal.put_instr_line-requires
put_instr_line-requires c =
    let w = whole_fits _ _ (sym c.lies.ensures ∙ c.if-lies.true) in
    part_short _ _ _ w.1

pub returns-then-lies : goal.returns-then-lies
returns-then-lies c = search (instr_made, rules)

pub returns-else-lies : goal.returns-else-lies
returns-else-lies c = search (cut_made, rules)

pub returns-in-Err : goal.returns-in-Err
returns-in-Err c = search (unknown_made, rules)
