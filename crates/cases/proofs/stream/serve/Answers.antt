-- What a case fits in is long enough for what it takes of each buffer.
use Rattle.std.proofs.Common.{rules}
use Rattle.case_form.proofs.Laws.{ram_fits, rom_fits, tape_fits, log_fits, patches_fit, patches_small}
use Rattle.cases.proofs.stream.serve.Goals as goal

pub slice_bounds-ram-end : goal.slice_bounds-ram-end
slice_bounds-ram-end c = search (ram_fits, rules)

pub slice_bounds-ram-end-2 : goal.slice_bounds-ram-end-2
slice_bounds-ram-end-2 c = search (ram_fits, rules)

pub slice_bounds-rom-end : goal.slice_bounds-rom-end
slice_bounds-rom-end c = search (rom_fits, rules)

pub slice_bounds-rom-end-2 : goal.slice_bounds-rom-end-2
slice_bounds-rom-end-2 c = search (rom_fits, rules)

pub slice_bounds-tape-end : goal.slice_bounds-tape-end
slice_bounds-tape-end c = search (tape_fits, rules)

pub slice_bounds-tape-end-2 : goal.slice_bounds-tape-end-2
slice_bounds-tape-end-2 c = search (tape_fits, rules)

pub slice_bounds-log-end : goal.slice_bounds-log-end
slice_bounds-log-end c = search (log_fits, rules)

pub slice_bounds-log-end-2 : goal.slice_bounds-log-end-2
slice_bounds-log-end-2 c = search (log_fits, rules)

pub overflow_mul-patches : goal.overflow_mul-patches
overflow_mul-patches c = search (patches_small, rules)

pub slice_bounds-patches-end : goal.slice_bounds-patches-end
slice_bounds-patches-end c = search (patches_fit, rules)

pub slice_bounds-patches-end-2 : goal.slice_bounds-patches-end-2
slice_bounds-patches-end-2 c = search (patches_fit, rules)
