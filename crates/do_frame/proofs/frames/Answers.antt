use Rattle.mach_tally.proofs.Laws.{sums}
use Rattle.do_frame.proofs.Laws.{frames_are, no_frames}
use borrow.Author.Rules.{rules}
use Rattle.do_frame.proofs.frames.Goals as goal

pub returns-then-level-eq0 : goal.returns-then-level-eq0
returns-then-level-eq0 c = search (no_frames, sums, rules)

pub returns : goal.returns
returns c = search (frames_are, sums, rules)
