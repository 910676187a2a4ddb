use Rattle.mach_marks.proofs.begun.Goals as goal

pub returns : goal.returns
returns c = cc
