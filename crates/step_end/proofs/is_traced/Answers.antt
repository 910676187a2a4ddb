use Rattle.step_end.proofs.is_traced.Goals as goal

pub returns : goal.returns
returns c = cc
