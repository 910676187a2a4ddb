use borrow.Author.Rules.{rules}
use Rattle.code_prefix.specs.Found.{found}
use Rattle.code_prefix.proofs.Laws.{no_prefix}
use Rattle.sheet.specs.Encoding.{prefix_of}
use Rattle.code_prefix.proofs.prefix.Goals as goal

pub returns-in-38 : goal.returns-in-38
unfolding prefix_of found
returns-in-38 c = rw c.in-38.is c.in_segment.ensures

pub returns-in-46 : goal.returns-in-46
unfolding prefix_of found
returns-in-46 c = rw c.in-46.is c.in_segment-in-46.ensures

pub returns-in-54 : goal.returns-in-54
unfolding prefix_of found
returns-in-54 c = rw c.in-54.is c.in_segment-in-54.ensures

pub returns-in-62 : goal.returns-in-62
unfolding prefix_of found
returns-in-62 c = rw c.in-62.is c.in_segment-in-62.ensures

pub returns-in-100 : goal.returns-in-100
unfolding prefix_of found
returns-in-100 c = rw c.in-100.is c.repeating.ensures

pub returns-in-101 : goal.returns-in-101
unfolding prefix_of found
returns-in-101 c = rw c.in-101.is c.repeating-in-101.ensures

pub returns-in-240 : goal.returns-in-240
unfolding prefix_of found
returns-in-240 c = rw c.in-240.is

pub returns-in-242 : goal.returns-in-242
unfolding prefix_of found
returns-in-242 c = rw c.in-242.is c.repeating-in-242.ensures

pub returns-in-243 : goal.returns-in-243
unfolding prefix_of found
returns-in-243 c = rw c.in-243.is c.repeating-in-243.ensures

pub returns-in_default : goal.returns-in_default
unfolding prefix_of found
returns-in_default c = no_prefix c.args.p c.args.b (search rules)
