use Rattle.std.proofs.Common.{rules, arith}
use Rattle.quick_place.proofs.Laws.{bit_small, joins}
use Rattle.quick_place.proofs.Fields.packed.Goals as goal

pub overflow_add-result-6 : goal.overflow_add-result-6
overflow_add-result-6 c = omega (arith, bit_small c.args.self.word)

pub overflow_add-result-7 : goal.overflow_add-result-7
overflow_add-result-7 c = omega (arith, bit_small c.args.self.word)

pub overflow_add-result-8 : goal.overflow_add-result-8
overflow_add-result-8 c = omega (arith, bit_small c.args.self.word)

pub returns : goal.returns
returns c = search (joins, rules)
