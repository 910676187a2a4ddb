use Rattle.code_bytes.proofs.Laws.{immediate_byte, immediate_word}
use Rattle.std.proofs.Common.{rules}
use Rattle.code_bytes.proofs.Code.immediate.Goals as goal

pub returns-then-word : goal.returns-then-word
returns-then-word c = search (immediate_word, rules)

pub returns : goal.returns
returns c = search (immediate_byte, rules)
