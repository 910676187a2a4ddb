use Rattle.base_line.proofs.Laws.{adds_known}
use Rattle.rom_mnemonic.proofs.Laws.{memory_added}
use Rattle.rom_mnemonic.specs.Operands.{operand_text}
use borrow.Author.Rules.{rules}
use Rattle.rom_mnemonic.proofs.put_operand.Goals as goal

pub returns-in-Reg : goal.returns-in-Reg
unfolding operand_text
returns-in-Reg c = search (adds_known operand_text, memory_added, rules)

pub returns-in-Seg : goal.returns-in-Seg
unfolding operand_text
returns-in-Seg c = search (adds_known operand_text, memory_added, rules)

pub returns-in-Mem : goal.returns-in-Mem
unfolding operand_text
returns-in-Mem c = search (adds_known operand_text, memory_added, rules)

pub returns-in-Block : goal.returns-in-Block
unfolding operand_text
returns-in-Block c = search (adds_known operand_text, memory_added, rules)

pub returns-in-Value : goal.returns-in-Value
unfolding operand_text
returns-in-Value c = search (adds_known operand_text, memory_added, rules)

pub returns-in-Once : goal.returns-in-Once
unfolding operand_text
returns-in-Once c = search (adds_known operand_text, memory_added, rules)

pub returns-in-Target : goal.returns-in-Target
unfolding operand_text
returns-in-Target c = search (adds_known operand_text, memory_added, rules)

pub returns-in-Far : goal.returns-in-Far
unfolding operand_text
returns-in-Far c = search (adds_known operand_text, memory_added, rules)
