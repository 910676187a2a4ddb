use Rattle.do_field.proofs.Laws.{code_given, code_in_register}
use borrow.Author.Rules.{rules}
use Rattle.do_field.proofs.code.Goals as goal

pub returns-in-InRegister : goal.returns-in-InRegister
returns-in-InRegister c = search (code_in_register, rules)

pub returns-in-Given : goal.returns-in-Given
returns-in-Given c = search (code_given, rules)
