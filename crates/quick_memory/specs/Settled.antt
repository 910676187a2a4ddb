-- What is done to the memory that a reading names with a value v, wherever the value is from.
use Rattle.std.specs.Prelude.{ℕ, List}
use Rattle.sheet.specs.declared.Bus.{Bus}
use Rattle.sheet.specs.declared.Place.TheVariants.{Memory}
use Rattle.sheet.specs.declared.Source.{Source}
use Rattle.sheet.specs.FirstByte.{operation_at}
use Rattle.sheet.specs.Operand.{source_value}
use Rattle.sheet.specs.Arithmetic.{two}
use Rattle.sheet.specs.Transfer.{mov}
use Rattle.sheet.specs.Contract.{OnFile, OnMemory}
use Rattle.quick_place.specs.Packed.{op_of, word_of, address_of}

pub record Moved (r v : ℕ) (f ram rom ram' : List ℕ) (n : Bus) : Type 0 where
  pub from : (s : Source) → OnFile ℕ (source_value (word_of r) s) f v f → OnMemory Unit (mov (word_of r) (Memory (address_of r)) s) f ram rom tt f ram' n 6

pub record Operated (r v : ℕ) (f ram rom f' ram' : List ℕ) (n : Bus) : Type 0 where
  pub from : (s : Source) → OnFile ℕ (source_value (word_of r) s) f v f
      → OnMemory Unit (two (operation_at (op_of r)) (word_of r) (Memory (address_of r)) s) f ram rom tt f' ram' n 6
