pub mod Operands
pub mod Mnemonics
pub mod Printed
