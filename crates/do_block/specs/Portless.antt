-- The primitives that use no port, among all.
use Rattle.sheet.specs.declared.Primitive.{Primitive}
use Rattle.sheet.specs.declared.Primitive.TheVariants as sheet
use Rattle.do_block.specs.declared.Portless.{Portless}
use Rattle.do_block.specs.declared.Portless.TheVariants.{Movbk, Cmpbk, Cmpm, Ldm, Stm}

abbrev pub primitive_of : Portless → Primitive
primitive_of Movbk = sheet.Movbk
primitive_of Cmpbk = sheet.Cmpbk
primitive_of Cmpm = sheet.Cmpm
primitive_of Ldm = sheet.Ldm
primitive_of Stm = sheet.Stm
