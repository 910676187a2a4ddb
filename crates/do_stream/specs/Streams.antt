-- The primitives that use a port, among all.
use Rattle.sheet.specs.declared.Primitive.{Primitive}
use Rattle.sheet.specs.declared.Primitive.TheVariants as primitives
use Rattle.do_stream.specs.declared.Streaming.{Streaming}
use Rattle.do_stream.specs.declared.Streaming.TheVariants.{Inm, Outm}

abbrev pub primitive_of : Streaming → Primitive
primitive_of Inm = primitives.Inm
primitive_of Outm = primitives.Outm
