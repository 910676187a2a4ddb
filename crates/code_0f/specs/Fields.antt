-- The two operations on bit fields.
use Rattle.std.specs.Prelude.{ℕ, Bool, true, false}
use Rattle.sheet.specs.declared.Length.{Length}
use Rattle.sheet.specs.declared.Field.TheVariants.{Ins, Ext}
use Rattle.sheet.specs.declared.Instr.{Instr}
use Rattle.sheet.specs.Groups.{Fields}

-- EXT takes its words from a segment, INS puts them into DS1
abbrev pub field_of : Bool → (seg offset : ℕ) → Length → Instr
field_of true seg offset length = Fields (Ext seg offset length)
field_of false seg offset length = Fields (Ins offset length)
