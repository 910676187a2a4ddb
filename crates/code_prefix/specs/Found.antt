-- What the code answers for a byte that may be a prefix.
use Rattle.std.specs.Prelude.{Option, Some, None}
use Rattle.sheet.specs.declared.Prefixes.{Prefixes}
use Rattle.sheet.specs.Encoding.{Prefix, with_prefix}

unfoldable pub found : Option Prefix → Prefixes → Option Prefixes
found None p = None
found (Some q) p = Some (with_prefix p q)
