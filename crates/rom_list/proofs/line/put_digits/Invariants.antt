use lib.ListN.{take}
use Rattle.base_line.specs.Adds.{Adds}
use Rattle.rom_form.specs.Listing.{bytes_text}
use Rattle.rom_list.proofs.line.put_digits.Given as goal

-- the bytes before the index stand in the line
abbrev pub invariant-loop-b : goal.invariant-loop-b
invariant-loop-b l = Adds (bytes_text (take l.b-index l.bytes)) l.initial.line l.line
