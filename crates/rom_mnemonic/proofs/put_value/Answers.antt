use mathlib.Core.Path.{refl}
use Rattle.rom_mnemonic.proofs.Laws.{value_added}
use Rattle.rom_mnemonic.proofs.put_value.Goals as goal
use Rattle.rom_mnemonic.proofs.put_value.Goals.{then-word, else-word}

pub returns : goal.returns
returns c =
    value_added _ _ _
    (elim c.if-word.branch [ then-word w ↦ rw (w.if-word.true, w.digits-is) refl | else-word w ↦ rw (w.if-word.false, w.digits-is) refl ])
    c.push_hex.ensures
