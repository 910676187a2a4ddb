-- The code bytes that the decoder is lent.
use Rattle.std.specs.Prelude.{ℕ}
use Rattle.sheet.specs.Step.{code_byte}
use Rattle.code_bytes.specs.declared.Code.{Code}

-- by their distance from PS:PC
abbrev pub lent_code : Code → ℕ → ℕ
lent_code c = code_byte c.ram.now c.rom.now c.ps c.pc
