-- What may write MD: POP PSW, RETI and BRKEM; in the 8080 mode CALLN and RETEM.
-- 001:550, 883-943; 000:1264, 1316-1317, 1356-1357; CARDS 63-64; 02 m
use Rattle.std.specs.Prelude.{ℕ}
use Rattle.sheet.specs.declared.Mode.{Mode}
use Rattle.sheet.specs.declared.Mode.TheVariants.{PopPsw, Reti, Brkem}
use Rattle.sheet.specs.declared.cards.CardMode.{CardMode}
use Rattle.sheet.specs.declared.cards.CardMode.TheVariants.{Calln, Retem}
use Rattle.sheet.specs.Psw.{native_of, to_native, to_cards, back, stored}
use Rattle.sheet.specs.Registers.{PS, PC}
use Rattle.sheet.specs.Act.{Act, pure, ◌>>=◌, ◌>>◌, ◌≔◌, restore, crossing}
use Rattle.sheet.specs.Traps.{pop, vectored}

-- the flags of a stored PSW, and its MD under the permission
unfoldable pub take_back : ℕ → Act Unit
take_back x = do
  restore x
  crossing (stored (native_of x))

unfoldable pub pop_psw : Act Unit
pop_psw = do
  x ← pop
  take_back x

-- PC and PS are popped, and a PSW, which is handed on
unfoldable pub pop_return : Act ℕ
pop_return = do
  pc ← pop
  ps ← pop
  x ← pop
  PC ≔ pc
  PS ≔ ps
  pure x

unfoldable pub reti : Act Unit
reti = do
  x ← pop_return
  take_back x

-- native mode whatever MD was stored
unfoldable pub retem : Act Unit
retem = do
  x ← pop_return
  restore x
  crossing back

-- IE and BRK stay
unfoldable pub brkem : ℕ → Act Unit
brkem v = vectored (crossing to_cards) v

unfoldable pub calln : ℕ → Act Unit
calln v = vectored (crossing to_native) v

unfoldable pub modes : Mode → Act Unit
modes PopPsw = pop_psw
modes Reti = reti
modes (Brkem v) = brkem v

unfoldable pub card_modes : CardMode → Act Unit
card_modes (Calln v) = calln v
card_modes Retem = retem
