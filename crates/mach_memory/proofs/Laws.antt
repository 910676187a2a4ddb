-- What each return of the code comes to, over plain values.
use Rattle.std.proofs.Common.{◌≡◌, ℕ, ◌+◌, ◌-◌, ◌*◌, ◌/◌, ◌%◌, ◌<◌, ◌≤◌, Bool, true, false, List, [], length, get_or, set, arith, length-set, le-ltb, lt-ltb, le-leb}
use lib.Seq.{set_out}
use borrow.Author.Tests.{lt-leb}
use Rattle.sheet.specs.declared.Bus.{Bus}
use Rattle.sheet.specs.Width.{mod_of}
use Rattle.sheet.specs.Memory.{physical, next, byte_at, read_mem, write_mem, lost, lost_bytes}
use Rattle.mach_tally.specs.Sums.{Costs}
use Rattle.sheet.proofs.Lifted.{memory_peek, memory_poke}
use Rattle.mach_memory.specs.Accesses.{Lands, Missed, Writes, Loads, Stores}

pub byte_at_ram : (ram rom : List ℕ) (a b : ℕ) → a ≡ b → a < length ram → get_or ram a 0 ≡ byte_at ram rom b
unfolding byte_at
byte_at_ram ram rom a b e h = rw (← e, lt-ltb a (length ram) h)

pub byte_at_rom : (ram rom : List ℕ) (a b : ℕ) → a ≡ b → length ram ≤ a → 1048576 ≤ a + length rom → get_or rom (a + length rom - 1048576) 0 ≡ byte_at ram rom b
unfolding byte_at
byte_at_rom ram rom a b e h k = rw (← e, le-ltb a (length ram) h, le-leb 1048576 (a + length rom) k)

pub byte_at_none : (ram rom : List ℕ) (a b : ℕ) → a ≡ b → length ram ≤ a → a + length rom < 1048576 → 255 ≡ byte_at ram rom b
unfolding byte_at
byte_at_none ram rom a b e h k = rw (← e, le-ltb a (length ram) h, lt-leb 1048576 (a + length rom) k)

pub landed : (ram ram' : List ℕ) (a b v : ℕ) → a ≡ b → a < length ram → ram' ≡ set ram a v → Lands ram b v ram' true
unfolding lost
landed ram ram' a b v e h q = record { is = rw (← e) q; told = rw (← e, lt-ltb a (length ram) h) }

-- a write past RAM's end changes nothing
pub dropped : (ram : List ℕ) (a b v : ℕ) → a ≡ b → length ram ≤ a → Lands ram b v ram false
unfolding lost
dropped ram a b v e h = record { is = rw (← e, set_out ram a v h); told = rw (← e, le-ltb a (length ram) h) }

pub read_word : (w : Bool) (ram rom : List ℕ) (g o n x y : ℕ) → w ≡ true → n ≡ next o → x ≡ byte_at ram rom (physical g o) → y ≡ byte_at ram rom (physical g n) → x + 256 * y ≡ read_mem w ram rom g o
unfolding read_mem
read_word w ram rom g o n x y p q e f = rw (p, e, f, q)

pub below_word : (w : Bool) (x y : ℕ) → w ≡ true → x < 256 → y < 256 → x + 256 * y < mod_of w
below_word w x y p h k = rw p (omega arith)

pub read_byte : (w : Bool) (ram rom : List ℕ) (g o x : ℕ) → w ≡ false → x ≡ byte_at ram rom (physical g o) → x ≡ read_mem w ram rom g o
unfolding read_mem
read_byte w ram rom g o x p e = rw (p, e)

pub below_byte : (w : Bool) (x : ℕ) → w ≡ false → x < 256 → x < mod_of w
below_byte w x p h = rw p h

pub write_word : (w : Bool) (ram ram' ram'' : List ℕ) (g o n v x y : ℕ) (b c : Bool) → w ≡ true → n ≡ next o → Lands ram (physical g o) (v % 256) ram' b → Missed b x
    → Lands ram' (physical g n) (v / 256 % 256) ram'' c → Missed c y → Writes w ram g o v ram'' (x + y)
unfolding write_mem lost_bytes lost
write_word w ram ram' ram'' g o n v x y b c p q e k f l =
    let z : lost ram' (physical g n) ≡ lost ram (physical g (next o)) = rw (e.is, q, length-set ram (physical g o) (v % 256)) in
    record { is = rw (p, f.is, e.is, q); told = rw (p, k.is, l.is, e.told, f.told, z) }

pub write_byte : (w : Bool) (ram ram' : List ℕ) (g o v x : ℕ) (b : Bool) → w ≡ false → Lands ram (physical g o) (v % 256) ram' b → Missed b x → Writes w ram g o v ram' x
unfolding write_mem lost_bytes
write_byte w ram ram' g o v x b p e k = record { is = rw (p, e.is); told = rw (p, k.is, e.told) }

pub loads : (w : Bool) (ram rom : List ℕ) (g o v : ℕ) (n : Bus) → v ≡ read_mem w ram rom g o → v < mod_of w → Costs w o 0 n → Loads w ram rom g o v n
loads w ram rom g o v n e h q =
    record { below = h; cost = q; fair = (memory_peek w g o v n [] ram rom e q.is).fair; at = λ f. memory_peek w g o v n f ram rom e q.is }

pub stores : (w : Bool) (ram ram' : List ℕ) (g o v : ℕ) (d : ℕ) (n : Bus) → Writes w ram g o v ram' d → Costs w o d n → Stores w ram g o v ram' n
stores w ram ram' g o v d n e q =
    let c : Costs w o (lost_bytes w ram g o) n = rw e.told at q in
    record {
      cost = c;
      fair = (memory_poke w g o v n [] ram [] ram' e.is c.is).fair;
      at = λ f rom. memory_poke w g o v n f ram rom ram' e.is c.is;
    }
