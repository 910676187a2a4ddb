-- What each instruction comes to, from what its parts come to.
use Prim.Native.Nat.{ℕ}
use mathlib.Core.Bool.{Bool}
use mathlib.Core.List.{List}
use mathlib.Core.Path.{◌≡◌, refl}
use lib.ListN.{get_or}
use Rattle.sheet.specs.declared.Bus.{Bus}
use Rattle.sheet.specs.declared.Marks.{Marks}
use Rattle.sheet.specs.declared.Progress.{Progress}
use Rattle.sheet.specs.declared.Port.{Port}
use Rattle.sheet.specs.declared.Port.TheVariants.{InDw, Numbered}
use Rattle.sheet.specs.declared.Io.TheVariants.{In, Out}
use Rattle.sheet.specs.Registers.{AW, DW, file_of, read_reg}
use Rattle.sheet.specs.World.{world, state_of}
use Rattle.sheet.specs.Handler.{nothing}
use Rattle.sheet.specs.Operand.{reg_value, set_reg}
use Rattle.sheet.specs.Ports.{port_number, ports}
use Rattle.sheet.specs.Contract.{Ends, OnFile}
use Rattle.sheet.proofs.Rules.{seq_free, seq_last, seq_stops, seq_then_stops}
use Rattle.sheet.proofs.Lifted.{file_seq, file_pure, file_registers}
use Rattle.mach_registers.proofs.Laws.{file_reg}
use Rattle.mach_ports.specs.Accesses.{Gives, Takes, OnPorts}
use Rattle.mach_ports.proofs.Told.{ports_end, ports_stop}

pub port_in_dw : (f : List ℕ) (p : Port) → p ≡ InDw → OnFile ℕ (port_number p) f (get_or f DW 0) f
unfolding port_number
port_in_dw f p e = rw e (file_seq _ file_registers file_pure)

pub port_numbered : (f : List ℕ) (p : Port) (n : ℕ) → p ≡ Numbered n → OnFile ℕ (port_number p) f n f
unfolding port_number
port_numbered f p n e = rw e file_pure

module _ (w : Bool) (port : Port) (f g ram rom tape log log' : List ℕ) (q q' : Progress) (number n v : ℕ) (c : Bus) (k : OnFile ℕ (port_number port) f n f) where
  pub input_done : Takes w n tape log q number v log' q' c → number ≡ 0 → OnFile Unit (set_reg w AW v) f tt g → OnPorts (ports (In w port)) f ram rom tape log q number g ram log' q' c 2
  unfolding ports
  input_done t z s =
      rw z
      (ports_end _ f ram rom tape log q g ram log' q' c 2 t.most
      (λ h. seq_free _ (k.at (state_of f h q) ram rom tape log) (seq_last _ (t.done z f h ram rom) (s.at (state_of f h q') ram rom tape log'))))

  pub input_stop : Takes w n tape log q number v log' q' c → (number ≡ 0 → ⊥) → OnPorts (ports (In w port)) f ram rom tape log q number f ram log' q' c 2
  unfolding ports
  input_stop t z =
      ports_stop _ f ram rom tape log q number log' q' c 2 z (t.same z)
      (λ h. seq_then_stops _ (k.at (state_of f h q) ram rom tape log) (seq_stops _ (t.stop z f h ram rom)))

  -- an output changes no register, whether it ends or refuses
  pub output_is : v ≡ read_reg w (file_of f) AW → Gives w n v log q number log' q' c → OnPorts (ports (Out w port)) f ram rom tape log q number f ram log' q' c 2
  unfolding ports
  output_is e t = record {
    most = t.most;
    done = λ z h. seq_free _ (k.at (state_of f h q) ram rom tape log) (seq_free _ (value h) (t.done z f h ram rom tape));
    stop = λ z h. seq_then_stops _ (k.at (state_of f h q) ram rom tape log) (seq_then_stops _ (value h) (t.stop z f h ram rom tape));
    same = λ z. (refl, refl, (t.same z).0, (t.same z).2);
  }
    where
      value : (h : Marks) → Ends ℕ (reg_value w AW) (world (state_of f h q) ram rom tape log) v (world (state_of f h q) ram rom tape log) nothing
      value h = (file_reg w AW e).at (state_of f h q) ram rom tape log
