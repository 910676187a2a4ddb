-- What the instruction of a reading at a port does.
use Rattle.std.specs.Prelude.{ℕ, ◌%◌, List, [], ◌∷◌, get_or}
use Rattle.sheet.specs.declared.Io.TheVariants.{In, Out}
use Rattle.sheet.specs.declared.Repeat.TheVariants.{WhileZ}
use Rattle.sheet.specs.Act.{Act, pure}
use Rattle.sheet.specs.Block.{block}
use Rattle.sheet.specs.Ports.{ports}
use Rattle.quick_place.specs.Packed.{kind_of, rm_of, op_of, seg_of, word_of, disp_of}
use Rattle.quick_pack.specs.Readings.{port_at, stream_at}

-- in the order of `readings_48`
unfoldable pub port_trees : ℕ → ℕ → List (Act Unit)
port_trees r start =
    ports (In (word_of r) (port_at (rm_of r) (disp_of r)))
    ∷ ports (Out (word_of r) (port_at (rm_of r) (disp_of r)))
    ∷ block (stream_at (op_of r)) (word_of r) (seg_of r) WhileZ start
    ∷ []

unfoldable pub port_tree : ℕ → ℕ → Act Unit
port_tree r start = get_or (port_trees r start) (kind_of r % 16) (pure tt)
