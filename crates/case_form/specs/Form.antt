-- Where a case's header and its results have their fields.
use Rattle.std.specs.Prelude.{ℕ, zero, suc, ◌+◌, ◌*◌, ◌%◌, Bool, not, ◌&&◌, List, get_or, set, replicate, eqb, leb, ltb}
use mir.Val.{bool_byte}
use Rattle.sheet.specs.Width.{pick}
use Rattle.sheet.specs.declared.Marks.{Marks}
use Rattle.sheet.specs.declared.State.{State}
use Rattle.sheet.specs.declared.Bus.{Bus}
use Rattle.sheet.specs.declared.GapRule.{GapRule}
use Rattle.sheet.specs.declared.GapRule.TheVariants.{Old, New}
use Rattle.sheet.specs.declared.Entry.{Entry}
use Rattle.sheet.specs.declared.Entry.TheVariants.{Record, End, Malformed, Beyond}
use Rattle.case_bytes.specs.Numbers.{word_at, double_at, word_put, double_put}
use Rattle.case_form.specs.declared.Call.{Call}
use Rattle.case_form.specs.declared.Call.TheVariants.{Step, Run, Interrupt, Reset, ReadLog, Quick}
use Rattle.case_form.specs.declared.Case.{Case}

-- the rules for a header's bytes: call, halted, masking, the mark of a segment load, the permission and the gap rule; zero in the flags
-- marked undefined, whose request is not built, and in the last six bytes
unfoldable pub good_header : List ℕ → Bool
good_header header =
    leb (get_or header 0 0) 5 && (leb (get_or header 1 0) 1 && (leb (get_or header 2 0) 1 && (leb (get_or header 61 0) 1 && (leb (get_or header 62 0) 1 && (leb (get_or header 63 0) 1 && (eqb (word_at header 64) 0 && (eqb (word_at header 66) 0 && eqb (double_at header 68) 0)))))))

-- where the register file has the stream's register i: eight general ones, PS, SS, DS0, DS1, PC, PSW
unfoldable pub place_of : ℕ → ℕ
place_of i = pick (ltb i 8) i (pick (ltb i 11) (i + 1) (pick (ltb i 12) 8 i))

-- the register file after the header's first registers
unfoldable pub file_of : List ℕ → ℕ → List ℕ
file_of header zero = replicate 14 0
file_of header (suc i) = set (file_of header i) (place_of i) (word_at header (6 + i * 2))

unfoldable pub state_of : List ℕ → State
state_of header =
    record {
      file = file_of header 14;
      marks = record { halted = not (eqb (get_or header 1 0) 0); loaded = not (eqb (get_or header 61 0) 0); writable = not (eqb (get_or header 62 0) 0) };
      progress = record { tape = double_at header 34; log = double_at header 38; count = double_at header 42 };
    }

-- the gap rule that a log is read under
unfoldable pub rule_of : List ℕ → GapRule
rule_of header = pick (eqb (get_or header 63 0) 0) Old New

-- the call of a number: 0 step, 1 run, 2 interrupt, 3 reset, 4 log reading, 5 the quicker run; above 5 are none
unfoldable pub call_of : ℕ → Call
call_of n = pick (eqb n 0) Step (pick (eqb n 1) Run (pick (eqb n 2) Interrupt (pick (eqb n 4) ReadLog (pick (eqb n 5) Quick Reset))))

unfoldable pub case_of : List ℕ → Case
case_of header =
    record {
      call = call_of (get_or header 0 0);
      maskable = not (eqb (get_or header 2 0) 0);
      vector = get_or header 3 0;
      budget = word_at header 4;
      rule = rule_of header;
      ram = double_at header 46;
      rom = double_at header 50;
      tape = word_at header 54;
      log = word_at header 56;
      patches = word_at header 58;
      fill = get_or header 60 0;
    }

-- whether buffers of these lengths are as long as a case has them; a patch has six bytes
unfoldable pub fits_in : Case → ℕ → ℕ → ℕ → ℕ → ℕ → Bool
fits_in c ram rom tape log patches =
    leb c.ram ram && (leb c.rom rom && (leb c.tape tape && (leb c.log log && leb (c.patches * 6) patches)))

-- a result with the answer, the marks and the steps done put in
unfoldable pub with_answer : ℕ → Marks → ℕ → List ℕ → List ℕ
with_answer number marks steps l =
    double_put (set (set (set (set l 0 number) 1 (bool_byte marks.halted)) 70 (bool_byte marks.loaded)) 71 (bool_byte marks.writable)) 2 steps

-- with the bus cycles and the dropped bytes put in
unfoldable pub with_tally : Bus → List ℕ → List ℕ
with_tally bus l = double_put (double_put l 6 bus.cycles) 58 bus.dropped

-- with the first registers of a file put in, from byte 10 on
unfoldable pub with_file : List ℕ → ℕ → List ℕ → List ℕ
with_file file zero l = l
with_file file (suc i) l = word_put (with_file file i l) (10 + i * 2) (get_or file (place_of i) 0)

-- with the places and the count put in
unfoldable pub with_places : ℕ → ℕ → ℕ → List ℕ → List ℕ
with_places tape log count l = double_put (double_put (double_put l 38 (tape % 4294967296)) 42 (log % 4294967296)) 46 count

unfoldable pub with_call : ℕ → ℕ → Bus → State → List ℕ → List ℕ
with_call number steps bus s l =
    with_places s.progress.tape s.progress.log s.progress.count (with_file s.file 14 (with_tally bus (with_answer number s.marks steps l)))

-- with the sums of RAM and log put in
unfoldable pub with_sums : ℕ → ℕ → List ℕ → List ℕ
with_sums ram log l = double_put (double_put l 50 ram) 54 log

-- the whole result of a call on the machine
unfoldable pub result_of : ℕ → ℕ → Bus → State → ℕ → ℕ → List ℕ
result_of number steps bus s ram log = with_sums ram log (with_call number steps bus s (replicate 88 0))

-- a result of a log reading: kind, gap, key, value, place
unfoldable pub with_record : ℕ → ℕ → ℕ → ℕ → ℕ → List ℕ → List ℕ
with_record kind gap key value next l =
    double_put (double_put (double_put (double_put (set l 0 kind) 1 (gap % 4294967296)) 5 (key % 4294967296)) 9 (value % 4294967296)) 13 (next % 4294967296)

unfoldable pub with_entry : Entry → List ℕ → List ℕ
with_entry (Record gap key value next) l = with_record 0 gap key value next l
with_entry End l = with_record 1 0 0 0 0 l
with_entry (Malformed at) l = with_record 9 0 0 0 at l
with_entry Beyond l = with_record 2 0 0 0 0 l
