-- Lines that are measured and written one after the other.
use Prim.Native.Nat.{ℕ, ◌+◌, ◌-◌, ◌*◌, ◌≤◌, ◌<◌}
use mathlib.Core.Path.{◌≡◌, sym, ap, ◌∙◌}
use mathlib.Core.List.{List, [], ◌++◌, append_assoc, append-nil}
use native.Mathlib.Omega.{arith}
use native.Mathlib.Nat.{zero-add}
use lib.ListN.{length, take, drop, length-append}
use borrow.Rule.Slice.PartMut.{put_mid}
use Rattle.base_laws.specs.Writes.{Writes}
use Rattle.base_laws.proofs.Writing as writing
use Rattle.rom_form.specs.Listing.{top, size_at, line_at, lines_from, listing}
use Rattle.rom_form.proofs.RoundTrip.{Sized, size_at_lem}
use Rattle.rom_form.proofs.Lines.{line_short, no_lines, line_and_rest, all_lines}
use Rattle.rom_list.specs.Makes.{Makes}
use Rattle.rom_list.specs.Lists.{Lists, listed, too_long, no_room}

-- ---- measured so far: the lines up to an address

pub record Counting (image : List ℕ) (a sum : ℕ) : Type 0 where
  pub low : top ≤ a + length image
  pub high : a ≤ top
  pub sums : sum + length (lines_from (top - a) image a) ≡ length (listing image)
  pub small : sum ≤ 80 * (a + length image - top)

pub counting_begun : (image : List ℕ) → length image ≤ 32768 → Counting image (top - length image) 0
counting_begun image h = record { low = omega arith; high = omega arith; sums = zero-add _ ∙ sym (ap length (all_lines image (omega arith))); small = omega arith }

-- what an address moves by
pub moves : (image : List ℕ) {a size : ℕ} → a < top → size ≡ size_at image a → Sized size (top - a)
moves image {a} h e = rw e (size_at_lem image a h)

pub counting_more : {image line : List ℕ} {a sum size : ℕ} → Counting image a sum → a < top → Makes image a line size → Counting image (a + size) (sum + length line)
counting_more {image} {line} {a} {sum} {size} c h m =
    let s = moves image h m.counts in
    let e = ap length (line_and_rest image a h) ∙ length-append (line_at image a) (lines_from (top - (a + size_at image a)) image (a + size_at image a)) in
    let f = rw (← m.counts) at e in
    record {
      low = omega (arith, c.low);
      high = omega (arith, s.fits);
      sums = omega (arith, c.sums, f, ap length m.here);
      small = omega (arith, c.small, c.low, s.some, ap length m.here, line_short image a h);
    }

pub counted : {image : List ℕ} {a sum : ℕ} → Counting image a sum → top ≤ a → sum ≡ length (listing image)
counted {image} {a} c h = omega (arith, c.sums, ap length (no_lines (top - a) image a h))

-- ---- written so far

pub record Writing (image out : List ℕ) (a at : ℕ) (out' : List ℕ) : Type 0 where
  pub low : top ≤ a + length image
  pub high : a ≤ top
  pub done : List ℕ
  pub writes : Writes done out at out'
  pub all : done ++ lines_from (top - a) image a ≡ listing image

pub writing_begun : (image out : List ℕ) → length image ≤ 32768 → Writing image out (top - length image) 0 out
writing_begun image out h =
    record { low = omega arith; high = omega arith; done = []; writes = writing.none out; all = sym (all_lines image (omega arith)) }

module _ {image out out' : List ℕ} {a at : ℕ} (w : Writing image out a at out') (h : a < top) (n : length (listing image) ≤ length out) where
  pub rest_is : w.done ++ (line_at image a ++ lines_from (top - (a + size_at image a)) image (a + size_at image a)) ≡ listing image
  rest_is = ap (λ (l : List ℕ). w.done ++ l) (sym (line_and_rest image a h)) ∙ w.all

  module _ {line : List ℕ} {size : ℕ} (m : Makes image a line size) where
    pub line_room : length line ≤ length (take (length out' - at) (drop at out'))
    line_room =
        let t = lines_from (top - (a + size_at image a)) image (a + size_at image a) in
        rw m.here
        (writing.room w.writes (line_at image a)
        (omega (arith, n, ap length rest_is, length-append w.done (line_at image a ++ t), length-append (line_at image a) t, length-append w.done (line_at image a))))

    pub writing_more : {len : ℕ} {part : List ℕ} → Writes line (take (length out' - at) (drop at out')) len part
        → Writing image out (a + size) (at + len) (put_mid at (length out' - at) out' part)
    writing_more {len} {part} p =
        let s = moves image h m.counts in
        record {
          low = omega (arith, w.low);
          high = omega (arith, s.fits);
          done = w.done ++ line_at image a;
          writes = writing.more w.writes (line_at image a) part len (rw m.here at p);
          all = rw m.counts (append_assoc w.done (line_at image a) _ ∙ rest_is);
        }

pub written : {image out out' : List ℕ} {a at : ℕ} → Writing image out a at out' → top ≤ a → Writes (listing image) out at out'
written {image} {out} {out'} {a} {at} w h =
    let e = sym (append-nil w.done) ∙ ap (λ (l : List ℕ). w.done ++ l) (sym (no_lines (top - a) image a h)) ∙ w.all in
    rw e at w.writes

-- ---- how a listing ends

pub is_too_long : (image out : List ℕ) → 32768 < length image → Lists image out 17 0 out
is_too_long image out h = too_long h

pub has_no_room : (image out : List ℕ) (n : ℕ) → length image ≤ 32768 → n ≡ length (listing image) → length out < n → Lists image out 6 0 out
has_no_room image out n h e m = no_room h (rw e at m)

pub is_listed : (image out out' : List ℕ) (len : ℕ) → length image ≤ 32768 → Writes (listing image) out len out' → Lists image out 0 len out'
is_listed image out out' len h w = listed h w
