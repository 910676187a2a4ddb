-- Trees one after the other, with all that happens on the way.
use Prim.Native.Nat.{ℕ}
use mathlib.Core.Path.{◌≡◌, refl, ap, ◌∙◌}
use mathlib.Core.Bool.{Bool}
use mathlib.Core.List.{List, [], ◌∷◌, ◌++◌}
use Rattle.sheet.specs.Width.{wrap_of}
use Rattle.sheet.specs.Psw.{keeps, flag_of, settled}
use Rattle.sheet.specs.Registers.{file_of, written}
use Rattle.sheet.specs.Memory.{read_mem, write_mem, lost_bytes}
use Rattle.sheet.specs.World.{World, with_state, with_ram, psw_of, with_file, with_psw, with_halted, crossed}
use Rattle.sheet.specs.Act.{Act, pure, refuse, get, put, ask, copy, flags, load, store, input, output, halt, cross, ◌>>=◌}
use Rattle.sheet.specs.Handler.{Access, short, through, inputs, outputs, Event, reads, writes, takes, gives, asks, copies, changes, Outcome, refused, done, then, ported, run_by, run}

-- events in front of an outcome
prepend : {A : Type 0} → List Event → Outcome A → Outcome A
prepend [] o = o
prepend (e ∷ t) o = then e (prepend t o)

after : {A B : Type 0} → Outcome A → (A → World → Outcome B) → Outcome B
after (refused n t) f = refused n t
after (done a w t) f = prepend t (f a w)

after_then : {A B : Type 0} (e : Event) (o : Outcome A) (f : A → World → Outcome B) → then e (after o f) ≡ after (then e o) f
unfolding after prepend
after_then e (refused n t) f = refl
after_then e (done a w t) f = refl

after_port : {A B : Type 0} (r : Access) (e : ℕ → Event) (o : ℕ → World → Outcome A) (q : ℕ → World → Outcome B) (f : A → World → Outcome B)
    → ((v : ℕ) (w : World) → q v w ≡ after (o v w) f)
    → ported r (λ v w. then (e v) (q v w)) ≡ after (ported r (λ v w. then (e v) (o v w))) f
unfolding after
after_port (short n) e o q f h = refl
after_port (through v w) e o q f h = ap (then (e v)) (h v w) ∙ after_then (e v) (o v w) f

run_bind : {A B : Type 0} (p : Act A) (f : A → Act B) (w : World) → run (p >>= f) w ≡ after (run p w) (λ a v. run (f a) v)
unfolding run run_by ◌>>=◌ after prepend
run_bind (pure a) f w = refl
run_bind (refuse n) f w = refl
run_bind (get k) f w = run_bind (k (file_of w.state.file)) f w
run_bind (put n v p) f w = run_bind p f (with_state w (with_file w.state (written w.state.file n v)))
run_bind (ask q k) f w =
    let b : Bool = flag_of (psw_of w.state) q in
    ap (then (asks q)) (run_bind (k b) f w) ∙ after_then (asks q) (run (k b) w) (λ a v. run (f a) v)
run_bind (copy b k) f w =
    let x : ℕ = wrap_of b (psw_of w.state) in
    ap (then (copies b)) (run_bind (k x) f w) ∙ after_then (copies b) (run (k x) w) (λ a v. run (f a) v)
run_bind (flags c p) f w =
    let u : World = with_state w (with_psw w.state (settled keeps c (psw_of w.state))) in
    ap (then (changes c)) (run_bind p f u) ∙ after_then (changes c) (run p u) (λ a v. run (f a) v)
run_bind (load b g o k) f w =
    let x : ℕ = read_mem b w.ram w.rom g o in
    ap (then (reads b g o)) (run_bind (k x) f w) ∙ after_then (reads b g o) (run (k x) w) (λ a v. run (f a) v)
run_bind (store b g o v p) f w =
    let u : World = with_ram w (write_mem b w.ram g o v) in
    let e : Event = writes b g o v (lost_bytes b w.ram g o) in
    ap (then e) (run_bind p f u) ∙ after_then e (run p u) (λ a x. run (f a) x)
run_bind (input b n k) f w =
    after_port (inputs b n w) (takes b n) (λ v u. run (k v) u) (λ v u. run (k v >>= f) u) (λ a v. run (f a) v) (λ v u. run_bind (k v) f u)
run_bind (output b n v p) f w =
    after_port (outputs b n v w) (λ x. gives b n v) (λ x u. run p u) (λ x u. run (p >>= f) u) (λ a x. run (f a) x) (λ x u. run_bind p f u)
run_bind (halt b p) f w = run_bind p f (with_state w (with_halted w.state b))
run_bind (cross c p) f w = run_bind p f (with_state w (crossed c w.state))

prepend_done : {A : Type 0} (t t' : List Event) (a : A) (w : World) → prepend t (done a w t') ≡ done a w (t ++ t')
unfolding prepend
prepend_done [] t' a w = refl
prepend_done (e ∷ t) t' a w = ap (then e) (prepend_done t t' a w)

-- a tree, begun in w, hands a on and leaves v, and t happened
pub record Runs (A : Type 0) (p : Act A) (w : World) (a : A) (v : World) (t : List Event) : Type 0 where
  pub is : run p w ≡ done a v t

pub runs_then : {A B : Type 0} {p : Act A} (f : A → Act B) {w v u : World} {a : A} {b : B} {t t' : List Event}
    → Runs A p w a v t → Runs B (f a) v b u t' → Runs B (p >>= f) w b u (t ++ t')
unfolding after
runs_then {p = p} f {w} {u = u} {b = b} {t = t} {t' = t'} x y = record { is = run_bind p f w ∙ rw (x.is, y.is) (prepend_done t t' b u) }
