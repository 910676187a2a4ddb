-- A rebuilding has one result only.
use Prim.Native.Nat.{ℕ, ◌<◌}
use mathlib.Core.Path.{◌≡◌, sym, ◌∙◌}
use mathlib.Core.Logic.{◌⊎◌, inl, inr}
use mathlib.Core.List.{List}
use native.Mathlib.Nat.{lt_irrefl}
use native.Mathlib.Omega.{arith}
use lib.ListN.{length}
use Rattle.base_laws.specs.Writes.{Writes}
use Rattle.rom_form.specs.Restored.{restored}
use Rattle.rom_list.specs.Rebuilds.{Rebuilds}

module _ (lines out : List ℕ) where
  room_none : {A : Type 0} {len : ℕ} {o : List ℕ} → Writes (restored lines) out len o → length out < length (restored lines) → A
  room_none w k = absurd (lt_irrefl (length out) (omega (arith, w.count, w.within)))

  pub rebuild_once : {n n' len len' : ℕ} {o o' : List ℕ} → Rebuilds lines out n len o → Rebuilds lines out n' len' o' → (n ≡ n') × (len ≡ len') × (o ≡ o')
  rebuild_once {n} {n'} {len} {len'} {o} {o'} r s = go r.numbers s.numbers
    where
      -- a refusal leaves everything as it was
      alike : n ≡ n' → (n ≡ 0 → ⊥) → (n ≡ n') × (len ≡ len') × (o ≡ o')
      alike e z =
          let a = r.untouched z in
          let b = s.untouched (λ y. z (e ∙ y)) in
          (e, a.0 ∙ sym b.0, a.1 ∙ sym b.1)

      go : (n ≡ 0) ⊎ ((n ≡ 16) ⊎ (n ≡ 6)) → (n' ≡ 0) ⊎ ((n' ≡ 16) ⊎ (n' ≡ 6)) → (n ≡ n') × (len ≡ len') × (o ≡ o')
      go (inl a) (inl b) =
          let v = (r.rebuilt a).1 in
          let w = (s.rebuilt b).1 in
          (a ∙ sym b, v.count ∙ sym w.count, v.left ∙ sym w.left)
      go (inl a) (inr (inl b)) = absurd (s.unlisted b (r.rebuilt a).0)
      go (inl a) (inr (inr b)) = room_none (r.rebuilt a).1 (s.no_room b).1
      go (inr (inl a)) (inl b) = absurd (r.unlisted a (s.rebuilt b).0)
      go (inr (inl a)) (inr (inl b)) = alike (a ∙ sym b) (λ z. let f : ◌≡◌ {A = ℕ} 16 0 = sym a ∙ z in omega arith)
      go (inr (inl a)) (inr (inr b)) = absurd (r.unlisted a (s.no_room b).0)
      go (inr (inr a)) (inl b) = room_none (s.rebuilt b).1 (r.no_room a).1
      go (inr (inr a)) (inr (inl b)) = absurd (s.unlisted b (r.no_room a).0)
      go (inr (inr a)) (inr (inr b)) = alike (a ∙ sym b) (λ z. let f : ◌≡◌ {A = ℕ} 6 0 = sym a ∙ z in omega arith)
