-- The one law of the arrays that `from_fn` makes leaf by leaf: where each call of the closure gives f of the leaf's number, the array is
-- `leaves f`.
use Rattle.std.proofs.Common.{arith, ◌≡◌, ℕ, zero, suc, ◌+◌, ◌<◌, List, length, get_or, refl, sym, ◌∙◌, ap, ext_get_or}
use denote.Param.Members.{Mut, Called}
use Rattle.std.specs.Array.{IsFromFnResult, IsFromFnResultFrom}
use Rattle.instructions.specs.Tree.{leaves}
use Rattle.instructions.proofs.Leaves.{length-each, leaf_at_lem}

-- each call of the closure, while it holds s, gives f of its number and leaves s
abbrev pub Tells : {F A : Type 0} → Mut F (ℕ × Unit {0}) A → F → (ℕ → A) → Type 0
Tells {F} {A} g s f = (p q : F) (k : ℕ) (x : A) → p ≡ s → Called g p (k, tt) x q → (x ≡ f k) × (q ≡ s)

module _ {F A : Type 0} {g : Mut F (ℕ × Unit {0}) A} {s : F} (f : ℕ → A) (d : A) where
  told_at : Tells g s f → (l : List A) (n i : ℕ) (p : F) → p ≡ s → IsFromFnResultFrom g p l i n
      → (k j : ℕ) → j ≡ i + k → k < n → get_or l j d ≡ f j
  told_at tells l zero i p e r k j at h = absurd (omega (arith, h))
  told_at tells l (suc n) i p e r zero j at h =
      let is : j ≡ i = omega (arith, at) in
      ap (λ m. get_or l m d) is ∙ r.2.1 d ∙ (tells p r.0 i r.1 e r.3).0 ∙ ap f (sym is)
  told_at tells l (suc n) i p e r (suc k) j at h =
      told_at tells l n (i + 1) r.0 (tells p r.0 i r.1 e r.3).1 r.4 k j (omega (arith, at)) (omega (arith, h))

  pub made_leaves : {l : List A} → IsFromFnResult g s l 16 → Tells g s f → l ≡ leaves f
  made_leaves {l} r tells = ext_get_or d l (leaves f) (r.long ∙ sym (length-each f 16)) same
    where
      same : (k : ℕ) → k < length l → get_or l k d ≡ get_or (leaves f) k d
      same k h =
          let below : k < 16 = omega (arith, h, r.long) in
          told_at tells l 16 0 s refl r.each k k (omega arith) below ∙ sym (leaf_at_lem f d below)
