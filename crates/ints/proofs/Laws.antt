-- The ring laws of ℤ that lib.IntN lacks: distributivity, associativity of the product, negation. By induction along successor and
-- predecessor.
use mathlib.Core.Path.{◌≡◌, sym, ap, ◌∙◌}
use Prim.Native.Nat.{ℕ, zero, suc}
use lib.IntN.{ℤ, pos, negsuc, suc_ℤ, pred_ℤ, neg_ℤ, one, nat_abs, ◌+ℤ◌, ◌-ℤ◌, ◌*ℤ◌}
use lib.IntN.{+ℤ_idl, +ℤ_idr, +ℤ_assoc, +ℤ_comm, +ℤ_invl, +ℤ_invr, neg_ℤ-neg_ℤ, neg_ℤ-+ℤ, +ℤ-neg_ℤ_cancel}
use lib.IntN.{suc_ℤ-+ℤ, pred_ℤ-+ℤ, zero-*ℤ, *ℤ-one, *ℤ_comm, suc_ℤ-*ℤ, pred_ℤ-*ℤ}

-- a property that successor and predecessor keep, and 0 has
pub by-steps : (P : ℤ → Type 0) → P (pos 0) → ((z : ℤ) → P z → P (suc_ℤ z)) → ((z : ℤ) → P z → P (pred_ℤ z)) → (z : ℤ) → P z
by-steps P b s p (pos zero) = b
by-steps P b s p (pos (suc n)) = s (pos n) (by-steps P b s p (pos n))
by-steps P b s p (negsuc zero) = p (pos 0) b
by-steps P b s p (negsuc (suc n)) = p (negsuc n) (by-steps P b s p (negsuc n))

pub +ℤ-left-comm : (a b c : ℤ) → a +ℤ (b +ℤ c) ≡ b +ℤ (a +ℤ c)
+ℤ-left-comm a b c = sym (+ℤ_assoc a b c) ∙ ap (λ (x : ℤ). x +ℤ c) (+ℤ_comm a b) ∙ +ℤ_assoc b a c

pub +ℤ-right-comm : (a b c : ℤ) → a +ℤ b +ℤ c ≡ a +ℤ c +ℤ b
+ℤ-right-comm a b c = +ℤ_assoc a b c ∙ ap (λ (x : ℤ). a +ℤ x) (+ℤ_comm b c) ∙ sym (+ℤ_assoc a c b)

pub +ℤ-swap : (a b c d : ℤ) → (a +ℤ b) +ℤ (c +ℤ d) ≡ (a +ℤ c) +ℤ (b +ℤ d)
+ℤ-swap a b c d = +ℤ_assoc a b (c +ℤ d) ∙ ap (λ (x : ℤ). a +ℤ x) (+ℤ-left-comm b c d) ∙ sym (+ℤ_assoc a c (b +ℤ d))

pub one-*ℤ : (a : ℤ) → pos 1 *ℤ a ≡ a
unfolding one
one-*ℤ a = *ℤ_comm (pos 1) a ∙ *ℤ-one a

pub *ℤ-one' : (a : ℤ) → a *ℤ pos 1 ≡ a
unfolding one
*ℤ-one' a = *ℤ-one a

-- distributivity
pub +ℤ-*ℤ : (a b c : ℤ) → (a +ℤ b) *ℤ c ≡ a *ℤ c +ℤ b *ℤ c
+ℤ-*ℤ a b c = by-steps (λ (z : ℤ). (z +ℤ b) *ℤ c ≡ z *ℤ c +ℤ b *ℤ c) base up down a
  where
    base : (pos 0 +ℤ b) *ℤ c ≡ pos 0 *ℤ c +ℤ b *ℤ c
    base = ap (λ (x : ℤ). x *ℤ c) (+ℤ_idl b) ∙ sym (ap (λ (x : ℤ). x +ℤ b *ℤ c) (zero-*ℤ c) ∙ +ℤ_idl (b *ℤ c))

    up : (z : ℤ) → (z +ℤ b) *ℤ c ≡ z *ℤ c +ℤ b *ℤ c → (suc_ℤ z +ℤ b) *ℤ c ≡ suc_ℤ z *ℤ c +ℤ b *ℤ c
    up z h =
        ap (λ (x : ℤ). x *ℤ c) (suc_ℤ-+ℤ z b) ∙ suc_ℤ-*ℤ (z +ℤ b) c ∙ ap (λ (x : ℤ). x +ℤ c) h
        ∙ +ℤ-right-comm (z *ℤ c) (b *ℤ c) c ∙ ap (λ (x : ℤ). x +ℤ b *ℤ c) (sym (suc_ℤ-*ℤ z c))

    down : (z : ℤ) → (z +ℤ b) *ℤ c ≡ z *ℤ c +ℤ b *ℤ c → (pred_ℤ z +ℤ b) *ℤ c ≡ pred_ℤ z *ℤ c +ℤ b *ℤ c
    down z h =
        ap (λ (x : ℤ). x *ℤ c) (pred_ℤ-+ℤ z b) ∙ pred_ℤ-*ℤ (z +ℤ b) c ∙ ap (λ (x : ℤ). x -ℤ c) h
        ∙ +ℤ-right-comm (z *ℤ c) (b *ℤ c) (neg_ℤ c) ∙ ap (λ (x : ℤ). x +ℤ b *ℤ c) (sym (pred_ℤ-*ℤ z c))

pub *ℤ-+ℤ : (a b c : ℤ) → a *ℤ (b +ℤ c) ≡ a *ℤ b +ℤ a *ℤ c
*ℤ-+ℤ a b c = *ℤ_comm a (b +ℤ c) ∙ +ℤ-*ℤ b c a ∙ ap (λ (x : ℤ). x +ℤ c *ℤ a) (*ℤ_comm b a) ∙ ap (λ (x : ℤ). a *ℤ b +ℤ x) (*ℤ_comm c a)

-- negation
pub neg_unique : (a b : ℤ) → a +ℤ b ≡ pos 0 → a ≡ neg_ℤ b
neg_unique a b h =
    sym (+ℤ_idr a) ∙ ap (λ (x : ℤ). a +ℤ x) (sym (+ℤ_invr b)) ∙ sym (+ℤ_assoc a b (neg_ℤ b))
    ∙ ap (λ (x : ℤ). x +ℤ neg_ℤ b) h ∙ +ℤ_idl (neg_ℤ b)

pub neg-*ℤ : (a b : ℤ) → neg_ℤ a *ℤ b ≡ neg_ℤ (a *ℤ b)
neg-*ℤ a b =
    neg_unique (neg_ℤ a *ℤ b) (a *ℤ b) (sym (+ℤ-*ℤ (neg_ℤ a) a b) ∙ ap (λ (x : ℤ). x *ℤ b) (+ℤ_invl a) ∙ zero-*ℤ b)

pub neg-one-*ℤ : (a : ℤ) → negsuc 0 *ℤ a ≡ neg_ℤ a
neg-one-*ℤ a = neg-*ℤ (pos 1) a ∙ ap neg_ℤ (one-*ℤ a)

pub neg-sub : (a b : ℤ) → neg_ℤ (a -ℤ b) ≡ b -ℤ a
neg-sub a b = neg_ℤ-+ℤ a (neg_ℤ b) ∙ ap (λ (x : ℤ). neg_ℤ a +ℤ x) (neg_ℤ-neg_ℤ b) ∙ +ℤ_comm (neg_ℤ a) b

pub -ℤ-*ℤ : (a b c : ℤ) → (a -ℤ b) *ℤ c ≡ a *ℤ c -ℤ b *ℤ c
-ℤ-*ℤ a b c = +ℤ-*ℤ a (neg_ℤ b) c ∙ ap (λ (x : ℤ). a *ℤ c +ℤ x) (neg-*ℤ b c)

pub *ℤ-assoc : (a b c : ℤ) → (a *ℤ b) *ℤ c ≡ a *ℤ (b *ℤ c)
*ℤ-assoc a b c = by-steps (λ (z : ℤ). (z *ℤ b) *ℤ c ≡ z *ℤ (b *ℤ c)) base up down a
  where
    base : (pos 0 *ℤ b) *ℤ c ≡ pos 0 *ℤ (b *ℤ c)
    base = ap (λ (x : ℤ). x *ℤ c) (zero-*ℤ b) ∙ zero-*ℤ c ∙ sym (zero-*ℤ (b *ℤ c))

    up : (z : ℤ) → (z *ℤ b) *ℤ c ≡ z *ℤ (b *ℤ c) → (suc_ℤ z *ℤ b) *ℤ c ≡ suc_ℤ z *ℤ (b *ℤ c)
    up z h =
        ap (λ (x : ℤ). x *ℤ c) (suc_ℤ-*ℤ z b) ∙ +ℤ-*ℤ (z *ℤ b) b c ∙ ap (λ (x : ℤ). x +ℤ b *ℤ c) h ∙ sym (suc_ℤ-*ℤ z (b *ℤ c))

    down : (z : ℤ) → (z *ℤ b) *ℤ c ≡ z *ℤ (b *ℤ c) → (pred_ℤ z *ℤ b) *ℤ c ≡ pred_ℤ z *ℤ (b *ℤ c)
    down z h =
        ap (λ (x : ℤ). x *ℤ c) (pred_ℤ-*ℤ z b) ∙ -ℤ-*ℤ (z *ℤ b) b c ∙ ap (λ (x : ℤ). x -ℤ b *ℤ c) h ∙ sym (pred_ℤ-*ℤ z (b *ℤ c))

pub *ℤ-left-comm : (a b c : ℤ) → a *ℤ (b *ℤ c) ≡ b *ℤ (a *ℤ c)
*ℤ-left-comm a b c = sym (*ℤ-assoc a b c) ∙ ap (λ (x : ℤ). x *ℤ c) (*ℤ_comm a b) ∙ *ℤ-assoc b a c

pub *ℤ-swap : (a b c d : ℤ) → (a *ℤ b) *ℤ (c *ℤ d) ≡ (a *ℤ c) *ℤ (b *ℤ d)
*ℤ-swap a b c d = *ℤ-assoc a b (c *ℤ d) ∙ ap (λ (x : ℤ). a *ℤ x) (*ℤ-left-comm b c d) ∙ sym (*ℤ-assoc a c (b *ℤ d))

-- equal as soon as the difference is 0
pub eq_of_sub : (a b : ℤ) → a -ℤ b ≡ pos 0 → a ≡ b
eq_of_sub a b h = neg_unique a (neg_ℤ b) h ∙ neg_ℤ-neg_ℤ b

pub +ℤ-cancel : (a b c : ℤ) → a +ℤ c ≡ b +ℤ c → a ≡ b
+ℤ-cancel a b c h = sym (+ℤ-neg_ℤ_cancel a c) ∙ ap (λ (x : ℤ). x -ℤ c) h ∙ +ℤ-neg_ℤ_cancel b c

pub pos_inj : {m n : ℕ} → pos m ≡ pos n → m ≡ n
pos_inj e = ap nat_abs e

-- a product grows by one factor at a time
pub *ℤ-suc : (a : ℤ) (n : ℕ) → a *ℤ pos (suc n) ≡ a *ℤ pos n +ℤ a
*ℤ-suc a n = *ℤ_comm a (pos (suc n)) ∙ suc_ℤ-*ℤ (pos n) a ∙ ap (λ (x : ℤ). x +ℤ a) (*ℤ_comm (pos n) a)
