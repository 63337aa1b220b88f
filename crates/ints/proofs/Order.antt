-- Orders on ℤ for omega: an integer is a difference of two naturals, `Is z p n` says z = p - n, and an order on integers is one on
-- naturals.
-- Use: `le_of ρ a b (omega (arith, le_to ρ c d h))` proves `eval ρ a ≤ℤ eval ρ b` from `h : eval ρ c ≤ℤ eval ρ d`. Each side goes through
-- Poly's normal form, and the unknowns are `up m` and `dn m` of its monomials m, so a product of variables is one unknown.
use mathlib.Core.Path.{◌≡◌, refl, sym, ap, ◌∙◌, subst}
use mathlib.Core.Bool.{Bool, true, false, not}
use mathlib.Core.List.{List, [], ◌∷◌}
use Prim.Native.Nat.{ℕ, zero, suc, ◌+◌, ◌*◌, ◌≤◌, ◌<◌}
use native.Mathlib.Nat.{mul-suc, mul-add, lt_of_mul-lt-mul_left, le_of_mul-le-mul_left}
use native.Mathlib.Omega.{arith}
use lib.Dec.{T, leb, ltb, leb→le, le→leb, ltb→lt, lt→ltb}
use lib.IntN.{ℤ, pos, negsuc, neg_ℤ, nat_abs, ◌+ℤ◌, ◌-ℤ◌, ◌*ℤ◌, +ℤ_idr, +ℤ_invl}
use lib.Signed.{lt_z, le_z, non_neg, ◌≤ℤ◌, ◌<ℤ◌, le_z_yes, lt_z_yes, pos-nat_abs, yes_non_neg}
use borrow.Author.Tests.{leb-true, leb-false, le-leb, lt-ltb, le-ltb}
use Rattle.ints.proofs.Laws.{+ℤ-swap, +ℤ-cancel, *ℤ-+ℤ, neg-*ℤ, pos_inj}
use Rattle.ints.proofs.Poly.{Exp, var, con, ◌⊕◌, ◌⊖◌, neg, eval, Poly, none, term, mono, poly, norm, norm_is, solve, both}

-- z = p - n
pub record Is (z : ℤ) (p n : ℕ) : Type 0 where
  pub is : z +ℤ pos n ≡ pos p

abbrev pub up : ℤ → ℕ
up (pos n) = n
up (negsuc n) = 0

abbrev pub dn : ℤ → ℕ
dn (pos n) = 0
dn (negsuc n) = suc n

pub is_pos : (n : ℕ) → Is (pos n) n 0
is_pos n = record { is = +ℤ_idr (pos n) }

pub is_negsuc : (n : ℕ) → Is (negsuc n) 0 (suc n)
is_negsuc n = record { is = +ℤ_invl (pos (suc n)) }

pub is_self : (z : ℤ) → Is z (up z) (dn z)
is_self (pos n) = is_pos n
is_self (negsuc n) = is_negsuc n

pub is-neg : {z : ℤ} {p n : ℕ} → Is z p n → Is (neg_ℤ z) n p
is-neg {z} {p} {n} h =
    record { is = ap (λ (x : ℤ). neg_ℤ z +ℤ x) (sym h.is) ∙ solve (z ∷ pos n ∷ []) (neg (var 0) ⊕ (var 0 ⊕ var 1)) (var 1) tt }

module _ {z y : ℤ} {p n q m : ℕ} (h : Is z p n) (k : Is y q m) where
  pub is-add : Is (z +ℤ y) (p + q) (n + m)
  is-add = record { is = +ℤ-swap z y (pos n) (pos m) ∙ both ◌+ℤ◌ h.is k.is }

  pub is-sub : Is (z -ℤ y) (p + m) (n + q)
  is-sub =
      record {
        is =
            ap (λ (x : ℤ). z -ℤ y +ℤ (pos n +ℤ x)) (sym k.is)
            ∙ solve (z ∷ y ∷ pos n ∷ pos m ∷ []) (var 0 ⊖ var 1 ⊕ (var 2 ⊕ (var 1 ⊕ var 3))) (var 0 ⊕ var 2 ⊕ var 3) tt
            ∙ ap (λ (x : ℤ). x +ℤ pos m) h.is;
      }

pub is-times : (k : ℕ) {z : ℤ} {p n : ℕ} → Is z p n → Is (pos k *ℤ z) (k * p) (k * n)
is-times k {z} {p} {n} h = record { is = sym (*ℤ-+ℤ (pos k) z (pos n)) ∙ ap (λ (x : ℤ). pos k *ℤ x) h.is }

-- all differences of one integer agree
pub is_nat : {z : ℤ} {p n q m : ℕ} → Is z p n → Is z q m → p + m ≡ q + n
is_nat {z} {p} {n} {q} {m} h k =
    pos_inj
    (ap (λ (x : ℤ). x +ℤ pos m) (sym h.is)
    ∙ solve (z ∷ pos n ∷ pos m ∷ []) (var 0 ⊕ var 1 ⊕ var 2) (var 0 ⊕ var 2 ⊕ var 1) tt
    ∙ ap (λ (x : ℤ). x +ℤ pos n) k.is)

-- a difference, from another of the same integer
pub is_same : {z : ℤ} {p n q m : ℕ} → Is z p n → p + m ≡ q + n → Is z q m
is_same {z} {p} {n} {q} {m} h e =
    record {
      is =
          +ℤ-cancel (z +ℤ pos m) (pos q) (pos n)
          (solve (z ∷ pos n ∷ pos m ∷ []) (var 0 ⊕ var 2 ⊕ var 1) (var 0 ⊕ var 1 ⊕ var 2) tt
          ∙ ap (λ (x : ℤ). x +ℤ pos m) h.is ∙ ap pos e);
    }

-- an order of integers is one of naturals
le_up : (z y : ℤ) → T (le_z z y) → up z + dn y ≤ up y + dn z
le_up (pos a) (pos b) t = omega (arith, leb→le a b t)
le_up (pos a) (negsuc b) t = absurd t
le_up (negsuc a) (pos b) t = omega arith
le_up (negsuc a) (negsuc b) t = omega (arith, leb→le b a t)

up_le : (z y : ℤ) → up z + dn y ≤ up y + dn z → T (le_z z y)
up_le (pos a) (pos b) h = le→leb a b (omega arith)
up_le (pos a) (negsuc b) h = absurd (omega arith)
up_le (negsuc a) (pos b) h = tt
up_le (negsuc a) (negsuc b) h = le→leb b a (omega arith)

lt_up : (z y : ℤ) → T (lt_z z y) → up z + dn y < up y + dn z
lt_up (pos a) (pos b) t = omega (arith, ltb→lt a b t)
lt_up (pos a) (negsuc b) t = absurd t
lt_up (negsuc a) (pos b) t = omega arith
lt_up (negsuc a) (negsuc b) t = omega (arith, ltb→lt b a t)

up_lt : (z y : ℤ) → up z + dn y < up y + dn z → T (lt_z z y)
up_lt (pos a) (pos b) h = lt→ltb a b (omega arith)
up_lt (pos a) (negsuc b) h = absurd (omega arith)
up_lt (negsuc a) (pos b) h = tt
up_lt (negsuc a) (negsuc b) h = lt→ltb b a (omega arith)

module _ {z y : ℤ} {p n q m : ℕ} (h : Is z p n) (k : Is y q m) where
  pub is_le : p + m ≤ q + n → z ≤ℤ y
  is_le r = le_z_yes (up_le z y (omega (arith, is_nat h (is_self z), is_nat k (is_self y))))

  pub le_is : z ≤ℤ y → p + m ≤ q + n
  le_is r = omega (arith, is_nat h (is_self z), is_nat k (is_self y), le_up z y r.le)

  pub is_lt : p + m < q + n → z <ℤ y
  is_lt r = lt_z_yes (up_lt z y (omega (arith, is_nat h (is_self z), is_nat k (is_self y))))

  pub lt-is : z <ℤ y → p + m < q + n
  lt-is r = omega (arith, is_nat h (is_self z), is_nat k (is_self y), lt_up z y r.lt)

  pub is_eq : p + m ≡ q + n → z ≡ y
  is_eq r =
      +ℤ-cancel z y (pos (n + m))
      (solve (z ∷ pos n ∷ pos m ∷ []) (var 0 ⊕ (var 1 ⊕ var 2)) (var 0 ⊕ var 1 ⊕ var 2) tt ∙ ap (λ (x : ℤ). x +ℤ pos m) h.is ∙ ap pos r
      ∙ ap (λ (x : ℤ). x +ℤ pos n) (sym k.is) ∙ solve (y ∷ pos n ∷ pos m ∷ []) (var 0 ⊕ var 2 ⊕ var 1) (var 0 ⊕ (var 1 ⊕ var 2)) tt)

  pub eq_is : z ≡ y → p + m ≡ q + n
  eq_is e = is_nat h (subst (λ (x : ℤ). Is x q m) (sym e) k)

-- the same, read off the expressions
abbrev pub hi : List ℤ → Poly → ℕ
hi ρ none = 0
hi ρ (term (pos c) m p) = c * up (mono ρ m) + hi ρ p
hi ρ (term (negsuc c) m p) = suc c * dn (mono ρ m) + hi ρ p

abbrev pub lo : List ℤ → Poly → ℕ
lo ρ none = 0
lo ρ (term (pos c) m p) = c * dn (mono ρ m) + lo ρ p
lo ρ (term (negsuc c) m p) = suc c * up (mono ρ m) + lo ρ p

is_poly : (ρ : List ℤ) (p : Poly) → Is (poly ρ p) (hi ρ p) (lo ρ p)
is_poly ρ none = is_pos 0
is_poly ρ (term (pos c) m p) = is-add (is-times c (is_self (mono ρ m))) (is_poly ρ p)
is_poly ρ (term (negsuc c) m p) =
    is-add
    (subst (λ (x : ℤ). Is x (suc c * dn (mono ρ m)) (suc c * up (mono ρ m))) (sym (neg-*ℤ (pos (suc c)) (mono ρ m)))
    (is-neg (is-times (suc c) (is_self (mono ρ m)))))
    (is_poly ρ p)

module _ (ρ : List ℤ) (a b : Exp) where
  is_diff : Is (eval ρ b -ℤ eval ρ a) (hi ρ (norm (b ⊖ a))) (lo ρ (norm (b ⊖ a)))
  is_diff = subst (λ (x : ℤ). Is x (hi ρ (norm (b ⊖ a))) (lo ρ (norm (b ⊖ a)))) (norm_is ρ (b ⊖ a)) (is_poly ρ (norm (b ⊖ a)))

  -- both sides, each as a difference of two naturals, against their own difference
  agree : hi ρ (norm (b ⊖ a)) + (dn (eval ρ b) + up (eval ρ a)) ≡ up (eval ρ b) + dn (eval ρ a) + lo ρ (norm (b ⊖ a))
  agree = is_nat is_diff (is-sub (is_self (eval ρ b)) (is_self (eval ρ a)))

  pub le_to : eval ρ a ≤ℤ eval ρ b → lo ρ (norm (b ⊖ a)) ≤ hi ρ (norm (b ⊖ a))
  le_to h = omega (arith, agree, le_is (is_self (eval ρ a)) (is_self (eval ρ b)) h)

  pub le_of : lo ρ (norm (b ⊖ a)) ≤ hi ρ (norm (b ⊖ a)) → eval ρ a ≤ℤ eval ρ b
  le_of h = is_le (is_self (eval ρ a)) (is_self (eval ρ b)) (omega (arith, agree))

  pub lt_to : eval ρ a <ℤ eval ρ b → lo ρ (norm (b ⊖ a)) < hi ρ (norm (b ⊖ a))
  lt_to h = omega (arith, agree, lt-is (is_self (eval ρ a)) (is_self (eval ρ b)) h)

  pub lt_of : lo ρ (norm (b ⊖ a)) < hi ρ (norm (b ⊖ a)) → eval ρ a <ℤ eval ρ b
  lt_of h = is_lt (is_self (eval ρ a)) (is_self (eval ρ b)) (omega (arith, agree))

  pub eq_to : eval ρ a ≡ eval ρ b → lo ρ (norm (b ⊖ a)) ≡ hi ρ (norm (b ⊖ a))
  eq_to h = omega (arith, agree, eq_is (is_self (eval ρ a)) (is_self (eval ρ b)) h)

  pub eq_of : lo ρ (norm (b ⊖ a)) ≡ hi ρ (norm (b ⊖ a)) → eval ρ a ≡ eval ρ b
  eq_of h = is_eq (is_self (eval ρ a)) (is_self (eval ρ b)) (omega (arith, agree))

-- tests, and the orders that they decide
yes : (t : Bool) → t ≡ true → T t
yes t e = subst T (sym e) tt

true_of : (t : Bool) → T t → t ≡ true
true_of true h = refl
true_of false h = absurd h

-- of two integers, one test passes where the other fails
flip : (a b : ℕ) → leb a b ≡ not (ltb b a)
flip a b = go (leb a b) refl
  where
    go : (t : Bool) → leb a b ≡ t → t ≡ not (ltb b a)
    go true e = ap not (sym (le-ltb b a (leb-true a b e)))
    go false e = ap not (sym (lt-ltb b a (leb-false a b e)))

pub not-not : (t : Bool) → not (not t) ≡ t
not-not true = refl
not-not false = refl

opposite : (a b : ℤ) → le_z b a ≡ not (lt_z a b)
opposite (pos a) (pos b) = flip b a
opposite (pos a) (negsuc b) = refl
opposite (negsuc a) (pos b) = refl
opposite (negsuc a) (negsuc b) = flip a b

pub lt_z_true : (a b : ℤ) → lt_z a b ≡ true → a <ℤ b
lt_z_true a b e = lt_z_yes (yes (lt_z a b) e)

pub le_z_true : (a b : ℤ) → le_z a b ≡ true → a ≤ℤ b
le_z_true a b e = le_z_yes (yes (le_z a b) e)

pub lt_z_false : (a b : ℤ) → lt_z a b ≡ false → b ≤ℤ a
lt_z_false a b e = le_z_true b a (opposite a b ∙ ap not e)

pub le_z_false : (a b : ℤ) → le_z a b ≡ false → b <ℤ a
le_z_false a b e = lt_z_true b a (sym (not-not (lt_z b a)) ∙ ap not (sym (opposite b a) ∙ e))

pub lt-lt_z : (a b : ℤ) → a <ℤ b → lt_z a b ≡ true
lt-lt_z a b h = true_of (lt_z a b) h.lt

pub le-le_z : (a b : ℤ) → a ≤ℤ b → le_z a b ≡ true
le-le_z a b h = true_of (le_z a b) h.le

pub lt-le_z : (a b : ℤ) → b <ℤ a → le_z a b ≡ false
lt-le_z a b h = opposite b a ∙ ap not (lt-lt_z b a h)

-- a sign is a comparison with 0
pub non_neg_is : (z : ℤ) → non_neg z ≡ le_z (pos 0) z
non_neg_is (pos n) = sym (le-leb 0 n (omega arith))
non_neg_is (negsuc n) = refl

pub non_neg_true : (z : ℤ) → non_neg z ≡ true → pos 0 ≤ℤ z
non_neg_true z e = le_z_true (pos 0) z (sym (non_neg_is z) ∙ e)

pub non_neg_false : (z : ℤ) → non_neg z ≡ false → z <ℤ pos 0
non_neg_false z e = le_z_false (pos 0) z (sym (non_neg_is z) ∙ e)

pub le_non_neg : (z : ℤ) → pos 0 ≤ℤ z → non_neg z ≡ true
le_non_neg z h = non_neg_is z ∙ le-le_z (pos 0) z h

pub lt_non_neg : (z : ℤ) → z <ℤ pos 0 → non_neg z ≡ false
lt_non_neg z h = non_neg_is z ∙ lt-le_z (pos 0) z h

pub pos-le : {m n : ℕ} → m ≤ n → pos m ≤ℤ pos n
pos-le {m} {n} h = le_z_yes (le→leb m n h)

pub pos-lt : {m n : ℕ} → m < n → pos m <ℤ pos n
pos-lt {m} {n} h = lt_z_yes (lt→ltb m n h)

-- a test of two sums with one term in common
pub le_z_shifted : (a b c : ℤ) → le_z (a +ℤ c) (b +ℤ c) ≡ le_z a b
le_z_shifted a b c = go (le_z a b) refl
  where
    ρ : List ℤ
    ρ = a ∷ b ∷ c ∷ []

    go : (t : Bool) → le_z a b ≡ t → le_z (a +ℤ c) (b +ℤ c) ≡ t
    go true e =
        le-le_z (a +ℤ c) (b +ℤ c)
        (le_of ρ (var 0 ⊕ var 2) (var 1 ⊕ var 2) (omega (arith, le_to ρ (var 0) (var 1) (le_z_true a b e))))
    go false e =
        lt-le_z (a +ℤ c) (b +ℤ c)
        (lt_of ρ (var 1 ⊕ var 2) (var 0 ⊕ var 2) (omega (arith, lt_to ρ (var 1) (var 0) (le_z_false a b e))))

-- up to f - 1 is before f
pub le_z-before : (i f : ℤ) → le_z i (f -ℤ pos 1) ≡ not (le_z f i)
le_z-before i f = go (le_z f i) refl
  where
    ρ : List ℤ
    ρ = i ∷ f ∷ []

    go : (t : Bool) → le_z f i ≡ t → le_z i (f -ℤ pos 1) ≡ not t
    go true e =
        lt-le_z i (f -ℤ pos 1) (lt_of ρ (var 1 ⊖ con (pos 1)) (var 0) (omega (arith, le_to ρ (var 1) (var 0) (le_z_true f i e))))
    go false e =
        le-le_z i (f -ℤ pos 1) (le_of ρ (var 0) (var 1 ⊖ con (pos 1)) (omega (arith, lt_to ρ (var 0) (var 1) (le_z_false f i e))))

-- the orders' laws
module _ {a b c : ℤ} where
  pub ≤ℤ-trans : a ≤ℤ b → b ≤ℤ c → a ≤ℤ c
  ≤ℤ-trans h k =
      let ρ : List ℤ = a ∷ b ∷ c ∷ [] in
      le_of ρ (var 0) (var 2) (omega (arith, le_to ρ (var 0) (var 1) h, le_to ρ (var 1) (var 2) k))

module _ {a b : ℤ} where
  pub <ℤ→≤ℤ : a <ℤ b → a ≤ℤ b
  <ℤ→≤ℤ h = le_of (a ∷ b ∷ []) (var 0) (var 1) (omega (arith, lt_to (a ∷ b ∷ []) (var 0) (var 1) h))

  pub sub_nonneg : a ≤ℤ b → pos 0 ≤ℤ (b -ℤ a)
  sub_nonneg h = le_of (a ∷ b ∷ []) (con (pos 0)) (var 1 ⊖ var 0) (omega (arith, le_to (a ∷ b ∷ []) (var 0) (var 1) h))

pub +ℤ-mono : {a b c d : ℤ} → a ≤ℤ b → c ≤ℤ d → (a +ℤ c) ≤ℤ (b +ℤ d)
+ℤ-mono {a} {b} {c} {d} h k =
    let ρ : List ℤ = a ∷ b ∷ c ∷ d ∷ [] in
    le_of ρ (var 0 ⊕ var 2) (var 1 ⊕ var 3) (omega (arith, le_to ρ (var 0) (var 1) h, le_to ρ (var 2) (var 3) k))

-- a non-negative integer is a natural, and a positive one a successor
pub natural : {z : ℤ} → pos 0 ≤ℤ z → z ≡ pos (nat_abs z)
natural {z} h = sym (pos-nat_abs z (yes_non_neg h))

pub successor : {z : ℤ} → pos 0 <ℤ z → (n : ℕ) × (z ≡ pos (suc n))
successor {z = pos zero} h = absurd h.lt
successor {z = pos (suc n)} h = (n, refl)
successor {z = negsuc n} h = absurd h.lt

pub mul_nonneg : {a b : ℤ} → pos 0 ≤ℤ a → pos 0 ≤ℤ b → pos 0 ≤ℤ (a *ℤ b)
mul_nonneg {a} {b} h k =
    subst (λ (x : ℤ). pos 0 ≤ℤ x) (sym (both ◌*ℤ◌ (natural h) (natural k)))
    (pos-le {m = 0} {n = nat_abs a * nat_abs b} (omega arith))

pub mul-pos : {a b : ℤ} → pos 0 <ℤ a → pos 0 <ℤ b → pos 0 <ℤ (a *ℤ b)
mul-pos {a} {b} h k =
    let (m, e) = successor h in
    let (n, f) = successor k in
    subst (λ (x : ℤ). pos 0 <ℤ x) (sym (both ◌*ℤ◌ e f)) (lt_z_yes (lt→ltb 0 (suc m * suc n) (omega (arith, mul-suc (suc m) n))))

-- neither is above the other
pub antisymmetric : {a b : ℤ} → a ≤ℤ b → b ≤ℤ a → a ≡ b
antisymmetric {a} {b} h k =
    is_eq (is_self a) (is_self b) (omega (arith, le_is (is_self a) (is_self b) h, le_is (is_self b) (is_self a) k))

-- a positive factor may be left out
module _ (k : ℕ) (u w : ℤ) where
  sums : (a b : ℕ) → suc k * (a + b) ≡ suc k * a + suc k * b
  sums = mul-add (suc k)

  less : (pos (suc k) *ℤ u) <ℤ (pos (suc k) *ℤ w) → u <ℤ w
  less l =
      let n = lt-is (is-times (suc k) (is_self u)) (is-times (suc k) (is_self w)) l in
      is_lt (is_self u) (is_self w) (lt_of_mul-lt-mul_left (suc k) (omega (arith, n, sums (up u) (dn w), sums (up w) (dn u))))

  no_more : (pos (suc k) *ℤ u) ≤ℤ (pos (suc k) *ℤ w) → u ≤ℤ w
  no_more l =
      let n = le_is (is-times (suc k) (is_self u)) (is-times (suc k) (is_self w)) l in
      is_le (is_self u) (is_self w)
      (le_of_mul-le-mul_left {k = suc k} (omega (arith, n, sums (up u) (dn w), sums (up w) (dn u))) (omega arith))

module _ {d u w : ℤ} (h : pos 0 <ℤ d) where
  pub cancel_lt : (d *ℤ u) <ℤ (d *ℤ w) → u <ℤ w
  cancel_lt l =
      let (k, e) = successor h in
      less k u w (subst (λ (z : ℤ). (z *ℤ u) <ℤ (z *ℤ w)) e l)

  pub cancel_le : (d *ℤ u) ≤ℤ (d *ℤ w) → u ≤ℤ w
  cancel_le l =
      let (k, e) = successor h in
      no_more k u w (subst (λ (z : ℤ). (z *ℤ u) ≤ℤ (z *ℤ w)) e l)

-- a sum of three products of non-negative and positive numbers that is 0
module _ {u v w : ℤ} {d e f : ℤ} where
  pub zero_weights : pos 0 ≤ℤ u → pos 0 ≤ℤ v → pos 0 ≤ℤ w → pos 0 <ℤ d → pos 0 <ℤ e → pos 0 <ℤ f
      → u *ℤ d +ℤ v *ℤ e +ℤ w *ℤ f ≡ pos 0 → (u ≡ pos 0) × (v ≡ pos 0) × (w ≡ pos 0)
  zero_weights hu hv hw hd he hf s =
      let (i, di) = successor hd in
      let (j, ej) = successor he in
      let (k, fk) = successor hf in
      let t : pos (nat_abs u * suc i + nat_abs v * suc j + nat_abs w * suc k) ≡ pos 0 =
      sym (both ◌+ℤ◌ (both ◌+ℤ◌ (both ◌*ℤ◌ (natural hu) di) (both ◌*ℤ◌ (natural hv) ej)) (both ◌*ℤ◌ (natural hw) fk)) ∙ s in
      let n : nat_abs u * suc i + nat_abs v * suc j + nat_abs w * suc k ≡ 0 = pos_inj t in
      let a : nat_abs u ≡ 0 = omega (arith, mul-suc (nat_abs u) i) in
      let b : nat_abs v ≡ 0 = omega (arith, mul-suc (nat_abs v) j) in
      let c : nat_abs w ≡ 0 = omega (arith, mul-suc (nat_abs w) k) in
      (natural hu ∙ ap pos a, natural hv ∙ ap pos b, natural hw ∙ ap pos c)
