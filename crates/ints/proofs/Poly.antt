-- Polynomial identities over ℤ by computation: an expression's normal form is a list of (coefficient, sorted monomial), and two
-- expressions are equal where every coefficient of their difference is 0.
-- Use: `solve ρ a b tt : eval ρ a ≡ eval ρ b`, with ρ the values of `var 0`, `var 1`, ..; `eval` computes, so the goal may be the plain
-- equation.
use mathlib.Core.Path.{◌≡◌, refl, sym, ap, ◌∙◌}
use mathlib.Core.Bool.{Bool, true, false, ◌&&◌}
use mathlib.Core.List.{List, [], ◌∷◌}
use Prim.Native.Nat.{ℕ, zero, suc}
use lib.Dec.{T, leb, eqb, eqb→eq}
use lib.IntN.{ℤ, pos, negsuc, neg_ℤ, ◌+ℤ◌, ◌-ℤ◌, ◌*ℤ◌, +ℤ_idl, +ℤ_idr, +ℤ_assoc, +ℤ_comm, zero-*ℤ, *ℤ-zero}
use Rattle.ints.proofs.Laws.{+ℤ-left-comm, +ℤ-*ℤ, *ℤ-+ℤ, neg-one-*ℤ, *ℤ-assoc, one-*ℤ, *ℤ-one', *ℤ-left-comm, *ℤ-swap, eq_of_sub}

infixl 6 ◌⊕◌ ◌⊖◌
infixl 7 ◌⊗◌
pub data Exp : Type 0 where
  var : ℕ → Exp
  con : ℤ → Exp
  ◌⊕◌ ◌⊖◌ ◌⊗◌ : Exp → Exp → Exp
  neg : Exp → Exp

abbrev pub value : List ℤ → ℕ → ℤ
value [] n = pos 0
value (x ∷ ρ) zero = x
value (x ∷ ρ) (suc n) = value ρ n

abbrev pub eval : List ℤ → Exp → ℤ
eval ρ (var i) = value ρ i
eval ρ (con c) = c
eval ρ (a ⊕ b) = eval ρ a +ℤ eval ρ b
eval ρ (a ⊖ b) = eval ρ a -ℤ eval ρ b
eval ρ (a ⊗ b) = eval ρ a *ℤ eval ρ b
eval ρ (neg a) = neg_ℤ (eval ρ a)

-- a coefficient and the variables of its monomial, in order
pub data Poly : Type 0 where
  none : Poly
  term : ℤ → List ℕ → Poly → Poly

abbrev pub pick {ℓ} : {A : Type ℓ} → Bool → A → A → A
pick true a b = a
pick false a b = b

-- the normal form
abbrev pub insert : ℕ → List ℕ → List ℕ
insert i [] = i ∷ []
insert i (j ∷ m) = let r = insert i m in pick (leb i j) (i ∷ (j ∷ m)) (j ∷ r)

abbrev pub times : List ℕ → List ℕ → List ℕ
times [] n = n
times (i ∷ m) n = insert i (times m n)

abbrev pub same : List ℕ → List ℕ → Bool
same [] [] = true
same [] (j ∷ n) = false
same (i ∷ m) [] = false
same (i ∷ m) (j ∷ n) = eqb i j && same m n

abbrev pub plus : ℤ → List ℕ → Poly → Poly
plus c m none = term c m none
plus c m (term d n p) = let r = plus c m p in pick (same m n) (term (c +ℤ d) n p) (term d n r)

abbrev pub sum : Poly → Poly → Poly
sum none q = q
sum (term c m p) q = plus c m (sum p q)

abbrev pub scale : ℤ → List ℕ → Poly → Poly
scale c m none = none
scale c m (term d n p) = term (c *ℤ d) (times m n) (scale c m p)

abbrev pub product : Poly → Poly → Poly
product none q = none
product (term c m p) q = sum (scale c m q) (product p q)

abbrev pub norm : Exp → Poly
norm (var i) = term (pos 1) (i ∷ []) none
norm (con c) = term c [] none
norm (a ⊕ b) = sum (norm a) (norm b)
norm (a ⊖ b) = sum (scale (negsuc 0) [] (norm b)) (norm a)
norm (a ⊗ b) = product (norm a) (norm b)
norm (neg a) = scale (negsuc 0) [] (norm a)

abbrev pub is_zero : ℤ → Bool
is_zero (pos n) = eqb n 0
is_zero (negsuc n) = false

abbrev pub all_zero : Poly → Bool
all_zero none = true
all_zero (term c m p) = is_zero c && all_zero p

-- it has the same value
abbrev pub mono : List ℤ → List ℕ → ℤ
mono ρ [] = pos 1
mono ρ (i ∷ []) = value ρ i
mono ρ (i ∷ (j ∷ m)) = value ρ i *ℤ mono ρ (j ∷ m)

abbrev pub poly : List ℤ → Poly → ℤ
poly ρ none = pos 0
poly ρ (term c m p) = c *ℤ mono ρ m +ℤ poly ρ p

and_l : (s t : Bool) → T (s && t) → T s
and_l true t h = tt
and_l false t h = h

and_r : (s t : Bool) → T (s && t) → T t
and_r true t h = h
and_r false t h = absurd h

same_eq : (m n : List ℕ) → T (same m n) → m ≡ n
same_eq [] [] t = refl
same_eq [] (j ∷ n) t = absurd t
same_eq (i ∷ m) [] t = absurd t
same_eq (i ∷ m) (j ∷ n) t =
    ap (λ (k : ℕ). k ∷ m) (eqb→eq i j (and_l (eqb i j) (same m n) t))
    ∙ ap (λ (l : List ℕ). j ∷ l) (same_eq m n (and_r (eqb i j) (same m n) t))

is_zero_eq : (c : ℤ) → T (is_zero c) → c ≡ pos 0
is_zero_eq (pos n) t = ap pos (eqb→eq n 0 t)
is_zero_eq (negsuc n) t = absurd t

pub both : (f : ℤ → ℤ → ℤ) {a b c d : ℤ} → a ≡ b → c ≡ d → f a c ≡ f b d
both f {a} {b} {c} {d} e h = ap (λ (x : ℤ). f x c) e ∙ ap (λ (x : ℤ). f b x) h

module _ (ρ : List ℤ) where
  cons_is : (i : ℕ) (m : List ℕ) → mono ρ (i ∷ m) ≡ value ρ i *ℤ mono ρ m
  cons_is i [] = sym (*ℤ-one' (value ρ i))
  cons_is i (j ∷ m) = refl

  insert_is : (i : ℕ) (m : List ℕ) → mono ρ (insert i m) ≡ value ρ i *ℤ mono ρ m
  insert_is i [] = cons_is i []
  insert_is i (j ∷ m) = go (leb i j) (insert_is i m)
    where
      go : (t : Bool) → mono ρ (insert i m) ≡ value ρ i *ℤ mono ρ m
          → mono ρ (pick t (i ∷ (j ∷ m)) (j ∷ insert i m)) ≡ value ρ i *ℤ mono ρ (j ∷ m)
      go true h = refl
      go false h =
          cons_is j (insert i m) ∙ ap (λ (x : ℤ). value ρ j *ℤ x) h ∙ *ℤ-left-comm (value ρ j) (value ρ i) (mono ρ m)
          ∙ ap (λ (x : ℤ). value ρ i *ℤ x) (sym (cons_is j m))

  times-is : (m n : List ℕ) → mono ρ (times m n) ≡ mono ρ m *ℤ mono ρ n
  times-is [] n = sym (one-*ℤ (mono ρ n))
  times-is (i ∷ m) n =
      insert_is i (times m n) ∙ ap (λ (x : ℤ). value ρ i *ℤ x) (times-is m n) ∙ sym (*ℤ-assoc (value ρ i) (mono ρ m) (mono ρ n))
      ∙ ap (λ (x : ℤ). x *ℤ mono ρ n) (sym (cons_is i m))

  plus_is : (c : ℤ) (m : List ℕ) (p : Poly) → poly ρ (plus c m p) ≡ c *ℤ mono ρ m +ℤ poly ρ p
  plus_is c m none = refl
  plus_is c m (term d n p) = go (same m n) (same_eq m n) (plus_is c m p)
    where
      go : (t : Bool) → (T t → m ≡ n) → poly ρ (plus c m p) ≡ c *ℤ mono ρ m +ℤ poly ρ p
          → poly ρ (pick t (term (c +ℤ d) n p) (term d n (plus c m p))) ≡ c *ℤ mono ρ m +ℤ (d *ℤ mono ρ n +ℤ poly ρ p)
      go true e h =
          ap (λ (x : ℤ). x +ℤ poly ρ p) (+ℤ-*ℤ c d (mono ρ n)) ∙ +ℤ_assoc (c *ℤ mono ρ n) (d *ℤ mono ρ n) (poly ρ p)
          ∙ ap (λ (k : List ℕ). c *ℤ mono ρ k +ℤ (d *ℤ mono ρ n +ℤ poly ρ p)) (sym (e tt))
      go false e h = ap (λ (x : ℤ). d *ℤ mono ρ n +ℤ x) h ∙ +ℤ-left-comm (d *ℤ mono ρ n) (c *ℤ mono ρ m) (poly ρ p)

  sum_is : (p q : Poly) → poly ρ (sum p q) ≡ poly ρ p +ℤ poly ρ q
  sum_is none q = sym (+ℤ_idl (poly ρ q))
  sum_is (term c m p) q =
      plus_is c m (sum p q) ∙ ap (λ (x : ℤ). c *ℤ mono ρ m +ℤ x) (sum_is p q) ∙ sym (+ℤ_assoc (c *ℤ mono ρ m) (poly ρ p) (poly ρ q))

  scale-is : (c : ℤ) (m : List ℕ) (p : Poly) → poly ρ (scale c m p) ≡ (c *ℤ mono ρ m) *ℤ poly ρ p
  scale-is c m none = sym (*ℤ-zero (c *ℤ mono ρ m))
  scale-is c m (term d n p) =
      ap (λ (x : ℤ). (c *ℤ d) *ℤ x +ℤ poly ρ (scale c m p)) (times-is m n)
      ∙ ap (λ (x : ℤ). x +ℤ poly ρ (scale c m p)) (*ℤ-swap c d (mono ρ m) (mono ρ n))
      ∙ ap (λ (x : ℤ). (c *ℤ mono ρ m) *ℤ (d *ℤ mono ρ n) +ℤ x) (scale-is c m p)
      ∙ sym (*ℤ-+ℤ (c *ℤ mono ρ m) (d *ℤ mono ρ n) (poly ρ p))

  product_is : (p q : Poly) → poly ρ (product p q) ≡ poly ρ p *ℤ poly ρ q
  product_is none q = sym (zero-*ℤ (poly ρ q))
  product_is (term c m p) q =
      sum_is (scale c m q) (product p q) ∙ ap (λ (x : ℤ). x +ℤ poly ρ (product p q)) (scale-is c m q)
      ∙ ap (λ (x : ℤ). (c *ℤ mono ρ m) *ℤ poly ρ q +ℤ x) (product_is p q) ∙ sym (+ℤ-*ℤ (c *ℤ mono ρ m) (poly ρ p) (poly ρ q))

  minus_is : (p : Poly) → poly ρ (scale (negsuc 0) [] p) ≡ neg_ℤ (poly ρ p)
  minus_is p = scale-is (negsuc 0) [] p ∙ neg-one-*ℤ (poly ρ p)

  pub norm_is : (a : Exp) → poly ρ (norm a) ≡ eval ρ a
  norm_is (var i) = +ℤ_idr (pos 1 *ℤ value ρ i) ∙ one-*ℤ (value ρ i)
  norm_is (con c) = +ℤ_idr (c *ℤ pos 1) ∙ *ℤ-one' c
  norm_is (a ⊕ b) = sum_is (norm a) (norm b) ∙ both ◌+ℤ◌ (norm_is a) (norm_is b)
  norm_is (a ⊖ b) =
      sum_is (scale (negsuc 0) [] (norm b)) (norm a) ∙ both ◌+ℤ◌ (minus_is (norm b) ∙ ap neg_ℤ (norm_is b)) (norm_is a)
      ∙ +ℤ_comm (neg_ℤ (eval ρ b)) (eval ρ a)
  norm_is (a ⊗ b) = product_is (norm a) (norm b) ∙ both ◌*ℤ◌ (norm_is a) (norm_is b)
  norm_is (neg a) = minus_is (norm a) ∙ ap neg_ℤ (norm_is a)

  all_zero_is : (p : Poly) → T (all_zero p) → poly ρ p ≡ pos 0
  all_zero_is none t = refl
  all_zero_is (term c m p) t =
      both (λ (x y : ℤ). x *ℤ mono ρ m +ℤ y) (is_zero_eq c (and_l (is_zero c) (all_zero p) t)) (all_zero_is p (and_r (is_zero c) (all_zero p) t))
      ∙ ap (λ (x : ℤ). x +ℤ pos 0) (zero-*ℤ (mono ρ m))

  pub solve : (a b : Exp) → T (all_zero (norm (a ⊖ b))) → eval ρ a ≡ eval ρ b
  solve a b t = eq_of_sub (eval ρ a) (eval ρ b) (sym (norm_is (a ⊖ b)) ∙ all_zero_is (norm (a ⊖ b)) t)
