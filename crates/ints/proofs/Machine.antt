-- Signed code by bounds: `Got w n z b` says that the w-bit word n is the integer z, within b. `Code w` is an expression over such words;
-- from it are computed the word that the machine gets, the integer that is meant and its bound, and `fine`, the test that every bound
-- is in its width's range.
-- Use: `abbrev dx c = cast w64 (x2 c) ⊟ cast w64 (x1 c)` in the proof file, with `x1 c = known (got_arg c.fits.x1 h)`,
-- `h : Within b c.args.x1`, at a parameter and `known (got_lit w64 5 tt)` at a literal. Then the need of the operation at the top
-- of an expression e is `need e tt`, and a contract `r ≡ z` is `reads_as e tt`.
use mathlib.Core.Path.{◌≡◌, refl, sym, ap, ◌∙◌, subst}
use mathlib.Core.Bool.{Bool, true, false, ◌&&◌}
use Prim.Native.Nat.{ℕ, ◌+◌, ◌*◌, ◌^◌, ◌≤◌}
use native.Mathlib.Nat.{lt_of_le_of_lt}
use lib.Dec.{T, ltb, ltb→lt}
use lib.IntN.{ℤ, pos, nat_abs, ◌+ℤ◌, ◌-ℤ◌, ◌*ℤ◌}
use lib.Signed.{non_neg, quot_z, shr_z, ◌≤ℤ◌, yes_non_neg}
use mir.Syntax.{Width}
use mir.Val.{bits, hbits, Fits, SFits, of_z, to_z}
use mir.ValLaws.{to_z-of_z, of_z-to_z, to_z_pos}
use borrow.Author.Rules.{sfits_of}
use Rattle.ints.proofs.Poly.{both}
use Rattle.ints.proofs.Order.{natural}
use Rattle.ints.proofs.Bounds.{Within, within_self, within_pos, within_mag, within_fits}
use Rattle.ints.proofs.Bounds.{within_add, within_sub, within_mul, within_quot, within_shr}

pub record Got (w : Width) (n : ℕ) (z : ℤ) (b : ℕ) : Type 0 where
  pub reads : to_z w n ≡ z
  pub word : n ≡ of_z w z
  pub bound : Within b z

pub record Made (w : Width) (x z : ℤ) (b : ℕ) : Type 0 where
  pub fits : SFits w x
  pub got : Got w (of_z w x) z b

-- words in hand
pub got_arg : {w : Width} {z : ℤ} {b : ℕ} → SFits w z → Within b z → Got w (of_z w z) z b
got_arg {w} {z} f h = record { reads = to_z-of_z w z f; word = refl; bound = h }

-- with the width's own bound, and from a bound alone
pub got_fits : {w : Width} {z : ℤ} → SFits w z → Got w (of_z w z) z (2 ^ hbits w)
got_fits f = got_arg f (within_fits f)

pub got_in : {w : Width} {z : ℤ} {b : ℕ} → Within b z → T (ltb b (2 ^ hbits w)) → Got w (of_z w z) z b
got_in {w} {z} {b} h t = got_arg (sfits_of (within_mag h (ltb→lt b (2 ^ hbits w) t))) h

pub got_word : {w : Width} {n b : ℕ} → Fits w n → Within b (to_z w n) → Got w n (to_z w n) b
got_word {w} {n} f h = record { reads = refl; word = sym (of_z-to_z w n f); bound = h }

pub got_lit : (w : Width) (n : ℕ) → T (ltb n (2 ^ bits w)) → Got w n (to_z w n) (nat_abs (to_z w n))
got_lit w n t = got_word (record { fits = ltb→lt n (2 ^ bits w) t }) (within_self (to_z w n))

pub got_nat : {w : Width} {n b : ℕ} → n ≤ b → T (ltb b (2 ^ hbits w)) → Got w n (pos n) b
got_nat {w} {n} {b} h t =
    record { reads = to_z_pos w n (lt_of_le_of_lt h (ltb→lt b (2 ^ hbits w) t)); word = refl; bound = within_pos h }

-- operations
pub made : {w : Width} {x z : ℤ} {b : ℕ} → x ≡ z → Within b z → T (ltb b (2 ^ hbits w)) → Made w x z b
made {w} {x} {z} {b} e h t =
    let f : SFits w x = subst (λ (y : ℤ). SFits w y) (sym e) (sfits_of (within_mag h (ltb→lt b (2 ^ hbits w) t))) in
    record { fits = f; got = record { reads = to_z-of_z w x f ∙ e; word = ap (of_z w) e; bound = h } }

pub made_cast : {v w : Width} {n : ℕ} {z : ℤ} {b : ℕ} → Got v n z b → T (ltb b (2 ^ hbits w)) → Made w (to_z v n) z b
made_cast g t = made g.reads g.bound t

module _ {w : Width} {m n : ℕ} {z y : ℤ} {p q : ℕ} (g : Got w m z p) (h : Got w n y q) where
  pub made_add : T (ltb (p + q) (2 ^ hbits w)) → Made w (to_z w m +ℤ to_z w n) (z +ℤ y) (p + q)
  made_add t = made (both ◌+ℤ◌ g.reads h.reads) (within_add g.bound h.bound) t

  pub made_sub : T (ltb (p + q) (2 ^ hbits w)) → Made w (to_z w m -ℤ to_z w n) (z -ℤ y) (p + q)
  made_sub t = made (both ◌-ℤ◌ g.reads h.reads) (within_sub g.bound h.bound) t

  pub made_mul : T (ltb (p * q) (2 ^ hbits w)) → Made w (to_z w m *ℤ to_z w n) (z *ℤ y) (p * q)
  made_mul t = made (both ◌*ℤ◌ g.reads h.reads) (within_mul g.bound h.bound) t

  pub made_quot : T (ltb p (2 ^ hbits w)) → Made w (quot_z (to_z w m) (to_z w n)) (quot_z z y) p
  made_quot t = made (both quot_z g.reads h.reads) (within_quot y g.bound) t

pub made_shr : {w : Width} {n : ℕ} {z : ℤ} {b : ℕ} (k : ℕ) → Got w n z b → T (ltb b (2 ^ hbits w)) → Made w (shr_z (to_z w n) k) (shr_z z k) b
made_shr k g t = made (ap (λ (x : ℤ). shr_z x k) g.reads) (within_shr k g.bound) t

-- expressions
infixl 6 ◌⊞◌ ◌⊟◌
infixl 7 ◌⊠◌
pub data Code : Width → Type 0 where
  known : {w : Width} {n : ℕ} {z : ℤ} {b : ℕ} → Got w n z b → Code w
  cast : {v : Width} (w : Width) → Code v → Code w
  ◌⊞◌ ◌⊟◌ ◌⊠◌ quot : {w : Width} → Code w → Code w → Code w
  shr : {w : Width} → Code w → ℕ → Code w

abbrev pub word_of : {w : Width} → Code w → ℕ
word_of (known {n = n} g) = n
word_of (cast {v} w a) = of_z w (to_z v (word_of a))
word_of (◌⊞◌ {w} a b) = of_z w (to_z w (word_of a) +ℤ to_z w (word_of b))
word_of (◌⊟◌ {w} a b) = of_z w (to_z w (word_of a) -ℤ to_z w (word_of b))
word_of (◌⊠◌ {w} a b) = of_z w (to_z w (word_of a) *ℤ to_z w (word_of b))
word_of (quot {w} a b) = of_z w (quot_z (to_z w (word_of a)) (to_z w (word_of b)))
word_of (shr {w} a k) = of_z w (shr_z (to_z w (word_of a)) k)

abbrev pub meant : {w : Width} → Code w → ℤ
meant (known {z = z} g) = z
meant (cast w a) = meant a
meant (a ⊞ b) = meant a +ℤ meant b
meant (a ⊟ b) = meant a -ℤ meant b
meant (a ⊠ b) = meant a *ℤ meant b
meant (quot a b) = quot_z (meant a) (meant b)
meant (shr a k) = shr_z (meant a) k

abbrev pub most : {w : Width} → Code w → ℕ
most (known {b = b} g) = b
most (cast w a) = most a
most (a ⊞ b) = most a + most b
most (a ⊟ b) = most a + most b
most (a ⊠ b) = most a * most b
most (quot a b) = most a
most (shr a k) = most a

abbrev pub fine : {w : Width} → Code w → Bool
fine (known g) = true
fine (cast w a) = ltb (most a) (2 ^ hbits w) && fine a
fine (◌⊞◌ {w} a b) = ltb (most a + most b) (2 ^ hbits w) && (fine a && fine b)
fine (◌⊟◌ {w} a b) = ltb (most a + most b) (2 ^ hbits w) && (fine a && fine b)
fine (◌⊠◌ {w} a b) = ltb (most a * most b) (2 ^ hbits w) && (fine a && fine b)
fine (quot {w} a b) = ltb (most a) (2 ^ hbits w) && (fine a && fine b)
fine (shr {w} a k) = ltb (most a) (2 ^ hbits w) && fine a

-- what the machine asks at the top
abbrev pub Asks : {w : Width} → Code w → Type 0
Asks (known g) = Unit {0}
Asks (cast {v} w a) = SFits w (to_z v (word_of a))
Asks (◌⊞◌ {w} a b) = SFits w (to_z w (word_of a) +ℤ to_z w (word_of b))
Asks (◌⊟◌ {w} a b) = SFits w (to_z w (word_of a) -ℤ to_z w (word_of b))
Asks (◌⊠◌ {w} a b) = SFits w (to_z w (word_of a) *ℤ to_z w (word_of b))
Asks (quot {w} a b) = SFits w (quot_z (to_z w (word_of a)) (to_z w (word_of b)))
Asks (shr a k) = Unit {0}

-- what a step asks, and the word that it leaves
record Done (A : Type 0) (w : Width) (n : ℕ) (z : ℤ) (b : ℕ) : Type 0 where
  ask : A
  left : Got w n z b

by_made : {w : Width} {x z : ℤ} {b : ℕ} → Made w x z b → Done (SFits w x) w (of_z w x) z b
by_made m = record { ask = m.fits; left = m.got }

one_of : (s t : Bool) → T (s && t) → T s × T t
one_of true t h = (tt, h)
one_of false t h = absurd h

all_of : (r s t : Bool) → T (r && (s && t)) → T r × T s × T t
all_of true true t h = (tt, tt, h)
all_of true false t h = absurd h
all_of false s t h = absurd h

done : {w : Width} (e : Code w) → T (fine e) → Done (Asks e) w (word_of e) (meant e) (most e)
done (known g) t = record { ask = tt; left = g }
done (cast w a) t =
    let (r, s) = one_of (ltb (most a) (2 ^ hbits w)) (fine a) t in
    by_made (made_cast (done a s).left r)
done (◌⊞◌ {w} a b) t =
    let (r, s, u) = all_of (ltb (most a + most b) (2 ^ hbits w)) (fine a) (fine b) t in
    by_made (made_add (done a s).left (done b u).left r)
done (◌⊟◌ {w} a b) t =
    let (r, s, u) = all_of (ltb (most a + most b) (2 ^ hbits w)) (fine a) (fine b) t in
    by_made (made_sub (done a s).left (done b u).left r)
done (◌⊠◌ {w} a b) t =
    let (r, s, u) = all_of (ltb (most a * most b) (2 ^ hbits w)) (fine a) (fine b) t in
    by_made (made_mul (done a s).left (done b u).left r)
done (quot {w} a b) t =
    let (r, s, u) = all_of (ltb (most a) (2 ^ hbits w)) (fine a) (fine b) t in
    by_made (made_quot (done a s).left (done b u).left r)
done (shr {w} a k) t =
    let (r, s) = one_of (ltb (most a) (2 ^ hbits w)) (fine a) t in
    record { ask = tt; left = (made_shr k (done a s).left r).got }

module _ {w : Width} (e : Code w) (t : T (fine e)) where
  pub need : Asks e
  need = (done e t).ask

  pub got_of : Got w (word_of e) (meant e) (most e)
  got_of = (done e t).left

  pub reads_as : to_z w (word_of e) ≡ meant e
  reads_as = got_of.reads

  -- cast to unsigned
  pub natural_as : pos 0 ≤ℤ meant e → pos (nat_abs (to_z w (word_of e))) ≡ meant e
  natural_as h = ap (λ (z : ℤ). pos (nat_abs z)) reads_as ∙ sym (natural h)

  pub size_of : nat_abs (to_z w (word_of e)) ≤ most e
  size_of = subst (λ (z : ℤ). nat_abs z ≤ most e) (sym reads_as) got_of.bound.within

-- to unsigned
pub need_unsigned : {w : Width} (v : Width) {n : ℕ} {z : ℤ} {b : ℕ} → Got w n z b → pos 0 ≤ℤ z → T (ltb b (2 ^ bits v))
    → T (non_neg (to_z w n)) × Fits v (nat_abs (to_z w n))
need_unsigned {w} v {n} {z} {b} g h t =
    rw g.reads (yes_non_neg h, record { fits = lt_of_le_of_lt g.bound.within (ltb→lt b (2 ^ bits v) t) })
