-- M-103, of the six instructions: from 32 on each leaves 0, but ASR and ASRI leave -1 of a negative word, and the flags follow that. The
-- amount is what r3 holds, or imm. By cases on the opcode.
use Prim.Native.Nat.{ℕ, zero, suc, ◌+◌, ◌-◌, ◌≤◌, ◌<◌}
use mathlib.Core.Path.{◌≡◌, refl, sym, ap, subst, ◌∙◌}
use mathlib.Core.Bool.{Bool, true, false, ◌&&◌, ◌||◌, not}
use native.Mathlib.Omega.{arith}
use lib.Dec.{eqb}
use borrow.Author.Tests.{le-leb, ne_eqb}
use Rattle.rules.specs.Folds.{choose}
use Rattle.instructions.specs.Opcodes.{LD, ST, LI, LSL, LSR, ASR, LSLI, LSRI, ASRI, DOT}
use Rattle.instructions.specs.Words.{opcode, in_r2}
use Rattle.instructions.specs.Arithmetic.{operand, value, result, negative_flag, zero_flag}
use Rattle.instructions.specs.Step.{Machine, performed}
use Rattle.instructions.proofs.Effects.{flags_follow}
use Rattle.instructions.proofs.Shifts.{lsl_from_32, lsr_from_32, asr_from_32}

-- from LSL to ASRI, one after another
each_shift : (P : ℕ → Type 0) (op : ℕ) → LSL ≤ op → op ≤ ASRI → P LSL → P LSR → P ASR → P LSLI → P LSRI → P ASRI → P op
each_shift P op low high lsl lsr asr lsli lsri asri = go (op - LSL) (omega arith)
  where
    go : (j : ℕ) → op ≡ LSL + j → P op
    go zero e = subst P (sym e) lsl
    go (suc zero) e = subst P (sym e) lsr
    go (suc (suc zero)) e = subst P (sym e) asr
    go (suc (suc (suc zero))) e = subst P (sym e) lsli
    go (suc (suc (suc (suc zero)))) e = subst P (sym e) lsri
    go (suc (suc (suc (suc (suc zero))))) e = subst P (sym e) asri
    go (suc (suc (suc (suc (suc (suc j)))))) e = absurd (omega (arith, e, high))

-- where -1 is left: by ASR and ASRI, of a negative word
abbrev pub leaves_minus_one : ℕ → ℕ → Bool
leaves_minus_one op a = (eqb op ASR || eqb op ASRI) && negative_flag a

long-value : (op a k : ℕ) → LSL ≤ op → op ≤ ASRI → a < 4294967296 → 32 ≤ k
    → value op a k ≡ choose (leaves_minus_one op a) 4294967295 0
unfolding value
long-value op a k low high l h =
    each_shift (λ o. value o a k ≡ choose (leaves_minus_one o a) 4294967295 0) op low high
    (lsl_from_32 a k h) (lsr_from_32 a k l h) (asr_from_32 a k l h)
    (lsl_from_32 a k h) (lsr_from_32 a k l h) (asr_from_32 a k l h)

module _ (m : Machine) (w : ℕ) (low : LSL ≤ opcode w) (high : opcode w ≤ ASRI)
    (l : in_r2 m.state.regs w < 4294967296) (h : 32 ≤ operand m.state.regs w) where
  pub long-result : result m.memory m.state.regs w ≡ choose (leaves_minus_one (opcode w) (in_r2 m.state.regs w)) 4294967295 0
  unfolding result
  long-result =
      let op : ℕ = opcode w in
      rw (ne_eqb op LD (λ q. omega arith), ne_eqb op LI (λ q. omega arith), ne_eqb op DOT (λ q. omega arith))
      (long-value op (in_r2 m.state.regs w) (operand m.state.regs w) low high l h)

  pub long-flags :
      ((performed m w).state.negative ≡ leaves_minus_one (opcode w) (in_r2 m.state.regs w))
      × ((performed m w).state.zero ≡ not (leaves_minus_one (opcode w) (in_r2 m.state.regs w)))
  long-flags =
      let op : ℕ = opcode w in
      let (n, z) = flags_follow m w (rw (le-leb op ASRI high, ne_eqb op ST (λ q. omega arith))) in
      let left : Bool = leaves_minus_one op (in_r2 m.state.regs w) in
      let e = long-result in
      (n ∙ ap (λ (v : ℕ). negative_flag v) e ∙ negative left, z ∙ ap (λ (v : ℕ). zero_flag v) e ∙ is_zero left)
    where
      negative : (b : Bool) → negative_flag (choose b 4294967295 0) ≡ b
      negative true = refl
      negative false = refl

      is_zero : (b : Bool) → zero_flag (choose b 4294967295 0) ≡ not b
      is_zero true = refl
      is_zero false = refl
