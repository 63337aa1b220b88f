-- The mask of 64 columns has the four masks as its digits, each below 2^16.
use Rattle.std.proofs.Common.{◌≡◌, ◌+◌, ◌/◌, ◌<◌, [], ◌∷◌, bit_and, ◌∙◌, arith}
use Rattle.std.proofs.lemmas.Nat.{and_mask}
use Rattle.masks.specs.Mask.{mask_of}
use Rattle.masks.specs.Span.{in_span}
use Rattle.masks.proofs.Mask.{mask_lt, wide_is}
use Rattle.masks.proofs.Masks.of_span.Goals as goal

pub returns : goal.returns
returns c =
    let a = c.args in
    let f = in_span a.first a.past in
    let n = c.wide_mask-w.result in
    let w = c.wide_mask-w.ensures in
    let p : mask_of (λ k. f (16 + k)) 16 < 65536 = mask_lt (λ k. f (16 + k)) 16 in
    let q : mask_of (λ k. f (32 + k)) 16 < 65536 = mask_lt (λ k. f (32 + k)) 16 in
    let r : mask_of (λ k. f (48 + k)) 16 < 65536 = mask_lt (λ k. f (48 + k)) 16 in
    let one : n / 281474976710656 ≡ mask_of f 16 = omega (arith, w, wide_is f) in
    let two : bit_and (n / 4294967296) 65535 ≡ mask_of (λ k. f (16 + k)) 16 = and_mask (n / 4294967296) 16 ∙ omega (arith, w, wide_is f) in
    let three : bit_and (n / 65536) 65535 ≡ mask_of (λ k. f (32 + k)) 16 = and_mask (n / 65536) 16 ∙ omega (arith, w, wide_is f) in
    let four : bit_and n 65535 ≡ mask_of (λ k. f (48 + k)) 16 = and_mask n 16 ∙ omega (arith, w, wide_is f) in
    record { groups = λ i. one i ∷ two i ∷ three i ∷ four i ∷ [] }
