-- Numbers of a width: which of them have a sign.
use Rattle.std.proofs.Common.{◌≡◌, ℕ, zero, suc, ◌+◌, ◌-◌, ◌^◌, ◌<◌, ◌≤◌, List, ◌++◌, codes, decimal, nat_lt, if◌then◌else◌, arith, refl, ap, ◌∙◌}
use Rattle.std.proofs.lemmas.Bool.{lt-ltb, le-ltb}
use Rattle.std.proofs.Math.Nat.{pow-le-pow_right}
use Rattle.text_laws.proofs.Values.{half_of}
use Rattle.ir_print.specs.Signed.{plain_or_signed}

-- a number's text where numbers below half of all have no sign
abbrev shown : ℕ → ℕ → ℕ → List ℕ
shown all half n = if nat_lt n all then (if nat_lt n half then decimal n else codes "-" ++ decimal (all - n)) else decimal n

low : (all half n : ℕ) → n < half → n < all → shown all half n ≡ decimal n
low all half n h k = rw (lt-ltb n all k, lt-ltb n half h)

high : (all half n : ℕ) → half ≤ n → n < all → shown all half n ≡ codes "-" ++ decimal (all - n)
high all half n h k = rw (lt-ltb n all k, le-ltb n half h)

above : (all half n : ℕ) → all ≤ n → shown all half n ≡ decimal n
above all half n h = rw (le-ltb n all h)

-- the one number of no bits has no sign
at_zero : (n : ℕ) → shown 1 1 n ≡ decimal n
at_zero zero = refl
at_zero (suc n) = above 1 1 (suc n) (omega arith)

pub plain_at_zero : (width n : ℕ) → width ≡ 0 → plain_or_signed width n ≡ decimal n
plain_at_zero zero n e = at_zero n
plain_at_zero (suc k) n e = absurd (omega arith)

-- a number of 64 bits has no sign at a larger width
pub plain_when_wide : (width n : ℕ) → 64 < width → n < 2 ^ 64 → plain_or_signed width n ≡ decimal n
plain_when_wide width n wide h =
    let less : 64 ≤ width - 1 = omega arith in
    let more : 64 ≤ width = omega arith in
    let two : 0 < 2 = omega arith in
    let half : 2 ^ 64 ≤ 2 ^ (width - 1) = pow-le-pow_right two less in
    let all : 2 ^ 64 ≤ 2 ^ width = pow-le-pow_right two more in
    low (2 ^ width) (2 ^ (width - 1)) n (omega arith) (omega arith)

-- what is below all, and not below half of all, is as far below zero as it is below all
pub signed_when_high : (width n half : ℕ) → 0 < width → half ≡ 2 ^ (width - 1) → half ≤ n → n - half < half → plain_or_signed width n ≡ codes "-" ++ decimal (half - (n - half))
signed_when_high width n half w e h k =
    let all : 2 ^ width ≡ half + half = omega (arith, half_of width w) in
    high (2 ^ width) (2 ^ (width - 1)) n (omega arith) (omega arith) ∙ ap (λ (x : ℕ). codes "-" ++ decimal x) (omega arith)

pub plain_when_above : (width n half : ℕ) → 0 < width → half ≡ 2 ^ (width - 1) → half ≤ n - half → plain_or_signed width n ≡ decimal n
plain_when_above width n half w e h = above (2 ^ width) (2 ^ (width - 1)) n (omega (arith, half_of width w))
