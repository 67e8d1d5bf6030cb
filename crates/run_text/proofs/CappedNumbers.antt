-- Numbers above 64 bits, and the largest number that stands for them.
use Rattle.std.proofs.Common.{◌≡◌, ℕ, ◌+◌, ◌^◌, ◌<◌, ◌≤◌, List, [], ◌∷◌, length, drop, get_or, drop-cons, suc, Bool, true, false, cond, nat_lt, nat_le, refl, sym, ap, ◌∙◌, arith}
use Rattle.std.proofs.lemmas.List.{drop_all}
use Rattle.std.proofs.lemmas.Bool.{lt-ltb, le-ltb, ltb-true, ltb-false, lt-leb}
use Rattle.ir_core.specs.Numbers.{value_from, value_of}
use Rattle.run_text.specs.Capped.{capped, with_digit}

pub below : (n : ℕ) → n < 2 ^ 64 → capped n ≡ n
below n h = rw (lt-ltb n (2 ^ 64) h)

pub above : (n : ℕ) → 2 ^ 64 ≤ n → capped n ≡ 2 ^ 64
above n h = rw (le-ltb n (2 ^ 64) h)

pub up_to : (n : ℕ) → n ≤ 2 ^ 64 → capped n ≡ n
up_to n h = by (nat_lt n (2 ^ 64)) refl
  where
    by : (b : Bool) → nat_lt n (2 ^ 64) ≡ b → cond b n (2 ^ 64) ≡ n
    by true e = refl
    by false e = let l = ltb-false n (2 ^ 64) e in omega arith

-- more digits spell no smaller number
grows : (n : ℕ) (cs : List ℕ) → n ≤ value_from n cs
grows n [] = omega arith
grows n (c ∷ cs) = let h = grows (with_digit n c) cs in omega arith

high : (n : ℕ) → 2 ^ 64 ≤ n → capped n ≡ 2 ^ 64
high n h = by (nat_lt n (2 ^ 64)) refl
  where
    by : (b : Bool) → nat_lt n (2 ^ 64) ≡ b → cond b n (2 ^ 64) ≡ 2 ^ 64
    by false e = refl
    by true e = let l = ltb-true n (2 ^ 64) e in omega arith

-- what is above is as the largest, also when more digits follow
pub capped_from : (n : ℕ) (cs : List ℕ) → capped (value_from (capped n) cs) ≡ capped (value_from n cs)
capped_from n cs = by (nat_lt n (2 ^ 64)) refl
  where
    by : (b : Bool) → nat_lt n (2 ^ 64) ≡ b → capped (value_from (cond b n (2 ^ 64)) cs) ≡ capped (value_from n cs)
    by true e = refl
    by false e =
        let g = grows (2 ^ 64) cs in
        let h = grows n cs in
        let l = ltb-false n (2 ^ 64) e in
        high (value_from (2 ^ 64) cs) g ∙ sym (high (value_from n cs) (omega arith))

pub in_cap : (n : ℕ) → capped n ≤ 2 ^ 64
in_cap n = by (nat_lt n (2 ^ 64)) refl
  where
    by : (b : Bool) → nat_lt n (2 ^ 64) ≡ b → cond b n (2 ^ 64) ≤ 2 ^ 64
    by true e = let l = ltb-true n (2 ^ 64) e in omega arith
    by false e = omega arith

-- ---- digit by digit

pub next_capped : (next n i : ℕ) (ds : List ℕ) → i < length ds → next ≡ capped (with_digit n (get_or ds i 0)) → capped (value_from n (drop i ds)) ≡ capped (value_of ds) → (next ≤ 2 ^ 64) × (capped (value_from next (drop (i + 1) ds)) ≡ capped (value_of ds))
next_capped next n i ds inside e so_far =
    let next_is : i + 1 ≡ suc i = omega arith in
    let within = in_cap (with_digit n (get_or ds i 0)) in (
      omega arith,
      ap (λ m. capped (value_from m (drop (i + 1) ds))) e
          ∙ capped_from (with_digit n (get_or ds i 0)) (drop (i + 1) ds)
          ∙ ap (λ k. capped (value_from (with_digit n (get_or ds i 0)) (drop k ds))) next_is
          ∙ ap (λ l. capped (value_from n l)) (sym (drop-cons ds i 0 inside))
          ∙ so_far,
    )

pub all_capped : (n i : ℕ) (ds : List ℕ) → n ≤ 2 ^ 64 → length ds ≤ i → capped (value_from n (drop i ds)) ≡ capped (value_of ds) → n ≡ capped (value_of ds)
all_capped n i ds h l so_far = sym (up_to n h) ∙ ap (λ (r : List ℕ). capped (value_from n r)) (sym (drop_all i ds l)) ∙ so_far

-- ---- ranges

-- a number in a range below the largest is itself, and one above it stays above
pub by_cap : (n limit : ℕ) → limit < 2 ^ 64 → nat_le (capped n) limit ≡ nat_le n limit
by_cap n limit h = by (nat_lt n (2 ^ 64)) refl
  where
    by : (b : Bool) → nat_lt n (2 ^ 64) ≡ b → nat_le (cond b n (2 ^ 64)) limit ≡ nat_le n limit
    by true e = refl
    by false e = let l = ltb-false n (2 ^ 64) e in lt-leb (2 ^ 64) limit h ∙ sym (lt-leb n limit (omega arith))
