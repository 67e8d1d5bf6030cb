-- Digits that spell a number above 2^64.
use Rattle.std.proofs.Common.{◌≡◌, ℕ, suc, ◌<◌, ◌≤◌, ◌^◌, List, [], ◌∷◌, length, drop, get_or, Option, Some, None, Bool, true, false, cond, nat_lt, refl, sym, ap, ◌∙◌, arith, drop-cons}
use Rattle.std.proofs.lemmas.Bool.Decides.{nat_tests}
use Rattle.ir_core.specs.Numbers.{value_from}
use Rattle.read_forms.specs.Widths.{in_word, with_digit}

-- more digits spell no smaller number
grows : (n : ℕ) (cs : List ℕ) → n ≤ value_from n cs
grows n [] = omega arith
grows n (c ∷ cs) = let h = grows (with_digit n c) cs in omega arith

in_word_by : (n : ℕ) (b : Bool) → nat_lt n (2 ^ 64) ≡ b → in_word n ≡ None → 2 ^ 64 ≤ n
in_word_by n true t e = let f : ◌≡◌ {A = Option ℕ} (Some n) None = sym (ap (λ (c : Bool). cond c (Some n) None) t) ∙ e in let g : ⊥ = cc in absurd g
in_word_by n false t e = grind (arith, nat_tests)

above_word : (n : ℕ) → 2 ^ 64 ≤ n → in_word n ≡ None
above_word n h = let t : nat_lt n (2 ^ 64) ≡ false = grind (arith, nat_tests) in ap (λ (c : Bool). cond c (Some n) None) t

pub digits_fail : (n i : ℕ) (s : List ℕ) (v : ℕ) → i < length s → value_from n (drop i s) ≡ v → in_word (with_digit n (get_or s i 0)) ≡ None → in_word v ≡ None
digits_fail n i s v l e f =
    let h = in_word_by (with_digit n (get_or s i 0)) (nat_lt (with_digit n (get_or s i 0)) (2 ^ 64)) refl f in
    let k = grows (with_digit n (get_or s i 0)) (drop (suc i) s) in
    let d : value_from n (get_or s i 0 ∷ drop (suc i) s) ≡ v = ap (value_from n) (sym (drop-cons s i 0 l)) ∙ e in
    above_word v (omega arith)
